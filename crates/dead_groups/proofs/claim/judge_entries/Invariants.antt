use Rattle.dead_groups.specs.Ground.{targets_of}
use Rattle.dead_groups.specs.Private.Judged.{AreJudged}
use Rattle.dead_groups.proofs.claim.judge_entries.Given as goal

abbrev pub invariant-loop : goal.invariant-loop
invariant-loop g l = AreJudged l.problem l.kill.ground (targets_of l.kill.ground l.kill.targets) l.list
