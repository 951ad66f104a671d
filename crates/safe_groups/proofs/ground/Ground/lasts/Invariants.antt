use Rattle.safe_groups.proofs.Common.{side_of, AreJoined}
use Rattle.safe_groups.proofs.ground.Ground.lasts.Given as goal

abbrev pub invariant-loop : goal.invariant-loop
invariant-loop l = AreJoined (side_of l.self.cells) l.state l.number l.waiting
