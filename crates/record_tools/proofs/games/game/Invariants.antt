use Rattle.std.proofs.Common.{◌-◌}
use Rattle.record_tools.proofs.Collection.{Decides}
use Rattle.record_tools.proofs.games.game.Given as goal

abbrev pub invariant-loop-passed : goal.invariant-loop-passed
invariant-loop-passed l = Decides (l.number - l.passed) l.rest l.number l.text
