use Rattle.std.proofs.Common.{◌≡◌}
use Rattle.stone_key.proofs.Keys.{key_below}
use Rattle.stone_key.proofs.key.key_of.Given as goal

abbrev pub invariant-loop-number : goal.invariant-loop-number
invariant-loop-number l = l.key ≡ key_below l.colouring l.number
