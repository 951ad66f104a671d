use Rattle.go_turns.proofs.Common.{◌≡◌, side_of}
use Rattle.go_turns.proofs.Removal.{ClearedSoFar}
use Rattle.go_turns.proofs.clearing.remove_unmarked.Given as goal

abbrev pub invariant-loop-number : goal.invariant-loop-number
invariant-loop-number l = record {
  side : side_of l.colouring ≡ side_of l.initial.colouring;
  so_far : ClearedSoFar (side_of l.initial.colouring) l.initial.colouring l.colour l.colouring l.removed l.number;
}
