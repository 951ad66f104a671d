use Rattle.go_turns.proofs.Common.{◌≡◌, ◌*◌, true, nat_lt, map, take, list_all, side_of, numbered, assigned}
use Rattle.go_turns.proofs.record.with_cells.Given as goal

-- the points so far are on the board, and assigned
abbrev pub invariant-loop-assignment : goal.invariant-loop-assignment
invariant-loop-assignment l = record {
  size : side_of l.after ≡ side_of l.colouring;
  on_board : list_all (λ a. nat_lt a.0 (side_of l.colouring * side_of l.colouring)) (map (numbered (side_of l.colouring)) (take l.assignment-index l.cells)) ≡ true;
  value : l.after ≡ assigned l.colouring (map (numbered (side_of l.colouring)) (take l.assignment-index l.cells));
}
