use Rattle.full_search.proofs.Common.{◌≡◌, [], start}
use Rattle.full_search.proofs.Deepening.{Undecided, Begun}
use Rattle.full_search.proofs.search.search_depths.Given as goal

abbrev pub invariant-loop-turns : goal.invariant-loop-turns
invariant-loop-turns l = (l.state ≡ record { state = start l.problem; before = [] }) × (Undecided (start l.problem) l.turns l.initial.left l.left × Begun l.turns l.initial.left l.left)
