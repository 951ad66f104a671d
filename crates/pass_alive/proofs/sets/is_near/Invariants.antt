use Rattle.pass_alive.proofs.Common.{◌≡◌, false, take, list_any, holds_place}
use Rattle.pass_alive.proofs.sets.is_near.Given as goal

-- none so far is in the set
abbrev pub invariant-loop-neighbour : goal.invariant-loop-neighbour
invariant-loop-neighbour l = list_any (holds_place l.set) (take l.neighbour-index l.neighbour-items) ≡ false
