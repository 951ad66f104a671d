use Rattle.cert_check.proofs.Common.{◌≡◌, ◌≤◌, ℕ, length, map, [], GameState, lemma_of, node_of, answers_behind, expand_node, first_turn_of}
use Rattle.cert_check.proofs.FirstNodes.{first_at}
use Rattle.cert_check.proofs.first_turn.first_of.Given as goal

-- the tree that was come to has the first turn of the whole
abbrev pub invariant-loop-part : goal.invariant-loop-part
invariant-loop-part l = (l.below ≤ length l.lemmas)
    × ((n : ℕ) (s : GameState) → first_at n l.lemmas l.below s l.part ≡ first_turn_of (expand_node (answers_behind [] (map (lemma_of n) l.lemmas)) (node_of n l.node) s))

abbrev pub decreases-loop-part : goal.decreases-loop-part
decreases-loop-part l = l.below
