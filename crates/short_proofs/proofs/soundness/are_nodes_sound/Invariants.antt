use Rattle.std.specs.Prelude.{◌≡◌, ◌+◌, ℕ, length}
use Rattle.solution_tree.specs.Questions.{Leads, follows}
use Rattle.short_proofs.specs.Sound.{AreSound}
use Rattle.short_proofs.proofs.soundness.are_nodes_sound.Given as goal

abbrev pub invariant-loop-node : goal.invariant-loop-node
invariant-loop-node l =
    (made : ℕ) × (made + length l.left ≡ length l.nodes)
    × Leads made l.initial.state l.state
    × (l.state.state.game ≡ l.problem.game)
    × (AreSound l.winner l.state.state (follows l.left l.children) → AreSound l.winner l.initial.state.state (follows l.nodes l.children))

abbrev pub decreases-loop-node : goal.decreases-loop-node
decreases-loop-node l = length l.left
