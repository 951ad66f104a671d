use Rattle.std.specs.Prelude.{◌≡◌, ◌≤◌, ◌+◌, ◌*◌, length}
use Rattle.sgf_text.specs.Trees.{forest_of, forest_count}
use Rattle.solution_tree.specs.Below.{nodes_of}
use Rattle.short_proofs.specs.Sound.{AreSound}
use Rattle.short_proofs.proofs.soundness.+soundness.Given as goal

abbrev pub decreases-is_sequence_sound : goal.decreases-is_sequence_sound
decreases-is_sequence_sound a = 2 * forest_count (forest_of a.children.now) + 1

abbrev pub decreases-are_children_sound : goal.decreases-are_children_sound
decreases-are_children_sound a = 2 * forest_count (forest_of a.children.now)

abbrev pub invariant-are_children_sound-loop-child : goal.invariant-are_children_sound-loop-child
invariant-are_children_sound-loop-child l =
    (l.state ≡ l.initial.state)
    × (forest_count (forest_of l.left) ≤ forest_count (forest_of l.children))
    × (AreSound l.winner l.initial.state.state (nodes_of (forest_of l.left)) → AreSound l.winner l.initial.state.state (nodes_of (forest_of l.children)))

abbrev pub decreases-are_children_sound-loop-child : goal.decreases-are_children_sound-loop-child
decreases-are_children_sound-loop-child l = length l.left
