use Rattle.gtp_core.proofs.Common.{◌≡◌, [], length, All, IsOn, words_of, with_points}
use Rattle.gtp_core.proofs.order.points_named.Given as goal

abbrev pub invariant-loop-word : goal.invariant-loop-word
invariant-loop-word l = (with_points l.size l.set (words_of l.left) ≡ with_points l.size [] (words_of l.words)) × All (IsOn l.size) l.set

abbrev pub decreases-loop-word : goal.decreases-loop-word
decreases-loop-word l = length (words_of l.left)
