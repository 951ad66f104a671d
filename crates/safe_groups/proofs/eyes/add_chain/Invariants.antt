use Rattle.safe_groups.proofs.Common.{IsTrue, side_of, number_of, holds_place, Place}
use Rattle.safe_groups.proofs.Spacing.{HasChain}
use Rattle.safe_groups.proofs.eyes.add_chain.Given as goal

abbrev pub invariant-loop-stone : goal.invariant-loop-stone
invariant-loop-stone l =
    (goal.iterator-loop-stone).can_next l.stone-iterator
    × (goal.iterator-loop-stone).is_finite l.stone-iterator
    × HasChain (side_of l.stones) l.stones (number_of (side_of l.stones) l.fn.point) l.initial.set l.set
    × ((q : Place) → IsTrue (holds_place l.stone-iterator q) → IsTrue (holds_place l.initial.stone-iterator q))
