use Rattle.safe_groups.proofs.Common.{IsTrue, holds_place, Place}
use Rattle.safe_groups.specs.Private.Spaces.{AreNear}
use Rattle.safe_groups.proofs.near.near_chain.Given as goal

abbrev pub invariant-loop-stone : goal.invariant-loop-stone
invariant-loop-stone l =
    (goal.iterator-loop-stone).can_next l.stone-iterator
    × (goal.iterator-loop-stone).is_finite l.stone-iterator
    × AreNear l.fn.size l.chain l.near
    × ((q : Place) → IsTrue (holds_place l.stone-iterator q) → IsTrue (holds_place l.chain q))
