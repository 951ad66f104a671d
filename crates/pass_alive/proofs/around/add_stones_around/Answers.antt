use Rattle.pass_alive.proofs.Common.{◌+◌, List, sym, ◌∙◌, subst, or_right, side_of, Place, IsOn, number_of, holds_place}
use Rattle.pass_alive.proofs.Members.{beside_those, beside_on}
use Rattle.pass_alive.proofs.Gathered.{StonesSoFar, stones_kept, stones_more, stones_all}
use Rattle.pass_alive.proofs.around.add_stones_around.Goals as goal
use Rattle.pass_alive.proofs.around.add_stones_around.Goals.{then-has+then-not-has, else-has, else-has-via-then-has+else-not-has, else-has-via-else-has}

pub loop-neighbour-preserved : goal.loop-neighbour-preserved
loop-neighbour-preserved c =
    let n = side_of c.args.board.now in
    let stones = c.args.stones.now in
    let late = c.args.late.now in
    let old = c.args.set.now in
    let now = c.loop-neighbour.set in
    let x = c.neighbour-item.result in
    let items = c.as_slice-neighbour-items.result.now in
    let i = c.loop-neighbour.neighbour-index in
    let low = c.loop-neighbour-test.true in
    let is = c.neighbour-item.is in
    let on : IsOn n x = beside_on n c.size.result c.size.ensures c.args.point c.neighbours-neighbours.result.items items c.as_slice-neighbour-items.ensures.value c.neighbours-neighbours.ensures.on_board i x low is in
    elim c.if-has.branch [
      | then-has+then-not-has w ↦
          subst (λ (s : List Place). StonesSoFar n stones late old items (i + 1) s) (sym (w.set-is ∙ w.insert.ensures))
          (stones_more n stones late old items i x low is on now c.loop-neighbour.invariant (sym c.has.ensures ∙ w.if-has.true))
      | else-has w ↦
          subst (λ (s : List Place). StonesSoFar n stones late old items (i + 1) s) (sym w.set-is)
          (stones_kept n stones late old items i x low is on now c.loop-neighbour.invariant (λ stone. elim w.else-has.branch [
            | else-has-via-then-has+else-not-has v ↦ or_right (holds_place now x) (holds_place late x) (sym v.has-then-has.ensures ∙ v.if-not-has.false)
            | else-has-via-else-has v ↦ absurd (cc (c.has.ensures, v.if-has.false, stone))
          ]))
    ]

pub returns : goal.returns
returns c =
    let n = side_of c.args.board.now in
    let items = c.as_slice-neighbour-items.result.now in
    let those = beside_those n c.size.result c.size.ensures c.args.point c.neighbours-neighbours.result.items items c.as_slice-neighbour-items.ensures.value c.neighbours-neighbours.ensures.exact in
    stones_all n c.args.stones.now c.args.late.now c.args.set.now items c.loop-neighbour.neighbour-index (number_of n c.args.point) c.loop-neighbour-test.false those c.loop-neighbour.set c.loop-neighbour.invariant
