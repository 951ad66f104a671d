use Rattle.tsumego_problem.proofs.Common.{◌≡◌, ◌+◌, ◌*◌, ◌<◌, ◌&&◌, nat_le, sym, ◌∙◌, ap, subst, arith, Place, number_of, with_place, inside}
use Rattle.tsumego_problem.proofs.Rectangles.{GainedBelow, gained_hit, gained_miss, inside_by}
use Rattle.tsumego_problem.proofs.named_points.add_inside.Goals as goal
use Rattle.tsumego_problem.proofs.named_points.add_inside.Goals.{then-is_inside, else-is_inside}

pub loop-number-preserved : goal.loop-number-preserved
loop-number-preserved c =
    let n = c.args.size in let k = c.loop-number.number in let p = c.args.first in let q = c.args.last in
    let t = inside n (number_of n p) (number_of n q) in
    let test : t k ≡ c.is_inside.result = inside_by n k p q c.requires.first c.requires.last ∙ sym (c.is_inside.ensures ∙ ap (λ (x : Place). nat_le p.column x.column && nat_le x.column q.column && nat_le p.row x.row && nat_le x.row q.row) c.point_at-point.ensures.place) in
    let on : k < n * n = omega (arith, c.loop-number-test.true, c.area-number-end.ensures.value) in
    elim c.if-is_inside.branch [
      | then-is_inside w ↦ subst (λ s. GainedBelow n t (k + 1) c.args.set.now s) (sym (w.set-is ∙ w.insert.ensures ∙ ap (with_place c.loop-number.set) c.point_at-point.ensures.place)) (gained_hit n k t c.args.set.now c.loop-number.set (omega (arith, c.area-number-end.ensures.least)) on (test ∙ w.if-is_inside.true) c.loop-number.invariant)
      | else-is_inside w ↦ subst (λ s. GainedBelow n t (k + 1) c.args.set.now s) (sym w.set-is) (gained_miss n k t c.args.set.now c.loop-number.set (test ∙ w.if-is_inside.false) c.loop-number.invariant)
    ]
