use Rattle.tsumego_problem.proofs.Common.{true, false, cond, Some, None, refl, sym, ◌∙◌, ap, subst, points, number_of, inside, Adds}
use Rattle.std.proofs.Common.{filter}
use Rattle.tsumego_problem.proofs.Rectangles.{corners}
use Rattle.tsumego_problem.proofs.named_points.add_rectangle.Goals as goal

pub returns-then-are_corners : goal.returns-then-are_corners
returns-then-are_corners c =
    let n = c.args.size in let p = c.in-Some.upper in let q = c.in-Some-sgf_point.lower in
    subst (λ o. Adds n o true c.args.set.now c.add_inside.new.set)
    (sym (corners n c.area.ensures.most c.args.first.now c.args.last.now c.requires.first c.requires.last p q (sym c.sgf_point.ensures ∙ c.in-Some.is) (sym c.sgf_point-2.ensures ∙ c.in-Some-sgf_point.is)
    ∙ ap (λ b. cond b (Some (filter (inside n (number_of n p) (number_of n q)) (points n))) None) (sym c.are_corners.ensures ∙ c.if-are_corners.true)))
    (refl, c.add_inside.ensures)

pub returns-else-are_corners : goal.returns-else-are_corners
returns-else-are_corners c =
    let n = c.args.size in let p = c.in-Some.upper in let q = c.in-Some-sgf_point.lower in
    subst (λ o. Adds n o false c.args.set.now c.args.set.now)
    (sym (corners n c.area.ensures.most c.args.first.now c.args.last.now c.requires.first c.requires.last p q (sym c.sgf_point.ensures ∙ c.in-Some.is) (sym c.sgf_point-2.ensures ∙ c.in-Some-sgf_point.is)
    ∙ ap (λ b. cond b (Some (filter (inside n (number_of n p) (number_of n q)) (points n))) None) (sym c.are_corners.ensures ∙ c.if-are_corners.false)))
    refl
