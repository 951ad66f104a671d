use Rattle.tsumego_problem.proofs.Common.{sym, ◌∙◌, subst, true, points_named, Adds}
use Rattle.tsumego_problem.proofs.Rectangles.{adds_point}
use Rattle.tsumego_problem.proofs.named_points.add_point.Goals as goal

pub returns-in-Some : goal.returns-in-Some
returns-in-Some c = subst (λ s. Adds c.args.size (points_named c.args.size c.args.letters.now) true c.args.set.now s) (sym c.insert.ensures) (adds_point c.args.size c.area.ensures.most c.args.letters.now c.in-Some.point c.args.set.now c.area.ensures.least c.requires (sym c.sgf_point.ensures ∙ c.in-Some.is))
