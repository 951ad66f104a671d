use Rattle.safe_groups.proofs.Common.{◌≡◌, ◌∙◌, ap, opponent_of, side_of, area_of}
unfoldable use Rattle.go_points.specs.Clear.{clear}
unfoldable use Rattle.safe_groups.specs.Areas.{opened}
use Rattle.safe_groups.proofs.Grounds.{loose_parts}
use Rattle.safe_groups.proofs.ground.Ground.without_loose.Goals as goal

pub returns-clause-value : goal.returns-clause-value
returns-clause-value c =
    let a = area_of c.args.self.now in let n = side_of c.args.self.now.cells in
    let k = opponent_of c.args.self.now.keeper in
    let is : c.cleared-left.result ≡ clear n (opened a c.args.state.now) k =
    c.cleared-left.ensures.value ∙ ap (λ m. clear m c.opened.result c.opponent.result) c.opened.ensures.side ∙ ap (clear n c.opened.result) c.opponent.ensures ∙ ap (λ d. clear n d k) c.opened.ensures.value in
    loose_parts a c.args.state.now c.cleared-left.result c.patched.result is c.patched.ensures.full c.patched.ensures.cells
