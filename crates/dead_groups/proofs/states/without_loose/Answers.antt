use Rattle.safe_groups.proofs.Common.{◌≡◌, sym, ◌∙◌, ap, subst, ◌*◌, ◌<◌, opponent_of, side_of}
unfoldable use Rattle.go_points.specs.Clear.{clear}
unfoldable use Rattle.safe_groups.specs.Areas.{opened}
use Rattle.dead_groups.specs.Ground.{kill_area, masked_cell}
use Rattle.dead_groups.proofs.Grounds.{loose_by}
use Rattle.dead_groups.proofs.states.without_loose.Goals as goal

pub returns-clause-value : goal.returns-clause-value
returns-clause-value c =
    let g = c.args.ground.now in let s = c.args.state.now in let n = side_of g.cells in
    let left = c.cleared-left.result in let k = opponent_of g.keeper in
    let side : side_of left ≡ n = c.cleared-left.ensures.size ∙ c.opened.ensures.side in
    let is : left ≡ clear n (opened (kill_area g) s) k = c.cleared-left.ensures.value ∙ ap (λ m. clear m c.opened.result c.opponent.result) c.opened.ensures.side ∙ ap (clear n c.opened.result) c.opponent.ensures ∙ ap (λ d. clear n d k) c.opened.ensures.value in
    loose_by g s c.masked.result left (c.masked.ensures.full ∙ ap (λ m. m * m) side) is
    (λ p on. c.masked.ensures.cells p (subst (λ m. p < m * m) (sym side) on) ∙ ap (λ x. masked_cell g.cells x s left p) c.theirs.ensures)
