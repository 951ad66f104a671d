use Rattle.safe_groups.proofs.Common.{◌≡◌, sym, ◌∙◌, ap, subst, ◌*◌, ◌<◌, side_of}
unfoldable use Rattle.go_points.specs.Clear.{clear}
unfoldable use Rattle.dead_groups.specs.Kills.{freed}
use Rattle.dead_groups.specs.Ground.{kill_area, masked_cell}
use Rattle.dead_groups.proofs.Grounds.{unsafe_by}
use Rattle.dead_groups.proofs.states.without_unsafe.Goals as goal

pub returns-clause-value : goal.returns-clause-value
returns-clause-value c =
    let g = c.args.ground.now in let s = c.args.state.now in let n = side_of g.cells in
    let left = c.cleared-left.result in
    let side : side_of left ≡ n = c.cleared-left.ensures.size ∙ c.freed.ensures.side in
    let is : left ≡ clear n (freed (kill_area g) s) g.keeper = c.cleared-left.ensures.value ∙ ap (λ m. clear m c.freed.result g.keeper) c.freed.ensures.side ∙ ap (λ d. clear n d g.keeper) c.freed.ensures.value in
    unsafe_by g s c.masked.result left (c.masked.ensures.full ∙ ap (λ m. m * m) side) is
    (λ p on. c.masked.ensures.cells p (subst (λ m. p < m * m) (sym side) on) ∙ ap (λ x. masked_cell g.cells x s left p) c.own.ensures)
