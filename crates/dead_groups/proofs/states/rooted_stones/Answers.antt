use Rattle.safe_groups.proofs.Common.{◌≡◌, sym, ◌∙◌, ap, subst, cond, ◌*◌, ◌<◌, cell_at, same_cell, Empty, opponent_of, side_of}
unfoldable use Rattle.go_points.specs.Clear.{clear}
unfoldable use Rattle.safe_groups.specs.Areas.{opened}
use Rattle.dead_groups.specs.Ground.{kill_area}
use Rattle.dead_groups.proofs.Grounds.{rooted_left, left_theirs}
use Rattle.dead_groups.proofs.states.rooted_stones.Goals as goal

pub returns-clause-rooted : goal.returns-clause-rooted
returns-clause-rooted c =
    let g = c.args.ground.now in let s = c.args.state.now in let n = side_of g.cells in
    let filled = c.masked-filled.result in let k = opponent_of g.keeper in
    let side : side_of s ≡ n = c.requires in
    let is : c.cleared.result ≡ clear n (opened (kill_area g) filled) k = c.cleared.ensures.value ∙ ap (λ m. clear m c.opened.result c.opponent.result) c.opened.ensures.side ∙ ap (clear n c.opened.result) c.opponent.ensures ∙ ap (λ d. clear n d k) c.opened.ensures.value in
    rooted_left g s filled c.cleared.result
    (λ p on. c.masked-filled.ensures.cells p (subst (λ m. p < m * m) (sym side) on)
    ∙ ap (λ x. cond (same_cell (cell_at s p) Empty) x (cell_at s p)) (c.full_of.ensures.cells p (subst (λ m. p < m * m) (sym (c.size.ensures.value ∙ side)) on) ∙ c.own.ensures))
    (c.masked-filled.ensures.full ∙ ap (λ m. m * m) side) is

pub returns-clause-only : goal.returns-clause-only
returns-clause-only c =
    let g = c.args.ground.now in let s = c.args.state.now in let n = side_of g.cells in
    let filled = c.masked-filled.result in let k = opponent_of g.keeper in
    let side : side_of s ≡ n = c.requires in
    let is : c.cleared.result ≡ clear n (opened (kill_area g) filled) k = c.cleared.ensures.value ∙ ap (λ m. clear m c.opened.result c.opponent.result) c.opened.ensures.side ∙ ap (clear n c.opened.result) c.opponent.ensures ∙ ap (λ d. clear n d k) c.opened.ensures.value in
    left_theirs g s filled c.cleared.result
    (λ p on. c.masked-filled.ensures.cells p (subst (λ m. p < m * m) (sym side) on)
    ∙ ap (λ x. cond (same_cell (cell_at s p) Empty) x (cell_at s p)) (c.full_of.ensures.cells p (subst (λ m. p < m * m) (sym (c.size.ensures.value ∙ side)) on) ∙ c.own.ensures))
    (c.masked-filled.ensures.full ∙ ap (λ m. m * m) side) is
