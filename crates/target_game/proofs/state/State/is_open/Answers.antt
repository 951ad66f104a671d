use Rattle.target_game.proofs.Common.{◌≡◌, ◌&&◌, ◌∙◌, sym, ap, subst, Empty, cell_at, same_cell, IsOn, number_of, colouring_of, Line, holds_point}
use Rattle.target_game.proofs.Playing.{open_is, closed_is}
use Rattle.target_game.proofs.state.State.is_open.Goals as goal

pub returns-then-has : goal.returns-then-has
returns-then-has g c =
    let p = c.args.point in
    let n = c.self.inside.played.size in
    let on : IsOn n p = subst (λ (v : Line). IsOn v.state.game.size p) (sym c.self.view_is) c.requires in
    subst (λ (v : Line). c.is_empty.result ≡ holds_point v.state.game.region (number_of v.state.game.size p) && same_cell (cell_at v.state.colouring (number_of v.state.game.size p)) Empty) c.self.view_is
    (open_is n c.self.inside.region p (cell_at (colouring_of c.self.inside.played.present) (number_of n p)) c.has.result c.is_empty.result c.self.invariant.1 on c.has.ensures c.if-has.true
    (c.is_empty.ensures ∙ ap (λ a. same_cell a Empty) c.cell.ensures))

pub returns-else-has : goal.returns-else-has
returns-else-has g c =
    let p = c.args.point in
    let n = c.self.inside.played.size in
    let on : IsOn n p = subst (λ (v : Line). IsOn v.state.game.size p) (sym c.self.view_is) c.requires in
    subst (λ (v : Line). c.has.result ≡ holds_point v.state.game.region (number_of v.state.game.size p) && same_cell (cell_at v.state.colouring (number_of v.state.game.size p)) Empty) c.self.view_is
    (closed_is n c.self.inside.region p (cell_at (colouring_of c.self.inside.played.present) (number_of n p)) c.has.result c.self.invariant.1 on c.has.ensures c.if-has.false)
