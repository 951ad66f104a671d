use Rattle.target_game.proofs.Common.{sym, ap, ◌∙◌, not, ◌<◌, ◌*◌, mul-add-lt, number_of, has_occurred}
use Rattle.target_game.proofs.Playing.{legal_open}
use Rattle.target_game.proofs.state.State.may_fill.Goals as goal

pub returns-in-Some : goal.returns-in-Some
returns-in-Some g c =
    let s = c.args.self.now.state in
    let p = number_of s.game.size c.args.point in
    let on : p < s.game.size * s.game.size = mul-add-lt c.args.point.row s.game.size c.args.point.column s.game.size c.requires.on_board.row_within c.requires.on_board.column_within in
    ap not (sym c.in-Some.ensures.fresh) ∙ sym (legal_open s p on c.requires.free)

pub returns : goal.returns
returns g c =
    let s = c.args.self.now.state in
    let p = number_of s.game.size c.args.point in
    let on : p < s.game.size * s.game.size = mul-add-lt c.args.point.row s.game.size c.args.point.column s.game.size c.requires.on_board.row_within c.requires.on_board.column_within in
    ap not c.has_occurred.ensures
    ∙ ap (λ x. not (has_occurred s.history x)) c.position_after.ensures.value
    ∙ sym (legal_open s p on c.requires.free)
