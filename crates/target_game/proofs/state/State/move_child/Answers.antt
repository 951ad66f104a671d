-- A quiet move whose key tells that it is legal.
use Rattle.target_game.proofs.Common.{◌≡◌, ◌<◌, ◌*◌, true, not, if◌then◌else◌, Some, None, sym, ◌∙◌, ap, mul-add-lt, number_of, move, key_of, Child, legal, next, over}
use Rattle.target_game.proofs.Playing.{legal_open}
use Rattle.target_game.proofs.state.State.move_child.Goals as goal

pub returns-in-Some : goal.returns-in-Some
returns-in-Some g c =
    let s = c.args.self.now.state in
    let p = number_of s.game.size c.args.point in
    let on : p < s.game.size * s.game.size = mul-add-lt c.args.point.row s.game.size c.args.point.column s.game.size c.requires.row_within c.requires.column_within in
    let made : legal s (move p) ≡ true = legal_open s p on (sym c.is_open.ensures ∙ c.if-not-is_open.false) ∙ ap not c.in-Some.ensures.fresh in
    let child : Child = record { key = key_of (next s (move p)).colouring; winner = over (next s (move p)) } in
    let told : Some (record { key = c.in-Some.key; winner = c.winner_after_quiet.result }) ≡ Some child =
    λ i. Some (record { key = c.in-Some.ensures.is_key i; winner = c.winner_after_quiet.ensures i }) in
    told ∙ sym (ap (λ b. if b then Some child else None) made)
