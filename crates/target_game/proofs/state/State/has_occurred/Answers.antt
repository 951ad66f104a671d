use Rattle.target_game.proofs.Common.{rules, ◌≡◌, ◌∙◌, ap, is_some, place_in}
use Rattle.target_game.proofs.Playing.{occurred_is}
use Rattle.target_game.proofs.state.State.has_occurred.Goals as goal

pub returns : goal.returns
returns g c =
    let h = c.args.self.now.state.history in
    let d = c.args.position.now in
    let found : c.holds_with.result ≡ place_in h d = search rules in
    c.is_some.ensures ∙ ap is_some found ∙ occurred_is h d
