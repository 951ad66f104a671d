use Rattle.target_game.proofs.Common.{◌≡◌, ◌∙◌, sym, ap, subst, Some, true, false, Colour, Line, over, targets_stand, kept_state, kept_game}
use Rattle.target_game.proofs.Playing.{winner_is}
use Rattle.target_game.proofs.state.State.winner_at.Goals as goal

pub returns-then-stand_in : goal.returns-then-stand_in
returns-then-stand_in g c =
    let s = c.args.self.now.state in
    sym (winner_is s c.args.colouring.now true (sym c.if-stand_in.true ∙ c.stand_in.ensures))

pub returns-else-stand_in : goal.returns-else-stand_in
returns-else-stand_in g c =
    let d = c.args.colouring.now in
    subst (λ (v : Line). Some c.opponent.result ≡ over (record v.state { colouring = d; passes = 0 })) c.self.view_is
    (ap (λ (x : Colour). Some x) c.opponent.ensures
    ∙ sym (winner_is (kept_state (kept_game c.self.inside.played.size c.self.inside.targets c.self.inside.defender c.self.inside.region) c.self.inside.mover c.self.inside.played.present) d false
    (sym c.if-stand_in.false ∙ subst (λ (v : Line). c.stand_in.result ≡ targets_stand (record v.state { colouring = d })) (sym c.self.view_is) c.stand_in.ensures)))
