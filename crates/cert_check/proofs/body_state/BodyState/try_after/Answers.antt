use Rattle.cert_check.proofs.Common.{rules, ◌≡◌, Bool, true, [], ◌∷◌, ◌++◌, ap, ◌∙◌, Ply, ply_of}
use Rattle.target_game.specs.State.{Line}
use Rattle.target_game.specs.Left.{line_if}
use Rattle.cert_check.proofs.Known.{one_kept_more}
use Rattle.cert_check.proofs.body_state.BodyState.try_after.Goals as goal

pub invariant_of-self-else-is_err : goal.invariant_of-self-else-is_err
invariant_of-self-else-is_err c =
    let l : Line = c.self.inside.state in
    let t : Ply = ply_of l.state.game.size c.args.turn in
    let made : c.in_ok-try_after.field-0 ≡ true = search rules in
    let pushed : c.push.new.self.items ≡ c.self.inside.known.items ++ c.colouring.result ∷ [] = search rules in
    one_kept_more _ _ c.self.inside.fixed l _ t _ (c.in_ok-try_after.ensures.state ∙ ap (λ (b : Bool). line_if b l t) made) c.colouring.ensures pushed c.self.invariant
