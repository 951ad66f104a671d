use Rattle.cert_check.proofs.Common.{rules, ◌≡◌, [], ◌∷◌, ◌++◌, ply_of}
use Rattle.cert_check.proofs.Known.{one_kept_more}
use Rattle.cert_check.proofs.body_state.BodyState.after.Goals as goal

pub invariant_of-self-else-is_err : goal.invariant_of-self-else-is_err
invariant_of-self-else-is_err c =
    let pushed : c.push.new.self.items ≡ c.self.inside.known.items ++ c.colouring.result ∷ [] = search rules in
    one_kept_more _ _ c.self.inside.fixed c.self.inside.state _ (ply_of c.self.inside.state.state.game.size c.args.turn) _ c.in_ok-after.ensures.ok c.colouring.ensures pushed c.self.invariant
