use Rattle.cert_check.proofs.Common.{rules, ◌≡◌, [], ◌∷◌, state_alone}
use Rattle.cert_check.proofs.Known.{alone_kept}
use Rattle.cert_check.proofs.body_state.BodyState.begin.Goals as goal

pub invariant_of-self : goal.invariant_of-self
invariant_of-self c =
    let one : c.push.new.self.items ≡ c.args.root.now ∷ [] = search rules in
    let is : c.restart.new.self ≡ record { state = state_alone c.args.self.now.state.game c.args.root.now c.args.mover c.args.passes; before = [] } = search rules in
    alone_kept c.args.self.now.state.game c.args.root.now c.args.mover c.args.passes _ _ is one
