use Rattle.cert_check.proofs.Common.{rules, ◌≡◌, [], ◌∷◌, ◌++◌}
use Rattle.cert_check.proofs.Known.{with_kept}
use Rattle.cert_check.proofs.body_state.BodyState.at_with.Goals as goal

pub invariant_of-result : goal.invariant_of-result
invariant_of-result c =
    let all : c.push.new.self.items ≡ c.args.others.now ++ c.args.root.now ∷ [] = search rules in
    with_kept c.args.problem.now.game c.args.root.now c.args.others.now _ c.args.mover c.args.passes _ c.in-Ok.ensures.ok all c.requires.ascend
