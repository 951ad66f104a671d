use Rattle.std.proofs.Common.{IfSome, subst}
use Rattle.target_game.specs.State.{start}
use Rattle.safe_groups.specs.Ground.{IsSafeAs}
use Rattle.proved_groups.proofs.safe.accepted.Goals as goal

pub invariant_of-result : goal.invariant_of-result
invariant_of-result c =
    let q = c.args.problem in
    let safe : IsSafeAs c.in-Some.verdict.first (start q) = subst (λ o. IfSome o (λ v. IsSafeAs v.first (start q))) c.in-Some.is c.in_ok-verdict.ensures in
    record { safe = ∣ subst (λ first. IsSafeAs first (start q)) c.in-None-first.is safe ∣₁ }
