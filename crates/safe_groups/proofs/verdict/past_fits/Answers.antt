use Rattle.safe_groups.proofs.Common.{◌≡◌, sym, ◌∙◌, ap, ◌<◌, ◌⊎◌, inl, inr, subst, arith, length, get_or, List, Cell, LacksOne, BarsNothing}
use Rattle.safe_groups.proofs.Verdicts.{default_same}
use Rattle.safe_groups.proofs.verdict.past_fits.Goals as goal

pub loop-past-preserved : goal.loop-past-preserved
loop-past-preserved c = λ k d low.
    let q = c.args.problem.now in let past = c.history-past-items.result.now in
    let split : (k < c.loop-past.past-index) ⊎ (k ≡ c.loop-past.past-index) = grind (arith, low) in
    elim split [
      | inl less ↦ c.loop-past.invariant k d less
      | inr here ↦
          let same : c.past-item.result ≡ get_or q.history k d = c.past-item.is ∙ default_same past c.loop-past.past-index c.past-item.result d c.loop-past-test.true ∙ ap (λ j. get_or past j d) (sym here) ∙ ap (λ l. get_or l k d) c.history-past-items.ensures.value in
          subst (λ p. LacksOne c.args.keeper c.args.stones.now p ⊎ BarsNothing c.args.grounds.now c.args.begins.now p) same (c.is_harmless.ensures c.if-not-is_harmless.false)
    ]

pub returns : goal.returns
returns c = λ yes k d low. c.loop-past.invariant k d (omega (arith, low, c.loop-past-test.false, ap length c.history-past-items.ensures.value))
