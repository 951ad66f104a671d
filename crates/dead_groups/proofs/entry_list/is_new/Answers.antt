use Rattle.safe_groups.proofs.Common.{◌≡◌, sym, ◌∙◌, ap, ◌<◌, ◌⊎◌, inl, inr, subst, arith, length, get_or, List, Cell, Fits}
use Rattle.safe_groups.proofs.Verdicts.{default_same}
use Rattle.safe_groups.proofs.Judging.{of_listed}
use Rattle.dead_groups.specs.Ground.{kill_area}
use Rattle.dead_groups.proofs.entry_list.is_new.Goals as goal

pub loop-past-preserved : goal.loop-past-preserved
loop-past-preserved c = λ k d low fits.
    let q = c.args.problem.now in let past = c.history-past-items.result.now in
    let split : (k < c.loop-past.past-index) ⊎ (k ≡ c.loop-past.past-index) = grind (arith, low) in
    elim split [
      | inl less ↦ c.loop-past.invariant k d less fits
      | inr here ↦
          let same : c.past-item.result ≡ get_or q.history k d = c.past-item.is ∙ default_same past c.loop-past.past-index c.past-item.result d c.loop-past-test.true ∙ ap (λ j. get_or past j d) (sym here) ∙ ap (λ l. get_or l k d) c.history-past-items.ensures.value in
          c.misfits.ensures c.if-not-misfits.false (subst (λ p. Fits (kill_area c.args.ground.now) p c.args.state.now) (sym same) fits)
    ]

pub returns : goal.returns
returns c = λ yes p old fits.
    of_listed (λ r. Fits (kill_area c.args.ground.now) r c.args.state.now → ⊥) c.args.problem.now.history p
    (λ k d low. c.loop-past.invariant k d (omega (arith, low, c.loop-past-test.false, ap length c.history-past-items.ensures.value))) old fits
