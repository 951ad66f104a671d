use Rattle.safe_groups.proofs.Common.{◌≡◌, sym, ◌∙◌, ap, subst, ◌<◌, ◌⊎◌, inl, inr, arith, get_or, IsJudged}
use Rattle.safe_groups.proofs.Judging.{listed_at}
use Rattle.safe_groups.proofs.Verdicts.{default_same}
use Rattle.safe_groups.proofs.bodies.judge_states.Goals as goal

pub judge_state-requires-clause-listed : goal.judge_state-requires-clause-listed
judge_state-requires-clause-listed g c = listed_at c.args.states.now c.loop-place.place c.index-states-place.result c.loop-place-test.true c.index-states-place.is

pub loop-place-preserved : goal.loop-place-preserved
loop-place-preserved g c = λ k d low.
    let states = c.args.states.now in
    let split : (k < c.loop-place.place) ⊎ (k ≡ c.loop-place.place) = grind (arith, low) in
    elim split [
      | inl less ↦ c.loop-place.invariant k d less
      | inr here ↦
          let same : c.index-states-place.result ≡ get_or states k d = c.index-states-place.is ∙ default_same states c.loop-place.place c.index-states-place.result d c.loop-place-test.true ∙ ap (λ j. get_or states j d) (sym here) in
          subst (IsJudged c.args.ground.now states) same c.in_ok-judge_state.ensures
    ]
