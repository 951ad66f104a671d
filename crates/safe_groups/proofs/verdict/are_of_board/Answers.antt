use Rattle.safe_groups.proofs.Common.{◌≡◌, sym, ◌∙◌, ap, ◌<◌, ◌⊎◌, inl, inr, subst, arith, length, [], Cell, List, IsOfBoard, Ground, ground_at, state_at}
use Rattle.safe_groups.proofs.Verdicts.{default_same}
use Rattle.safe_groups.proofs.verdict.are_of_board.Goals as goal

pub loop-place-preserved : goal.loop-place-preserved
loop-place-preserved c = λ i low.
    let q = c.args.problem.now in let gs = c.args.grounds.now in let begins = c.args.begins.now in let k = c.loop-place.place in
    let lengths : length gs ≡ length begins = c.if-grounds-begins.false in
    let split : (i < k) ⊎ (i ≡ k) = grind (arith, low) in
    elim split [
      | inl less ↦ c.loop-place.invariant i less
      | inr here ↦
          let ground : c.index-grounds-place.result ≡ ground_at gs k = c.index-grounds-place.is ∙ default_same gs k c.index-grounds-place.result _ c.loop-place-test.true in
          let begin : c.index-begins-place.result ≡ state_at begins k = c.index-begins-place.is ∙ default_same begins k c.index-begins-place.result [] (omega (arith, c.loop-place-test.true, lengths)) in
          subst (λ j. IsOfBoard q c.args.keeper (ground_at gs j) (state_at begins j)) (sym here) (subst (λ g. IsOfBoard q c.args.keeper g (state_at begins k)) ground (subst (IsOfBoard q c.args.keeper c.index-grounds-place.result) begin (c.is_of_board.ensures c.if-not-is_of_board.false)))
    ]
