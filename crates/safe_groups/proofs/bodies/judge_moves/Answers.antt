use Rattle.safe_groups.proofs.Common.{◌≡◌, sym, ◌<◌, ◌⊎◌, inl, inr, subst, arith, Empty, cell_at, area_of, states_of, IsMoveAnswered}
use Rattle.safe_groups.proofs.bodies.judge_moves.Goals as goal

pub loop-number-preserved : goal.loop-number-preserved
loop-number-preserved g c = λ x low free.
    let split : (x < c.loop-number.number) ⊎ (x ≡ c.loop-number.number) = grind (arith, low) in
    elim split [
      | inl less ↦ c.loop-number.invariant x less free
      | inr here ↦ subst (IsMoveAnswered (area_of c.args.ground.now) (states_of c.args.states.now) c.args.state.now) (sym here) (c.in_ok-judge_move.ensures (subst (λ y. cell_at c.args.state.now y ≡ Empty) here free))
    ]
