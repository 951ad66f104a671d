use Rattle.safe_groups.proofs.Common.{◌≡◌, sym, ◌<◌, ◌⊎◌, inl, inr, subst, arith, Empty, cell_at}
use Rattle.dead_groups.specs.Ground.{kill_area, targets_of, IsMoveMet}
use Rattle.dead_groups.proofs.body.judge_moves.Goals as goal

pub loop-number-preserved : goal.loop-number-preserved
loop-number-preserved g c = λ x low free.
    let split : (x < c.loop-number.number) ⊎ (x ≡ c.loop-number.number) = grind (arith, low) in
    elim split [
      | inl less ↦ c.loop-number.invariant x less free
      | inr here ↦ subst (IsMoveMet (kill_area c.args.ground.now) (targets_of c.args.ground.now c.args.targets.now) c.args.states.now c.args.state.now) (sym here) (c.in_ok-judge_move.ensures (subst (λ y. cell_at c.args.state.now y ≡ Empty) here free))
    ]
