use Rattle.safe_groups.proofs.Common.{◌≡◌, sym, ◌∙◌, ap, ◌<◌, ◌*◌, ◌⊎◌, inl, inr, subst, arith, length, side_of, area_of, same_cells_eq, Fits, FitsAt}
use Rattle.safe_groups.proofs.Fitting.{fits_self}
use Rattle.safe_groups.proofs.Grounds.{fits_by, region_within}
use Rattle.safe_groups.proofs.ground.Ground.fits.Goals as goal

pub loop-number-preserved : goal.loop-number-preserved
loop-number-preserved c = λ p low.
    let split : (p < c.loop-number.number) ⊎ (p ≡ c.loop-number.number) = grind (arith, low) in
    elim split [
      | inl less ↦ c.loop-number.invariant p less
      | inr here ↦ subst (FitsAt (area_of c.args.self.now) c.args.board.now c.args.state.now) (sym here) (c.fits_at.ensures c.if-not-fits_at.false)
    ]

pub returns : goal.returns
returns c = λ yes.
    let g = c.args.self.now in
    let b = c.args.board.now in
    let full : length b ≡ side_of g.cells * side_of g.cells = c.size-size.ensures.colouring.full ∙ ap (λ m. m * m) c.requires.side in
    let size : c.size-size.result ≡ side_of g.cells = c.size-size.ensures.value ∙ c.requires.side in
    fits_by (area_of g) b c.args.state.now c.requires.state.walled full
    (λ p is. region_within g p is)
    (λ p on. c.loop-number.invariant p (omega (arith, on, c.loop-number-test.false, c.area-number-end.ensures.value, ap (λ m. m * m) size)))

pub returns-then-eq : goal.returns-then-eq
returns-then-eq c = λ yes. subst (λ b. Fits (area_of c.args.self.now) b c.args.state.now) (sym (same_cells_eq _ _ (sym c.eq.ensures ∙ c.if-eq.true))) (fits_self (area_of c.args.self.now) c.args.state.now)
