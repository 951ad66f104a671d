use Rattle.safe_groups.proofs.Common.{◌≡◌, sym, ◌∙◌, ap, ◌<◌, ◌*◌, ◌⊎◌, inl, inr, subst, arith, length, IsTrue, side_of, cell_at, clear, own, area_of, marked, lifted_cell, joined_self}
use Rattle.safe_groups.proofs.Fitting.{stone_on}
use Rattle.safe_groups.proofs.Grounds.{lean_left}
use Rattle.safe_groups.proofs.ground.Ground.all_lean.Goals as goal

pub loop-number-preserved : goal.loop-number-preserved
loop-number-preserved c = λ p low is.
    let g = c.args.self.now in
    let split : (p < c.loop-number.number) ⊎ (p ≡ c.loop-number.number) = grind (arith, low) in
    elim split [
      | inl less ↦ c.loop-number.invariant p less is
      | inr here ↦ subst (λ q. (cell_at c.args.state.now q ≡ own (area_of g)) × (IsTrue (marked g c.args.points.now q) ⊎ (cell_at c.cleared-left.result q ≡ own (area_of g)))) (sym here)
          (c.leans_at.ensures c.if-not-leans_at.false (ap (cell_at c.args.wanted.now) (sym here) ∙ is))
    ]

pub returns : goal.returns
returns c = λ yes p is.
    let g = c.args.self.now in let n = side_of g.cells in
    let size : c.size.result ≡ n = c.size.ensures.value ∙ c.requires.wanted in
    let full : length c.args.wanted.now ≡ n * n = c.size.ensures.colouring.full ∙ ap (λ m. m * m) c.requires.wanted in
    let on : p < n * n = stone_on n c.args.wanted.now g.keeper p full is in
    let found = c.loop-number.invariant p (omega (arith, on, c.loop-number-test.false, c.area-number-end.ensures.value, ap (λ m. m * m) size)) is in
    let same : c.cleared-left.result ≡ clear n c.without.result g.keeper = c.cleared-left.ensures.value ∙ ap (λ m. clear m c.without.result g.keeper) c.without.ensures.side in (
      found.0,
      elim found.1 [
        | inl there ↦ inr (p, there, joined_self n c.args.state.now p)
        | inr left ↦ lean_left (area_of g) c.args.state.now c.args.points.now c.without.result c.without.ensures.cells c.cleared-left.result same p left
      ],
    )
