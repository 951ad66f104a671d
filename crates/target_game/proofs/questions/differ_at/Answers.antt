use Rattle.target_game.proofs.Common.{rules, ◌≡◌, ℕ, ◌*◌, ◌<◌, ◌≢◌, sym, ◌∙◌, ap, subst, cell_at, side_of, number_of, place_of, holds_place}
use Rattle.target_game.proofs.Standing.{same_first, same_more, same_all}
use Rattle.target_game.proofs.questions.differ_at.Goals as goal

pub changed-init : goal.changed-init
changed-init c = same_first (side_of c.args.colouring.now) c.args.colouring.now c.args.other.now c.args.points.now c.next_difference-number.result c.next_difference-number.ensures.same c.next_difference-number.ensures.differs

-- the number's place, as the code has it
pub changed-preserved : goal.changed-preserved
changed-preserved c =
    let n = side_of c.args.colouring.now in
    let number = c.changed.number in
    let place : c.point_at.result ≡ place_of n number = c.point_at.ensures.place ∙ ap (λ (m : ℕ). place_of m number) c.size-size.ensures.value in
    same_more n c.args.colouring.now c.args.other.now c.args.points.now number c.next_difference-number-in-changed.result
    (sym (c.has.ensures ∙ ap (holds_place c.args.points.now) place) ∙ c.if-has.false) c.changed.invariant c.next_difference-number-in-changed.ensures.same c.next_difference-number-in-changed.ensures.differs

pub returns-then-has-clause-differs : goal.returns-then-has-clause-differs
returns-then-has-clause-differs c held =
    let n = side_of c.args.colouring.now in
    let number = c.changed.number in
    let back : number_of n c.point_at.result ≡ number = ap (λ (m : ℕ). number_of m c.point_at.result) (sym c.size-size.ensures.value) ∙ c.point_at.ensures.number_back in
    let low : number < n * n = subst (λ (m : ℕ). number < m * m) c.size-size.ensures.value (subst (λ (m : ℕ). number < m) c.area.ensures.value c.changed-test.true) in (
      c.point_at.result,
      sym c.has.ensures ∙ c.if-has.true,
      subst (λ (i : ℕ). cell_at c.args.colouring.now i ≢ cell_at c.args.other.now i) (sym back) (c.changed.invariant.differs low),
    )

pub returns-clause-same : goal.returns-clause-same
returns-clause-same c none = same_all (side_of c.args.colouring.now) c.args.colouring.now c.args.other.now c.args.points.now c.changed.number (search rules) c.changed.invariant
