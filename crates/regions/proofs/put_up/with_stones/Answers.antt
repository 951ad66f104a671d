use Rattle.std.proofs.Common.{◌≡◌, ◌*◌, ◌<◌, ℕ, length, slice_set, sym, ◌∙◌, ap, subst}
use Rattle.go_points.specs.Grid.{cell_at, side_of}
use Rattle.go_points.specs.Place.{number_of}
use Rattle.regions.specs.PutUp.{cell_put}
use Rattle.regions.proofs.Putting.{put_next}
use Rattle.regions.proofs.put_up.with_stones.Goals as goal

pub loop-number-preserved : goal.loop-number-preserved
loop-number-preserved c =
    let after = c.loop-number.after in
    let n = c.loop-number.number in
    let cell = c.cell_put-cell.result in
    let side : side_of after ≡ c.size-size.result = c.loop-number.invariant.0 ∙ sym c.size-size.ensures.value in
    let here : number_of (side_of after) c.point_at.result ≡ n = ap (λ (s : ℕ). number_of s c.point_at.result) side ∙ c.point_at.ensures.number_back in
    let full : length after ≡ c.area-number-end.result = c.size.ensures.colouring.full ∙ ap (λ (s : ℕ). s * s) side ∙ sym c.area-number-end.ensures.value in
    let room : n < length after = subst (λ (k : ℕ). n < k) (sym full) c.loop-number-test.true in (
      c.set.ensures.size ∙ c.loop-number.invariant.0,
      λ i low. ap (λ s. cell_at s i) c.set.ensures.value ∙ ap (λ (k : ℕ). cell_at (slice_set after k cell) i) here
          ∙ put_next after n cell (cell_put c.args.inside.now c.args.points.now c.args.colour c.args.before.now) room c.loop-number.invariant.1 c.cell_put-cell.ensures i low,
    )
