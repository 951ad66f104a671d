use Rattle.std.proofs.Common.{◌≡◌, ◌+◌, false, IsTrue, List, sym, ◌∙◌, ap, subst}
use Rattle.go_points.specs.Place.{Place, place_of}
use Rattle.go_points.specs.Points.{holds_place, with_place}
use Rattle.record_marks.proofs.Chains.{BothSoFar, both_yes, both_no}
use Rattle.record_marks.proofs.region.joined.Goals as goal
use Rattle.record_marks.proofs.region.joined.Goals.{then-has, else-has}

pub loop-number-preserved : goal.loop-number-preserved
loop-number-preserved c =
    let n = c.args.size in
    let first = c.args.first.now in
    let second = c.args.second.now in
    let all = c.loop-number.all in
    let i = c.loop-number.number in
    let place = c.point_at-point.ensures.place in
    elim c.if-has.branch [
      | then-has w ↦
          (let there : IsTrue (holds_place second (place_of n i)) = ap (holds_place second) (sym place) ∙ sym c.has.ensures ∙ w.if-has.true in
          subst (λ (s : List Place). BothSoFar n first second s (i + 1)) (sym (w.all-is ∙ w.insert.ensures ∙ ap (with_place all) place)) (both_yes n first second all i there c.loop-number.invariant))
      | else-has w ↦
          (let not_there : holds_place second (place_of n i) ≡ false = ap (holds_place second) (sym place) ∙ sym c.has.ensures ∙ w.if-has.false in
          subst (λ (s : List Place). BothSoFar n first second s (i + 1)) (sym w.all-is) (both_no n first second all i not_there c.loop-number.invariant))
    ]
