use Rattle.go_points.proofs.Common.{sym, ◌∙◌, ap₂, MAX_SIZE, has_bit, holds_place, holds_that}
use Rattle.go_points.proofs.Bits.{bit_read}
use Rattle.go_points.proofs.point_set.PointSet.has.Goals as goal

pub returns : goal.returns
returns c =
    let words = c.self.inside.words in
    let bit = c.number_of-bit.result in
    bit_read words bit ∙ sym (holds_that MAX_SIZE (has_bit words) bit (c.self.invariant.rest bit)) ∙ ap₂ holds_place c.self.view_is c.number_of-bit.ensures.value
