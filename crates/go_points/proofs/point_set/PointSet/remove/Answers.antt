use Rattle.go_points.proofs.Common.{◌-◌, ◌*◌, ◌/◌, ◌%◌, ◌^◌, false, bit_and, get_or, set, ◌∙◌, ap₂, arith, MAX_SIZE, MAX_POINTS, has_bit, without_place, word_count}
use Rattle.go_points.proofs.Bits.{bit_taken, bit_same, bit_other, words_kept}
use Rattle.go_points.proofs.PlaceSets.{places_without}
use Rattle.go_points.proofs.point_set.PointSet.remove.Goals as goal

pub invariant_of-self : goal.invariant_of-self
invariant_of-self c =
    let words = c.self.inside.words in
    let bit = c.number_of-bit.result in
    words_kept words bit _ false (bit_taken words word_count MAX_POINTS bit c.self.invariant (omega arith) c.number_of-bit.ensures.within) word_count MAX_POINTS c.number_of-bit.ensures.within c.self.invariant

pub returns : goal.returns
returns c =
    let words = c.self.inside.words in
    let bit = c.number_of-bit.result in
    let taken = bit_taken words word_count MAX_POINTS bit c.self.invariant (omega arith) c.number_of-bit.ensures.within in
    places_without MAX_SIZE bit (has_bit words) (has_bit (set words (bit / 64) (bit_and (get_or words (bit / 64) 0) (2 ^ 64 - 1 - 1 * 2 ^ (bit % 64) % 2 ^ 64)))) (omega arith) (bit_other words bit _ false taken) (bit_same words bit _ false taken)
    ∙ ap₂ without_place c.self.view_is c.number_of-bit.ensures.value
