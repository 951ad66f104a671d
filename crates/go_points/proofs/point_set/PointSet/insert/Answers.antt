use Rattle.go_points.proofs.Common.{◌*◌, ◌/◌, ◌%◌, ◌^◌, true, bit_or, get_or, set, ◌∙◌, ap₂, arith, MAX_SIZE, MAX_POINTS, has_bit, with_place, word_count}
use Rattle.go_points.proofs.Bits.{bit_put, bit_same, bit_other, words_kept}
use Rattle.go_points.proofs.PlaceSets.{places_with}
use Rattle.go_points.proofs.point_set.PointSet.insert.Goals as goal

pub invariant_of-self : goal.invariant_of-self
invariant_of-self c =
    let words = c.self.inside.words in
    let bit = c.number_of-bit.result in
    words_kept words bit _ true (bit_put words word_count MAX_POINTS bit c.self.invariant (omega arith) c.number_of-bit.ensures.within) word_count MAX_POINTS c.number_of-bit.ensures.within c.self.invariant

pub returns : goal.returns
returns c =
    let words = c.self.inside.words in
    let bit = c.number_of-bit.result in
    let put = bit_put words word_count MAX_POINTS bit c.self.invariant (omega arith) c.number_of-bit.ensures.within in
    places_with MAX_SIZE bit (has_bit words) (has_bit (set words (bit / 64) (bit_or (get_or words (bit / 64) 0) (1 * 2 ^ (bit % 64) % 2 ^ 64)))) (omega arith) (bit_other words bit _ true put) c.number_of-bit.ensures.within (bit_same words bit _ true put)
    ∙ ap₂ with_place c.self.view_is c.number_of-bit.ensures.value
