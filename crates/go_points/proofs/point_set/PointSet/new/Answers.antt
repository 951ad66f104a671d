use Rattle.go_points.proofs.Common.{replicate, sym, ◌∙◌, ap, subst, MAX_SIZE, MAX_POINTS, has_bit, places_of, word_count, IsWords}
use Rattle.go_points.proofs.Bits.{no_bit, words_of_zeros}
use Rattle.go_points.proofs.PlaceSets.{places_none}
use Rattle.go_points.proofs.point_set.PointSet.new.Goals as goal

pub invariant_of-result : goal.invariant_of-result
invariant_of-result c = subst (λ words. IsWords words word_count MAX_POINTS) (sym c.no_bits.ensures) (words_of_zeros word_count MAX_POINTS)

pub returns : goal.returns
returns c = ap places_of c.no_bits.ensures ∙ places_none MAX_SIZE (has_bit (replicate word_count 0)) (λ i low. no_bit word_count i)
