use Rattle.go_points.proofs.Common.{◌≡◌, ◌+◌, ◌*◌, length, sym, ◌∙◌, ap, arith, MAX_SIZE, has_bit, word_count}
use Rattle.go_points.proofs.Counting.{bits_below, no_bits_below, bits_few, bits_more, bits_all, places_few}
use Rattle.go_points.proofs.PlaceSets.{is_point_set}
use Rattle.go_points.proofs.point_set.PointSet.len.Goals as goal

pub loop-index-init : goal.loop-index-init
loop-index-init c = sym (no_bits_below c.self.inside.words)

pub overflow_add-count : goal.overflow_add-count
overflow_add-count c =
    let words = c.self.inside.words in
    let j = c.loop-index.index in
    omega (arith, bits_more words j (c.self.invariant.fits j), bits_few words ((j + 1) * 64), c.loop-index.invariant)

pub loop-index-preserved : goal.loop-index-preserved
loop-index-preserved c =
    let words = c.self.inside.words in
    let j = c.loop-index.index in
    omega (arith, bits_more words j (c.self.invariant.fits j), c.loop-index.invariant)

counted : (c : goal.After-loop-index) → c.loop-index.count ≡ length c.args.self.now
counted c =
    let words = c.self.inside.words in
    let whole : c.loop-index.index ≡ word_count = omega arith in
    c.loop-index.invariant ∙ ap (λ j. bits_below words (j * 64)) whole ∙ bits_all MAX_SIZE words word_count c.self.invariant (omega arith) ∙ ap length c.self.view_is

pub returns-clause-value : goal.returns-clause-value
returns-clause-value c = counted c

pub returns-clause-most : goal.returns-clause-most
returns-clause-most c = rw (counted c, ← c.self.view_is) (places_few MAX_SIZE (has_bit c.self.inside.words))

pub returns-clause-set : goal.returns-clause-set
returns-clause-set c = is_point_set (has_bit c.self.inside.words) c.args.self.now c.self.view_is
