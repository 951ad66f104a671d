use Rattle.go_points.proofs.Common.{◌*◌, Some, None, sym, subst, arith, div-add-mod', mod_below, MAX_SIZE, MAX_POINTS, place_of, has_bit, IsFirstFrom, places_that, word_count}
use Rattle.go_points.proofs.Onward.{first_in_front, first_in_word, first_on, first_place_from, no_place_from, none_here, none_further}
use Rattle.go_points.proofs.PlaceSets.{is_point_set}
use Rattle.go_points.proofs.point_set.PointSet.first_at.Goals as goal

pub point_with-requires : goal.point_with-requires
point_with-requires c =
    let words = c.self.inside.words in
    let bit = c.args.bit in
    first_on words word_count MAX_POINTS bit _ c.self.invariant (first_in_front words bit c.self.invariant.fits (omega (arith, c.if-front-ne0.true)))

pub returns-then-front-ne0-clause-value : goal.returns-then-front-ne0-clause-value
returns-then-front-ne0-clause-value c =
    let words = c.self.inside.words in
    let bit = c.args.bit in
    let first = first_in_front words bit c.self.invariant.fits (omega (arith, c.if-front-ne0.true)) in
    subst (λ ps. IsFirstFrom ps (place_of MAX_SIZE bit) (Some c.point_with.result)) c.self.view_is
    (subst (λ r. IsFirstFrom (places_that MAX_SIZE (has_bit words)) (place_of MAX_SIZE bit) (Some r)) (sym c.point_with.ensures)
    (first_place_from words word_count bit c.self.invariant _ first))

pub returns-then-front-ne0-clause-set : goal.returns-then-front-ne0-clause-set
returns-then-front-ne0-clause-set c = is_point_set (has_bit c.self.inside.words) c.args.self.now c.self.view_is

pub loop-index-init : goal.loop-index-init
loop-index-init c = none_here c.self.inside.words c.args.bit (omega (arith, c.if-front-ne0.false))

pub point_with-requires-then-bits-ne0 : goal.point_with-requires-then-bits-ne0
point_with-requires-then-bits-ne0 c =
    let words = c.self.inside.words in
    let bit = c.args.bit in
    first_on words word_count MAX_POINTS bit _ c.self.invariant
    (first_in_word words bit c.loop-index.index c.self.invariant.fits (omega (arith, c.loop-index.auto.index, div-add-mod' bit 64, mod_below bit 64 (omega arith))) c.loop-index.invariant (omega (arith, c.if-bits-ne0.true)))

pub returns-then-bits-ne0-clause-value : goal.returns-then-bits-ne0-clause-value
returns-then-bits-ne0-clause-value c =
    let words = c.self.inside.words in
    let bit = c.args.bit in
    let first = first_in_word words bit c.loop-index.index c.self.invariant.fits (omega (arith, c.loop-index.auto.index, div-add-mod' bit 64, mod_below bit 64 (omega arith))) c.loop-index.invariant (omega (arith, c.if-bits-ne0.true)) in
    subst (λ ps. IsFirstFrom ps (place_of MAX_SIZE bit) (Some c.point_with-then-bits-ne0.result)) c.self.view_is
    (subst (λ r. IsFirstFrom (places_that MAX_SIZE (has_bit words)) (place_of MAX_SIZE bit) (Some r)) (sym c.point_with-then-bits-ne0.ensures)
    (first_place_from words word_count bit c.self.invariant _ first))

pub returns-then-bits-ne0-clause-set : goal.returns-then-bits-ne0-clause-set
returns-then-bits-ne0-clause-set c = is_point_set (has_bit c.self.inside.words) c.args.self.now c.self.view_is

pub loop-index-preserved : goal.loop-index-preserved
loop-index-preserved c = none_further c.self.inside.words c.args.bit c.loop-index.index c.loop-index.invariant c.if-bits-ne0.false

pub returns-clause-value : goal.returns-clause-value
returns-clause-value c =
    let words = c.self.inside.words in
    let bit = c.args.bit in
    subst (λ ps. IsFirstFrom ps (place_of MAX_SIZE bit) None) c.self.view_is
    (no_place_from words word_count bit c.self.invariant (c.loop-index.index * 64) (omega arith) c.loop-index.invariant)

pub returns-clause-set : goal.returns-clause-set
returns-clause-set c = is_point_set (has_bit c.self.inside.words) c.args.self.now c.self.view_is
