use Rattle.go_points.proofs.Common.{◌≡◌, Some, sym, ◌∙◌, ap, arith, MAX_SIZE, MAX_POINTS, has_bit, first_place, word_count}
use Rattle.go_points.proofs.Counting.{none_more, lowest_on, first_bit, no_first}
use Rattle.go_points.proofs.PlaceSets.{is_point_set}
use Rattle.go_points.proofs.point_set.PointSet.first.Goals as goal

pub point_with-requires : goal.point_with-requires
point_with-requires c = lowest_on c.self.inside.words word_count MAX_POINTS c.loop-index.index c.self.invariant c.loop-index.invariant (omega arith)

pub returns-then-word-ne0-clause-value : goal.returns-then-word-ne0-clause-value
returns-then-word-ne0-clause-value c =
    ap Some c.point_with.ensures ∙ sym (first_bit MAX_SIZE c.self.inside.words word_count c.loop-index.index c.self.invariant c.loop-index.invariant (omega arith)) ∙ ap first_place c.self.view_is

pub loop-index-preserved : goal.loop-index-preserved
loop-index-preserved c = none_more c.self.inside.words c.loop-index.index c.loop-index.invariant c.if-word-ne0.false

pub returns-clause-value : goal.returns-clause-value
returns-clause-value c =
    let words = c.self.inside.words in
    let whole : c.loop-index.index ≡ word_count = omega arith in
    sym (no_first MAX_SIZE words word_count (omega arith) (λ i low. c.loop-index.invariant i (omega (arith, low, whole)))) ∙ ap first_place c.self.view_is

pub returns-then-word-ne0-clause-set : goal.returns-then-word-ne0-clause-set
returns-then-word-ne0-clause-set c = is_point_set (has_bit c.self.inside.words) c.args.self.now c.self.view_is

pub returns-clause-set : goal.returns-clause-set
returns-clause-set c = is_point_set (has_bit c.self.inside.words) c.args.self.now c.self.view_is
