use Rattle.go_points.proofs.Common.{◌≡◌, ℕ, List, nat_eq, eqb-true, eq-eqb, sym, ◌∙◌, ap, pointwise, pointwise_decides, MAX_SIZE, MAX_POINTS, Place, places_of, word_count, IsWords, same_place_decides}
use Rattle.go_points.specs.Points.{same_places}
use Rattle.go_points.specs.Private.Words.{words_of}
use Rattle.go_points.specs.Private.Inverses.{words_back}
use Rattle.go_points.proofs.Anywhere.{same_tests}
use Rattle.go_points.proofs.point_set.PointSetPartialEq.eq.Goals as goal

-- two sets are the same exactly where their words are
same_words : (words others : List ℕ) (ps qs : List Place) → IsWords words word_count MAX_POINTS → IsWords others word_count MAX_POINTS
    → places_of words ≡ ps → places_of others ≡ qs → pointwise nat_eq words others ≡ same_places ps qs
same_words words others ps qs is was is_ps is_qs =
    same_tests _ _
    (λ h. (pointwise_decides same_place_decides ps qs).1 (sym is_ps ∙ ap places_of ((pointwise_decides (λ x y. (eqb-true x y, eq-eqb x y)) words others).0 h) ∙ is_qs))
    (λ h. (pointwise_decides (λ x y. (eqb-true x y, eq-eqb x y)) words others).1 (
    sym (words_back MAX_SIZE words word_count is)
    ∙ ap words_of (is_ps ∙ (pointwise_decides same_place_decides ps qs).0 h ∙ sym is_qs)
    ∙ words_back MAX_SIZE others word_count was
    ))

pub returns : goal.returns
returns c = c.eq.ensures ∙ same_words c.self.inside.words c.other.inside.words c.args.self.now c.args.other.now c.self.invariant c.other.invariant c.self.view_is c.other.view_is
