-- The empty points of the region, one after another: those before the next are no legal moves.
use Rattle.target_game.proofs.Common.{◌≡◌, ℕ, ◌+◌, ◌-◌, ◌*◌, ◌<◌, ◌≤◌, Bool, true, false, List, map, Option, Some, None, IfSome, IfNone, refl, sym, ◌∙◌, ap, ap₂, inl, inr, arith, All, cases_lt, true≢false, MAX_SIZE, Empty, same_cell, cell_at, Place, IsOn, number_of, place_of, is_before, IsFirstFrom, before, not_before, GameState, NoneLegal}
use Rattle.go_points.specs.Points.{IsFirstAfter}
use Rattle.target_game.specs.Left.{IsNextOpen}
use Rattle.target_game.proofs.Due.{none_yet, none_more, none_joined, at_stone, on_held, IsNextInside, next_inside, next_outside}
use Rattle.go_turns.proofs.Openings.{place_back}

-- the first place of the region after a point is the first from the next number on
module _ (n : ℕ) (p q : Place) (some : 0 < n) (p_on : IsOn n p) (q_on : IsOn n q) where
  p_back : place_of n (number_of n p) ≡ p
  p_back = place_back n p p_on

  q_back : place_of n (number_of n q) ≡ q
  q_back = place_back n q q_on

  higher : is_before p q ≡ true → number_of n p < number_of n q
  higher later = elim (cases_lt (number_of n p) (number_of n q)) [
    | inl above ↦ above
    | inr low ↦ absurd (true≢false (sym later ∙ sym (ap₂ is_before p_back q_back) ∙ not_before n (number_of n q) (number_of n p) some low))
  ]

  lower : is_before p q ≡ false → number_of n q ≤ number_of n p
  lower early = elim (cases_lt (number_of n p) (number_of n q)) [
    | inl above ↦ absurd (true≢false (sym (before n (number_of n p) (number_of n q) some above) ∙ ap₂ is_before p_back q_back ∙ early))
    | inr low ↦ low
  ]

  before_next : is_before p q ≡ false → is_before q (place_of n (number_of n p + 1)) ≡ true
  before_next early = sym (ap (λ r. is_before r (place_of n (number_of n p + 1))) q_back) ∙ before n (number_of n q) (number_of n p + 1) some (omega (arith, lower early))

  from_next : is_before p q ≡ true → is_before q (place_of n (number_of n p + 1)) ≡ false
  from_next later = sym (ap (λ r. is_before r (place_of n (number_of n p + 1))) q_back) ∙ not_before n (number_of n p + 1) (number_of n q) some (omega (arith, higher later))

  after_this : is_before q (place_of n (number_of n p + 1)) ≡ false → is_before p q ≡ true
  after_this late = go (is_before p q) refl
    where
      go : (b : Bool) → is_before p q ≡ b → b ≡ true
      go true e = refl
      go false e = absurd (true≢false (sym (before_next e) ∙ late))

pub first_onward : (n : ℕ) (ps : List Place) (p : Place) (o : Option Place) → 0 < n → All (IsOn n) ps → IsOn n p → IsFirstAfter ps p o → IsFirstFrom ps (place_of n (number_of n p + 1)) o
first_onward n ps p None some all on first = λ q wide there. before_next n p q some on (on_held n ps q all there) (first q wide there)
first_onward n ps p (Some r) some all on first = (
  first.0,
  from_next n p r some on (on_held n ps r all first.0) first.1,
  λ q wide there late. first.2 q wide there (after_this n p q some on (on_held n ps q all there) late),
)

pub onward_inside : (s : GameState) (ps : List Place) (last p : Place) (o : Option Place) → s.game.region ≡ map (number_of s.game.size) ps → All (IsOn s.game.size) ps
    → s.game.size ≤ MAX_SIZE → IsOn s.game.size last → IsFirstAfter ps last o → o ≡ Some p → IsNextInside s (number_of s.game.size last + 1) p
onward_inside s ps last p o is all widest on first found =
    let n : ℕ = s.game.size in
    let k : ℕ = number_of n last + 1 in
    next_inside s ps k k n (place_of n k) p o is all (omega (arith, on.row_within)) widest refl refl (omega arith) (none_yet s k) (first_onward n ps last o (omega (arith, on.row_within)) all on first) found

pub onward_outside : (s : GameState) (ps : List Place) (last : Place) (o : Option Place) → s.game.region ≡ map (number_of s.game.size) ps → All (IsOn s.game.size) ps
    → s.game.size ≤ MAX_SIZE → IsOn s.game.size last → IsFirstAfter ps last o → o ≡ None → NoneLegal s (number_of s.game.size last + 1) (s.game.size * s.game.size)
onward_outside s ps last o is all widest on first nothing =
    let n : ℕ = s.game.size in
    let k : ℕ = number_of n last + 1 in
    next_outside s ps k k n (place_of n k) o is all (omega (arith, on.row_within)) widest refl refl (none_yet s k) (first_onward n ps last o (omega (arith, on.row_within)) all on first) nothing

-- what is found of the empty points from a number on
abbrev pub IsFound : GameState → ℕ → Option Place → Type 0
IsFound s from None = NoneLegal s from (s.game.size * s.game.size)
IsFound s from (Some p) = IsNextOpen s from p

-- how many points are left from the one that was found
abbrev pub points_left : ℕ → Option Place → ℕ
points_left n None = 0
points_left n (Some p) = n * n - number_of n p

pub if_found : (s : GameState) (from : ℕ) (o : Option Place) → IsFound s from o → IfSome o (IsNextOpen s from) × IfNone o (NoneLegal s from (s.game.size * s.game.size))
if_found s from None is = (tt, is)
if_found s from (Some p) is = (is, tt)

-- those up to a number are passed over
pub found_onward : (s : GameState) (from k : ℕ) (o : Option Place) → from ≤ k → NoneLegal s from k → IfSome o (IsNextOpen s k) → IfNone o (NoneLegal s k (s.game.size * s.game.size)) → IsFound s from o
found_onward s from k None low early some none = none_joined s from k (s.game.size * s.game.size) early none
found_onward s from k (Some r) low early some none = record {
  on_board = some.on_board;
  later = omega (arith, low, some.later);
  empty = some.empty;
  inside = some.inside;
  none = none_joined s from k (number_of s.game.size r) early some.none;
}

-- a point of the region with a stone is passed over
pub past_stone : (s : GameState) (from : ℕ) (p : Place) (o : Option Place) → IsNextInside s from p → same_cell (cell_at s.colouring (number_of s.game.size p)) Empty ≡ false
    → IfSome o (IsNextOpen s (number_of s.game.size p + 1)) → IfNone o (NoneLegal s (number_of s.game.size p + 1) (s.game.size * s.game.size))
    → IfSome o (IsNextOpen s from) × IfNone o (NoneLegal s from (s.game.size * s.game.size))
past_stone s from p o is stone some none =
    let k : ℕ = number_of s.game.size p in
    if_found s from o (found_onward s from (k + 1) o (omega (arith, is.later)) (none_more s from k k is.none (none_yet s k) (at_stone s k stone)) some none)
