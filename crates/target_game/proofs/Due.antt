-- The legal turns that are still to come: the moves that are not legal are passed over.
use Rattle.target_game.proofs.Common.{◌≡◌, ℕ, zero, suc, ◌+◌, ◌-◌, ◌*◌, ◌<◌, ◌≤◌, Bool, true, false, cond, not, ◌&&◌, ◌||◌, nat_lt, List, [], ◌∷◌, ◌++◌, map, filter, length, Option, Some, None, option_map, refl, sym, ◌∙◌, ap, ap₂, subst, inl, inr, arith, All, range_with_len, cases_lt, true≢false, length-map, length-append, MAX_SIZE, At, Empty, same_cell, cell_at, after_move, Place, IsOn, number_of, place_of, same_place, holds_place, is_before, IsFirstFrom, Ply, pass, move, ply_of, before, not_before, has_occurred, GameState, Line, legal, legal_turns, holds_point, turn_from, turns_due, Takes, NoneLegal, IsNextMove, line_after}
use Rattle.std.proofs.lemmas.Nat.{div_below, mod_below, div-add-mod'}
use Rattle.std.proofs.lemmas.List.Elements.{All-head, All-tail}
use Rattle.std.proofs.lemmas.List.Sums.{length-filter, count_by-le-length}
use Rattle.std.proofs.lemmas.List.FromFn.{length-range_with_len}
use Rattle.go_points.specs.declared.Turn.{Turn}
use Rattle.go_points.specs.Equal.{same_place_decides}
use Rattle.target_game.specs.Left.{turns_from, line_with}
use Rattle.target_game.proofs.Playing.{holds_numbered, ply_at, turn_here, turn_later, turn_none}
use Rattle.go_points.proofs.Sides.{number_below}
use Rattle.go_turns.proofs.Openings.{place_back}

-- the legal turns from a number on, by whether the move there is legal
turns_at : (s : GameState) (i : ℕ) → i < s.game.size * s.game.size → turns_from s i ≡ cond (legal s (move i)) (move i ∷ turns_from s (i + 1)) (turns_from s (i + 1))
turns_at s i low =
    let left : s.game.size * s.game.size - i ≡ suc (s.game.size * s.game.size - (i + 1)) = omega arith in
    ap (λ m. map move (filter (λ q. legal s (move q)) (range_with_len i m)) ++ pass ∷ []) left ∙ go (legal s (move i))
  where
    rest : List ℕ
    rest = filter (λ q. legal s (move q)) (range_with_len (i + 1) (s.game.size * s.game.size - (i + 1)))

    go : (b : Bool) → map move (cond b (i ∷ rest) rest) ++ pass ∷ [] ≡ cond b (move i ∷ turns_from s (i + 1)) (turns_from s (i + 1))
    go true = refl
    go false = refl

turns_here : (s : GameState) (i : ℕ) → i < s.game.size * s.game.size → legal s (move i) ≡ true → turns_from s i ≡ move i ∷ turns_from s (i + 1)
turns_here s i low fine = turns_at s i low ∙ ap (λ b. cond b (move i ∷ turns_from s (i + 1)) (turns_from s (i + 1))) fine

turns_later : (s : GameState) (i : ℕ) → i < s.game.size * s.game.size → legal s (move i) ≡ false → turns_from s i ≡ turns_from s (i + 1)
turns_later s i low barred = turns_at s i low ∙ ap (λ b. cond b (move i ∷ turns_from s (i + 1)) (turns_from s (i + 1))) barred

pub turns_end : (s : GameState) (i : ℕ) → s.game.size * s.game.size ≤ i → turns_from s i ≡ pass ∷ []
turns_end s i past =
    let none : s.game.size * s.game.size - i ≡ 0 = omega arith in
    ap (λ m. map move (filter (λ p. legal s (move p)) (range_with_len i m)) ++ pass ∷ []) none

pub turns_begun : (s : GameState) → turns_from s 0 ≡ legal_turns s
unfolding legal_turns
turns_begun s = ap (λ m. map move (filter (λ p. legal s (move p)) (range_with_len 0 m)) ++ pass ∷ []) (omega arith)

-- what is not legal is passed over
turns_over : (s : GameState) (d i : ℕ) → i + d ≤ s.game.size * s.game.size → NoneLegal s i (i + d) → turns_from s i ≡ turns_from s (i + d)
turns_over s zero i fits none = ap (turns_from s) (omega arith)
turns_over s (suc d) i fits none =
    turns_later s i (omega arith) (none i (omega arith) (omega arith))
    ∙ turns_over s d (i + 1) (omega arith) (λ j low high. none j (omega (arith, low)) (omega (arith, high)))
    ∙ ap (turns_from s) (omega arith)

pub turns_skip : (s : GameState) (i k : ℕ) → i ≤ k → k ≤ s.game.size * s.game.size → NoneLegal s i k → turns_from s i ≡ turns_from s k
turns_skip s i k low high none =
    let whole : i + (k - i) ≡ k = omega arith in
    turns_over s (k - i) i (omega arith) (λ j from below. none j from (omega (arith, below, whole))) ∙ ap (turns_from s) whole

-- the next turn, taken
pub taken_move : (s : GameState) (from : ℕ) (p : Place) → IsNextMove s from p → Takes s (Some from) (Some (ply_of s.game.size (At p))) (Some (number_of s.game.size p + 1))
taken_move s from p is =
    let k : ℕ = number_of s.game.size p in
    let at : ply_of s.game.size (At p) ≡ move k = ply_at s.game.size p is.on_board in
    let low : k < s.game.size * s.game.size = number_below s.game.size p is.on_board in
    subst (λ t. Takes s (Some from) (Some t) (Some (k + 1))) (sym at) (turns_skip s from k is.later (omega (arith, low)) is.none ∙ turns_here s k low is.legal, is.legal, refl)

pub taken_pass : (s : GameState) (from : ℕ) → NoneLegal s from (s.game.size * s.game.size) → Takes s (Some from) (Some pass) None
taken_pass s from none = (all, refl, refl)
  where
    all : turns_from s from ≡ pass ∷ []
    all = elim (cases_lt from (s.game.size * s.game.size)) [
      | inl low ↦ turns_skip s from (s.game.size * s.game.size) (omega (arith, low)) (omega arith) none ∙ turns_end s (s.game.size * s.game.size) (omega arith)
      | inr past ↦ turns_end s from past
    ]

-- the first of them
turn_over : (s : GameState) (d i : ℕ) → i + d ≤ s.game.size * s.game.size → NoneLegal s i (i + d) → turn_from s i ≡ turn_from s (i + d)
turn_over s zero i fits none = ap (turn_from s) (omega arith)
turn_over s (suc d) i fits none =
    turn_later s i i (omega arith) refl (none i (omega arith) (omega arith))
    ∙ turn_over s d (i + 1) (omega arith) (λ j low high. none j (omega (arith, low)) (omega (arith, high)))
    ∙ ap (turn_from s) (omega arith)

turn_skip : (s : GameState) (i k : ℕ) → i ≤ k → k ≤ s.game.size * s.game.size → NoneLegal s i k → turn_from s i ≡ turn_from s k
turn_skip s i k low high none =
    let whole : i + (k - i) ≡ k = omega arith in
    turn_over s (k - i) i (omega arith) (λ j from below. none j from (omega (arith, below, whole))) ∙ ap (turn_from s) whole

pub first_move : (s : GameState) (from : ℕ) (p : Place) → IsNextMove s from p → ply_of s.game.size (At p) ≡ turn_from s from
first_move s from p is =
    let k : ℕ = number_of s.game.size p in
    let low : k < s.game.size * s.game.size = number_below s.game.size p is.on_board in
    ply_at s.game.size p is.on_board ∙ sym (turn_skip s from k is.later (omega (arith, low)) is.none ∙ turn_here s k k low refl is.legal)

pub first_pass : (s : GameState) (from : ℕ) → NoneLegal s from (s.game.size * s.game.size) → pass ≡ turn_from s from
first_pass s from none = sym (elim (cases_lt from (s.game.size * s.game.size)) [
  | inl low ↦ turn_skip s from (s.game.size * s.game.size) (omega (arith, low)) (omega arith) none ∙ turn_none s (s.game.size * s.game.size) (omega arith)
  | inr past ↦ turn_none s from past
])

-- more that is not legal
pub none_yet : (s : GameState) (i : ℕ) → NoneLegal s i i
none_yet s i j low high = absurd (omega (arith, low, high))

pub none_more : (s : GameState) (i k m : ℕ) → NoneLegal s i k → NoneLegal s k m → legal s (move m) ≡ false → NoneLegal s i (m + 1)
none_more s i k m early late here j low high = elim (cases_lt j k) [
  | inl before_k ↦ early j low before_k
  | inr from_k ↦ elim (cases_lt j m) [
    | inl before_m ↦ late j from_k before_m
    | inr from_m ↦ (let same : j ≡ m = omega (arith, from_m, high) in ap (λ q. legal s (move q)) same ∙ here)
  ]
]

pub none_joined : (s : GameState) (i k m : ℕ) → NoneLegal s i k → NoneLegal s k m → NoneLegal s i m
none_joined s i k m early late j low high = elim (cases_lt j k) [
  | inl before_k ↦ early j low before_k
  | inr from_k ↦ late j from_k high
]

-- a move outside the region, or at a stone
pub outside : (s : GameState) (j : ℕ) → holds_point s.game.region j ≡ false → legal s (move j) ≡ false
outside s j out = go (nat_lt j (s.game.size * s.game.size))
  where
    go : (a : Bool) → (a && holds_point s.game.region j && same_cell (cell_at s.colouring j) Empty && not (has_occurred s.history (after_move s.game.size s.colouring s.mover j))) ≡ false
    go true = ap (λ b. b && same_cell (cell_at s.colouring j) Empty && not (has_occurred s.history (after_move s.game.size s.colouring s.mover j))) out
    go false = refl

pub at_stone : (s : GameState) (j : ℕ) → same_cell (cell_at s.colouring j) Empty ≡ false → legal s (move j) ≡ false
at_stone s j stone = go (nat_lt j (s.game.size * s.game.size) && holds_point s.game.region j)
  where
    go : (a : Bool) → (a && same_cell (cell_at s.colouring j) Empty && not (has_occurred s.history (after_move s.game.size s.colouring s.mover j))) ≡ false
    go true = ap (λ b. b && not (has_occurred s.history (after_move s.game.size s.colouring s.mover j))) stone
    go false = refl

pub at_repeat : (s : GameState) (j : ℕ) → has_occurred s.history (after_move s.game.size s.colouring s.mover j) ≡ true → legal s (move j) ≡ false
at_repeat s j again = go (nat_lt j (s.game.size * s.game.size) && holds_point s.game.region j && same_cell (cell_at s.colouring j) Empty)
  where
    go : (a : Bool) → (a && not (has_occurred s.history (after_move s.game.size s.colouring s.mover j))) ≡ false
    go true = ap not again
    go false = refl

-- the places of the region, in the order of their numbers on the board
pub on_held : (n : ℕ) (ps : List Place) (r : Place) → All (IsOn n) ps → holds_place ps r ≡ true → IsOn n r
on_held n [] r all held = absurd (true≢false (sym held))
on_held n (q ∷ qs) r all held = go (same_place r q) refl (λ h. on_held n qs r (All-tail (IsOn n) q qs all) h) held
  where
    go : (b : Bool) → same_place r q ≡ b → (holds_place qs r ≡ true → IsOn n r) → (b || holds_place qs r) ≡ true → IsOn n r
    go true e later h = subst (IsOn n) (sym ((same_place_decides r q).0 e)) (All-head (IsOn n) q qs all)
    go false e later h = later h

module _ (s : GameState) (ps : List Place) (i : ℕ) (is : s.game.region ≡ map (number_of s.game.size) ps) (all : All (IsOn s.game.size) ps) (some : 0 < s.game.size) (widest : s.game.size ≤ MAX_SIZE) where
  place_on : (j : ℕ) → j < s.game.size * s.game.size → IsOn s.game.size (place_of s.game.size j)
  place_on j low = record { row_within = div_below j s.game.size s.game.size some low; column_within = mod_below j s.game.size some }

  held_at : (j : ℕ) → j < s.game.size * s.game.size → holds_point s.game.region j ≡ holds_place ps (place_of s.game.size j)
  held_at j low = ap₂ holds_point is (sym (div-add-mod' j s.game.size)) ∙ holds_numbered s.game.size ps (place_of s.game.size j) all (place_on j low)

  widened : (q : Place) → IsOn s.game.size q → IsOn MAX_SIZE q
  widened q on = record { row_within = omega (arith, on.row_within, widest); column_within = omega (arith, on.column_within, widest) }

  -- the first place of the region from the point i on
  module _ (r : Place) (first : IsFirstFrom ps (place_of s.game.size i) (Some r)) where
    pub found_on : IsOn s.game.size r
    found_on = on_held s.game.size ps r all first.0

    back : place_of s.game.size (number_of s.game.size r) ≡ r
    back = place_back s.game.size r found_on

    pub found_later : i ≤ number_of s.game.size r
    found_later = elim (cases_lt (number_of s.game.size r) i) [
      | inl early ↦ absurd (true≢false (sym (before s.game.size (number_of s.game.size r) i some early) ∙ ap (λ p. is_before p (place_of s.game.size i)) back ∙ first.1))
      | inr late ↦ late
    ]

    pub found_inside : holds_point s.game.region (number_of s.game.size r) ≡ true
    found_inside = held_at (number_of s.game.size r) (number_below s.game.size r found_on) ∙ ap (holds_place ps) back ∙ first.0

    pub found_none : NoneLegal s i (number_of s.game.size r)
    found_none j low high =
        let on : j < s.game.size * s.game.size = omega (arith, high, number_below s.game.size r found_on) in
        outside s j (held_at j on ∙ go (holds_place ps (place_of s.game.size j)) refl)
      where
        go : (b : Bool) → holds_place ps (place_of s.game.size j) ≡ b → b ≡ false
        go false e = refl
        go true e = absurd (true≢false (
            sym (before s.game.size j (number_of s.game.size r) some high) ∙ ap (is_before (place_of s.game.size j)) back
            ∙ first.2 (place_of s.game.size j) (widened (place_of s.game.size j) (place_on j (omega (arith, high, number_below s.game.size r found_on)))) e (not_before s.game.size i j some low)))

  pub none_found : IsFirstFrom ps (place_of s.game.size i) None → NoneLegal s i (s.game.size * s.game.size)
  none_found none j low high = outside s j (held_at j high ∙ go (holds_place ps (place_of s.game.size j)) refl)
    where
      go : (b : Bool) → holds_place ps (place_of s.game.size j) ≡ b → b ≡ false
      go false e = refl
      go true e = absurd (true≢false (sym (none (place_of s.game.size j) (widened (place_of s.game.size j) (place_on j high)) e) ∙ not_before s.game.size i j some low))

-- there are no more turns than points, and the pass
pub turns_few : (s : GameState) → length (legal_turns s) ≤ s.game.size * s.game.size + 1
unfolding legal_turns
turns_few s =
    omega (arith, length-append (map move (filter (λ p. legal s (move p)) (range_with_len 0 (s.game.size * s.game.size)))) (pass ∷ []), length-map (filter (λ p. legal s (move p)) (range_with_len 0 (s.game.size * s.game.size))) move, length-filter (λ p. legal s (move p)) (range_with_len 0 (s.game.size * s.game.size)), count_by-le-length (λ p. legal s (move p)) (range_with_len 0 (s.game.size * s.game.size)), length-range_with_len 0 (s.game.size * s.game.size))

pub some_taken : (xs ys : List Ply) (t : Ply) → xs ≡ t ∷ ys → 1 ≤ length xs
some_taken xs ys t e = omega (arith, ap length e)

-- what is known of the first point of the region from a point on
pub record IsNextInside (s : GameState) (from : ℕ) (p : Place) : Type 0 where
  pub on_board : IsOn s.game.size p
  pub later : from ≤ number_of s.game.size p
  pub inside : holds_point s.game.region (number_of s.game.size p) ≡ true
  pub none : NoneLegal s from (number_of s.game.size p)

pub next_inside : (s : GameState) (ps : List Place) (from i n : ℕ) (q p : Place) (o : Option Place)
    → s.game.region ≡ map (number_of s.game.size) ps → All (IsOn s.game.size) ps → 1 ≤ n → n ≤ MAX_SIZE → n ≡ s.game.size → q ≡ place_of n i
    → from ≤ i → NoneLegal s from i → IsFirstFrom ps q o → o ≡ Some p → IsNextInside s from p
next_inside s ps from i n q p o is all some widest size at low none first found =
    let some_here : 0 < s.game.size = omega (arith, some, size) in
    let widest_here : s.game.size ≤ MAX_SIZE = omega (arith, widest, size) in
    let first_here : IsFirstFrom ps (place_of s.game.size i) (Some p) = subst (λ r. IsFirstFrom ps (place_of s.game.size i) r) found (subst (λ r. IsFirstFrom ps r o) (at ∙ ap (λ m. place_of m i) size) first) in
    record {
      on_board = found_on s ps i is all some_here widest_here p first_here;
      later = omega (arith, low, found_later s ps i is all some_here widest_here p first_here);
      inside = found_inside s ps i is all some_here widest_here p first_here;
      none = none_joined s from i (number_of s.game.size p) none (found_none s ps i is all some_here widest_here p first_here);
    }

pub next_outside : (s : GameState) (ps : List Place) (from i n : ℕ) (q : Place) (o : Option Place)
    → s.game.region ≡ map (number_of s.game.size) ps → All (IsOn s.game.size) ps → 1 ≤ n → n ≤ MAX_SIZE → n ≡ s.game.size → q ≡ place_of n i
    → NoneLegal s from i → IsFirstFrom ps q o → o ≡ None → NoneLegal s from (s.game.size * s.game.size)
next_outside s ps from i n q o is all some widest size at none first nothing =
    none_joined s from i (s.game.size * s.game.size) none
    (none_found s ps i is all (omega (arith, some, size)) (omega (arith, widest, size))
    (subst (λ r. IsFirstFrom ps (place_of s.game.size i) r) nothing (subst (λ r. IsFirstFrom ps r o) (at ∙ ap (λ m. place_of m i) size) first)))

-- LOOPS OVER THE TURNS THAT ARE LEFT

-- a turn was taken at a state that is the loop's first, and made
pub record WentOn (l : Line) (t : Ply) (old new : Option ℕ) (after : Line) : Type 0 where
  pub due : turns_due l.state old ≡ t ∷ turns_due l.state new
  pub fine : legal l.state t ≡ true
  pub made : after ≡ line_after l t

pub went_on : (l at after : Line) (o : Option Turn) (turn : Turn) (old new : Option ℕ) → at ≡ l → o ≡ Some turn
    → Takes at.state old (option_map (ply_of at.state.game.size) o) new → after ≡ line_with at (option_map (ply_of at.state.game.size) o)
    → WentOn l (ply_of l.state.game.size turn) old new after
went_on l at after o turn old new kept is takes made =
    let taken : Takes l.state old (Some (ply_of l.state.game.size turn)) new =
    subst (λ p. Takes l.state old (option_map (ply_of l.state.game.size) p) new) is (subst (λ (v : Line). Takes v.state old (option_map (ply_of v.state.game.size) o) new) kept takes) in
    record {
      due = taken.0;
      fine = taken.1;
      made = subst (λ p. after ≡ line_with l (option_map (ply_of l.state.game.size) p)) is (subst (λ (v : Line). after ≡ line_with v (option_map (ply_of v.state.game.size) o)) kept made);
    }

-- none was left
pub at_end : (l at : Line) (o : Option Turn) (old new : Option ℕ) → at ≡ l → o ≡ None → Takes at.state old (option_map (ply_of at.state.game.size) o) new → turns_due l.state old ≡ []
at_end l at o old new kept is takes =
    let ended : Takes l.state old None new =
    subst (λ p. Takes l.state old (option_map (ply_of l.state.game.size) p) new) is (subst (λ (v : Line). Takes v.state old (option_map (ply_of v.state.game.size) o) new) kept takes) in
    ap (turns_due l.state) ended.0

abbrev first_or : GameState → List GameState → GameState
first_or s [] = s
first_or s (u ∷ us) = u

abbrev others : List GameState → List GameState
others [] = []
others (u ∷ us) = us

-- the turn was taken back
pub back_again : (l down up : Line) (t : Ply) → down ≡ line_after l t → down.before ≡ up.state ∷ up.before → up ≡ l
back_again l down up t made taken =
    let same : l.state ∷ l.before ≡ up.state ∷ up.before = sym (ap (λ (v : Line). v.before) made) ∙ taken in
    let state : up.state ≡ l.state = ap (first_or l.state) (sym same) in
    let before : up.before ≡ l.before = ap others (sym same) in
    λ i. record { state = state i; before = before i }
