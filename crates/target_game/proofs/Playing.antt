-- Playing a legal turn on a record, and the legal turns one by one.
use Rattle.target_game.proofs.Common.{◌≡◌, ◌≢◌, ℕ, suc, ◌+◌, ◌-◌, ◌*◌, ◌%◌, ◌<◌, ◌≤◌, Bool, true, false, cond, not, set, ◌&&◌, ◌||◌, nat_eq, nat_lt, eqb-true, eq-eqb, lt-ltb, List, [], ◌∷◌, ◌++◌, map, filter, length, Option, Some, None, Ok, is_some, is_none, refl, sym, ◌∙◌, ap, ap₂, subst, arith, if◌then◌else◌, All, list_all, range_with_len, div-mul-add, mod-mul-add, get_or-set_other, get_or-append_seam, Colour, Cell, Empty, Stone, opponent_of, same_cell, same_cells, cell_at, after_move, Place, IsOn, on_board, number_of, same_place, holds_place, At, pass, move, ply_of, and_left, and_right, and_both, not_true, has_occurred, place_in, HasNoneOf, colouring_of, no_position, no_element, key_of, Game, GameState, holds_point, legal, next, over, targets_stand, kept_state, turn_from}
use Rattle.std.proofs.Common.{◌/◌, find}
use Rattle.std.proofs.lemmas.List.{map-id}
use Rattle.std.proofs.lemmas.List.FromFn.{filter_of_map_range_with_len_more}
use Rattle.go_turns.specs.Record.{Moment, after_play}
use Rattle.target_game.proofs.Facts.{map_all}
use Rattle.target_game.specs.Kept.{turn_or_pass}

-- whether a colouring has occurred, by its place
pub occurred_place : (h : List (List Cell)) (c : List Cell) → not (has_occurred h c) ≡ is_none (place_in h c)
occurred_place h c = go (has_occurred h c) refl (place_in h c) refl
  where
    go : (b : Bool) → has_occurred h c ≡ b → (o : Option ℕ) → place_in h c ≡ o → not b ≡ is_none o
    go true e None f = absurd (cc (no_element (same_cells c) h f, e))
    go true e (Some p) f = refl
    go false e None f = refl
    go false e (Some p) f = absurd (cc (no_position (same_cells c) h e, f))

pub occurred_is : (h : List (List Cell)) (c : List Cell) → is_some (place_in h c) ≡ has_occurred h c
occurred_is h c = go (has_occurred h c) (place_in h c) (occurred_place h c)
  where
    go : (b : Bool) (o : Option ℕ) → not b ≡ is_none o → is_some o ≡ b
    go true None e = absurd (cc)
    go true (Some p) e = refl
    go false None e = refl
    go false (Some p) e = absurd (cc)

pub new_place : (h : List (List Cell)) (c : List Cell) → not (has_occurred h c) ≡ true → place_in h c ≡ None
new_place h c e = no_position (same_cells c) h (not_true (has_occurred h c) e)

-- a colouring whose key none has
pub new_by_key : (h : List (List Cell)) (c after : List Cell) (key : ℕ) → key ≡ key_of c → after ≡ c → HasNoneOf h key → has_occurred h after ≡ false
new_by_key h c after key keyed same none = no_element (same_cells after) h (none after (ap key_of same ∙ sym keyed))

-- a stone at an empty point is at no target that stands
empty_apart : (a : Cell) (k : Colour) → same_cell a Empty ≡ true → same_cell a (Stone k) ≡ false
empty_apart Empty k free = refl
empty_apart (Stone j) k free = absurd (cc free)

pub still_stand : (ts : List ℕ) (c : List Cell) (k m : Colour) (p : ℕ) → same_cell (cell_at c p) Empty ≡ true
    → list_all (λ q. same_cell (cell_at c q) (Stone k)) ts ≡ true → list_all (λ q. same_cell (cell_at (set c p (Stone m)) q) (Stone k)) ts ≡ true
still_stand [] c k m p free stand = refl
still_stand (q ∷ qs) c k m p free stand =
    let here = and_left (same_cell (cell_at c q) (Stone k)) (list_all (λ r. same_cell (cell_at c r) (Stone k)) qs) stand in
    let rest = and_right (same_cell (cell_at c q) (Stone k)) (list_all (λ r. same_cell (cell_at c r) (Stone k)) qs) stand in
    let apart : q ≢ p = λ e. absurd (cc (here, ap (λ r. same_cell (cell_at c r) (Stone k)) e, empty_apart (cell_at c p) k free)) in
    and_both (same_cell (cell_at (set c p (Stone m)) q) (Stone k)) (list_all (λ r. same_cell (cell_at (set c p (Stone m)) r) (Stone k)) qs)
    (ap (λ a. same_cell a (Stone k)) (get_or-set_other c p q (Stone m) Empty apart) ∙ here) (still_stand qs c k m p free rest)

-- the moment that a legal turn leaves, and its state
module _ (g : Game) (k : Colour) (m : Moment) where
  pub passes_on : kept_state g (opponent_of k) (record m { passes = m.passes + 1; last_colour = Some k }) ≡ next (kept_state g k m) pass
  passes_on = refl

  pub moves_on : (p : ℕ) → legal (kept_state g k m) (move p) ≡ true
      → (n : Moment) × (after_play g.size m k (move p) ≡ Ok n) × (kept_state g (opponent_of k) n ≡ next (kept_state g k m) (move p))
  moves_on p h =
      let c : List Cell = after_move g.size (colouring_of m) k p in
      let front = and_left (nat_lt p (g.size * g.size) && holds_point g.region p && same_cell (cell_at (colouring_of m) p) Empty) (not (has_occurred m.history c)) h in
      let new = and_right (nat_lt p (g.size * g.size) && holds_point g.region p && same_cell (cell_at (colouring_of m) p) Empty) (not (has_occurred m.history c)) h in
      let free = and_right (nat_lt p (g.size * g.size) && holds_point g.region p) (same_cell (cell_at (colouring_of m) p) Empty) front in
      let on = and_left (nat_lt p (g.size * g.size)) (holds_point g.region p) (and_left (nat_lt p (g.size * g.size) && holds_point g.region p) (same_cell (cell_at (colouring_of m) p) Empty) front) in
      let n : Moment = record { history = m.history ++ c ∷ []; place = length m.history; passes = 0; last_colour = Some k } in
      let due : after_play g.size m k (move p) ≡ Ok n = rw (on, free, new_place m.history c new) refl in
      (n, due, λ i. record { game = g; colouring = get_or-append_seam m.history c [] [] i; history = m.history ++ c ∷ []; mover = opponent_of k; passes = 0 })

-- a point of the region, by the region's numbers
number_apart : (n : ℕ) (p q : Place) → IsOn n p → IsOn n q → nat_eq (number_of n p) (number_of n q) ≡ same_place p q
number_apart n p q on_p on_q = go (nat_eq (number_of n p) (number_of n q)) refl (nat_eq p.row q.row) refl (nat_eq p.column q.column) refl
  where
    go : (a : Bool) → nat_eq (number_of n p) (number_of n q) ≡ a → (b : Bool) → nat_eq p.row q.row ≡ b → (c : Bool) → nat_eq p.column q.column ≡ c → a ≡ b && c
    go true e true f true g = refl
    go false e false f c g = refl
    go false e true f false g = refl
    go true e false f c g =
        let same : p.row * n + p.column ≡ q.row * n + q.column = eqb-true (number_of n p) (number_of n q) e in
        let row : p.row ≡ q.row = sym (div-mul-add p.row n p.column on_p.column_within) ∙ ap (λ x. x / n) same ∙ div-mul-add q.row n q.column on_q.column_within in
        absurd (cc (eq-eqb p.row q.row row, f))
    go true e true f false g =
        let same : p.row * n + p.column ≡ q.row * n + q.column = eqb-true (number_of n p) (number_of n q) e in
        let column : p.column ≡ q.column = sym (mod-mul-add p.row n p.column on_p.column_within) ∙ ap (λ x. x % n) same ∙ mod-mul-add q.row n q.column on_q.column_within in
        absurd (cc (eq-eqb p.column q.column column, g))
    go false e true f true g =
        let row : p.row ≡ q.row = eqb-true p.row q.row f in
        let column : p.column ≡ q.column = eqb-true p.column q.column g in
        absurd (cc (eq-eqb (number_of n p) (number_of n q) (ap₂ (λ x y. x * n + y) row column), e))

pub holds_numbered : (n : ℕ) (ps : List Place) (p : Place) → All (IsOn n) ps → IsOn n p → holds_point (map (number_of n) ps) (number_of n p) ≡ holds_place ps p
holds_numbered n [] p on_ps on_p = refl
holds_numbered n (q ∷ qs) p on_ps on_p = ap₂ (λ a b. a || b) (number_apart n p q on_p (on_ps 0 q (omega arith))) (holds_numbered n qs p (λ k d low. on_ps (suc k) d (omega arith)) on_p)

-- the points that pass, one more
pub passing_more : (f : ℕ → Bool) (i : ℕ) → filter f (range_with_len 0 (i + 1)) ≡ filter f (range_with_len 0 i) ++ cond (f i) (i ∷ []) []
passing_more f i =
    let whole : filter f (map (λ x. x) (range_with_len 0 (i + 1))) ≡ filter f (map (λ x. x) (range_with_len 0 i)) ++ cond (f i) (i ∷ []) [] = filter_of_map_range_with_len_more f (λ x. x) 0 i i (omega arith) in
    simp map-id at whole

-- an open point, by the set that is the region
pub open_is : (n : ℕ) (ps : List Place) (p : Place) (a : Cell) (held empty : Bool) → All (IsOn n) ps → IsOn n p → held ≡ holds_place ps p → held ≡ true → empty ≡ same_cell a Empty
    → empty ≡ holds_point (map (number_of n) ps) (number_of n p) && same_cell a Empty
open_is n ps p a held empty on_ps on_p has there test = test ∙ sym (ap (λ b. b && same_cell a Empty) (holds_numbered n ps p on_ps on_p ∙ sym has ∙ there))

pub closed_is : (n : ℕ) (ps : List Place) (p : Place) (a : Cell) (held : Bool) → All (IsOn n) ps → IsOn n p → held ≡ holds_place ps p → held ≡ false
    → held ≡ holds_point (map (number_of n) ps) (number_of n p) && same_cell a Empty
closed_is n ps p a held on_ps on_p has gone = gone ∙ sym (ap (λ b. b && same_cell a Empty) (holds_numbered n ps p on_ps on_p ∙ sym has ∙ gone))

-- a legal move at an open point
pub legal_open : (s : GameState) (p : ℕ) → p < s.game.size * s.game.size → (holds_point s.game.region p && same_cell (cell_at s.colouring p) Empty) ≡ true
    → legal s (move p) ≡ not (has_occurred s.history (after_move s.game.size s.colouring s.mover p))
legal_open s p on free =
    let held : holds_point s.game.region p ≡ true = and_left (holds_point s.game.region p) (same_cell (cell_at s.colouring p) Empty) free in
    let empty : same_cell (cell_at s.colouring p) Empty ≡ true = and_right (holds_point s.game.region p) (same_cell (cell_at s.colouring p) Empty) free in
    ap (λ b. b && holds_point s.game.region p && same_cell (cell_at s.colouring p) Empty && not (has_occurred s.history (after_move s.game.size s.colouring s.mover p))) (lt-ltb p (s.game.size * s.game.size) on)
    ∙ ap (λ b. b && same_cell (cell_at s.colouring p) Empty && not (has_occurred s.history (after_move s.game.size s.colouring s.mover p))) held
    ∙ ap (λ b. b && not (has_occurred s.history (after_move s.game.size s.colouring s.mover p))) empty

-- the first legal turn from a point on
pub turn_here : (s : GameState) (i k : ℕ) → i < s.game.size * s.game.size → k ≡ i → legal s (move k) ≡ true → turn_from s i ≡ move k
unfolding turn_from
turn_here s i k low at fine =
    let passed : legal s (move i) ≡ true = subst (λ j. legal s (move j) ≡ true) at fine in
    let left : s.game.size * s.game.size - i ≡ suc (s.game.size * s.game.size - suc i) = omega arith in
    ap (λ m. turn_or_pass (find (λ p. legal s (move p)) (range_with_len i m))) left
    ∙ ap (λ b. turn_or_pass (cond b (Some i) (find (λ p. legal s (move p)) (range_with_len (i + 1) (s.game.size * s.game.size - suc i))))) passed ∙ sym (ap move at)

pub turn_later : (s : GameState) (i k : ℕ) → i < s.game.size * s.game.size → k ≡ i → legal s (move k) ≡ false → turn_from s i ≡ turn_from s (i + 1)
unfolding turn_from
turn_later s i k low at barred =
    let failed : legal s (move i) ≡ false = subst (λ j. legal s (move j) ≡ false) at barred in
    let left : s.game.size * s.game.size - i ≡ suc (s.game.size * s.game.size - (i + 1)) = omega arith in
    ap (λ m. turn_or_pass (find (λ p. legal s (move p)) (range_with_len i m))) left
    ∙ ap (λ b. turn_or_pass (cond b (Some i) (find (λ p. legal s (move p)) (range_with_len (i + 1) (s.game.size * s.game.size - (i + 1)))))) failed

pub turn_none : (s : GameState) (i : ℕ) → s.game.size * s.game.size ≤ i → turn_from s i ≡ pass
unfolding turn_from
turn_none s i past =
    let left : s.game.size * s.game.size - i ≡ 0 = omega arith in
    ap (λ m. turn_or_pass (find (λ p. legal s (move p)) (range_with_len i m))) left

-- a move at a point of the board
pub ply_at : (n : ℕ) (p : Place) → IsOn n p → ply_of n (At p) ≡ move (number_of n p)
ply_at n p on =
    let here : on_board n p ≡ true = and_both (nat_lt p.row n) (nat_lt p.column n) (lt-ltb p.row n on.row_within) (lt-ltb p.column n on.column_within) in
    ap (λ b. move (if b then number_of n p else n * n)) here

-- whether the targets stand, by their places
pub stand_is : (n : ℕ) (c : List Cell) (k : Colour) (ts : List Place) → list_all (λ p. same_cell (cell_at c p) (Stone k)) (map (number_of n) ts) ≡ list_all (λ t. same_cell (cell_at c (number_of n t)) (Stone k)) ts
stand_is n c k ts = map_all (number_of n) (λ p. same_cell (cell_at c p) (Stone k)) ts

pub stand_no : (f : Place → Bool) (ts left rest : List Place) (p : Place) (b : Bool) → left ≡ p ∷ rest → b ≡ f p → b ≡ false → list_all f left ≡ list_all f ts → list_all f ts ≡ false
stand_no f ts left rest p b first test failed had = sym had ∙ ap (list_all f) first ∙ ap (λ a. a && list_all f rest) (sym test ∙ failed)

pub stand_yes : (f : Place → Bool) (ts left : List Place) → left ≡ [] → list_all f left ≡ list_all f ts → list_all f ts ≡ true
stand_yes f ts left end had = sym had ∙ ap (list_all f) end

-- who has won where a colouring stands after a move, by whether its targets stand
pub winner_is : (s : GameState) (c : List Cell) (b : Bool) → b ≡ targets_stand (record s { colouring = c }) → over (record s { colouring = c; passes = 0 }) ≡ (if b then None else Some (opponent_of s.game.defender))
winner_is s c b e = ap (λ (a : Bool). if a then None else Some (opponent_of s.game.defender)) (sym e)
