-- The loops and steps by which a canonical record is made.
use Rattle.tsumego_problem.proofs.Common.{◌≡◌, ℕ, suc, ◌+◌, ◌-◌, ◌*◌, ◌/◌, ◌%◌, ◌<◌, ◌≤◌, ltb-true, refl, sym, ◌∙◌, ap, ap₂, arith, drop, get_or, not, filter, nat_lt, list_all, range_with_len, All, append_assoc, append-nil, lt-ltb, and_parts, and_from, div-mul-add, mod-mul-add, nat_tests, Cell, cell_at, same_cell, Place, IsOn, on_board, number_of, place_of, holds_place, holds_point, holds_numbered, Node, point_value, point_values, changes_along, history_nodes}
use Rattle.std.specs.Prelude.{Bool, true, false, ◌&&◌, cond, List, [], ◌∷◌, ◌++◌, map}
use Rattle.std.proofs.lemmas.List.{map-append}
use Rattle.go_points.specs.declared.Turn.TheVariants.{At}
use Rattle.go_points.specs.Ply.{ply_of}
use Rattle.go_points.specs.Sgf.{sgf_text}
use Rattle.target_game.proofs.Playing.{passing_more}
use Rattle.tsumego_problem.specs.Canonical.{turn_value}
use Rattle.go_turns.proofs.Openings.{place_back}

-- ---- the values of the points that pass a test

abbrev pub ValuesBelow : ℕ → (ℕ → Bool) → ℕ → List (List ℕ) → Type 0
ValuesBelow n test k values = values ≡ map (point_value n) (filter test (range_with_len 0 k))

values_next : (n : ℕ) (test : ℕ → Bool) (k : ℕ) (values : List (List ℕ)) → ValuesBelow n test k values
    → values ++ map (point_value n) (cond (test k) (k ∷ []) []) ≡ map (point_value n) (filter test (range_with_len 0 (k + 1)))
values_next n test k values h = grind (arith, nat_tests, map-append, passing_more)

pub value_hit : (n : ℕ) (test : ℕ → Bool) (k : ℕ) (values : List (List ℕ)) (p : Place) (v : List ℕ) → p ≡ place_of n k → v ≡ sgf_text p → test k ≡ true → ValuesBelow n test k values → ValuesBelow n test (k + 1) (values ++ v ∷ [])
value_hit n test k values p v at is passed had =
    ap (λ w. values ++ w ∷ []) (is ∙ ap sgf_text at)
    ∙ ap (λ b. values ++ map (point_value n) (cond b (k ∷ []) [])) (sym passed)
    ∙ values_next n test k values had

pub value_miss : (n : ℕ) (test : ℕ → Bool) (k : ℕ) (values : List (List ℕ)) → test k ≡ false → ValuesBelow n test k values → ValuesBelow n test (k + 1) values
value_miss n test k values failed had =
    sym (append-nil values)
    ∙ ap (λ b. values ++ map (point_value n) (cond b (k ∷ []) [])) (sym failed)
    ∙ values_next n test k values had

-- ---- the values of the points of a set

abbrev pub ValuesLeft : ℕ → List (List ℕ) → List Place → List (List ℕ) → Type 0
ValuesLeft n values left whole = values ++ point_values n (map (number_of n) left) ≡ whole

pub value_more : (n : ℕ) (values whole : List (List ℕ)) (old new : List Place) (p : Place) (v : List ℕ) → old ≡ p ∷ new → All (IsOn n) old → v ≡ sgf_text p → ValuesLeft n values old whole → ValuesLeft n (values ++ v ∷ []) new whole
value_more n values whole old new p v h g e f = grind (arith, nat_tests, append_assoc, place_back)

-- ---- whether a set has each point

abbrev pub AllFrom : (ℕ → Bool) → ℕ → ℕ → Type 0
AllFrom test k area = list_all test (range_with_len k (area - k)) ≡ list_all test (range_with_len 0 area)

first_of_range : (test : ℕ → Bool) (k area : ℕ) → k < area → list_all test (range_with_len k (area - k)) ≡ (test k && list_all test (range_with_len (k + 1) (area - (k + 1))))
first_of_range test k area h = ap (λ j. list_all test (range_with_len k j)) (let e : area - k ≡ suc (area - (k + 1)) = omega arith in e)

pub all_hit : (test : ℕ → Bool) (k area : ℕ) → k < area → test k ≡ true → AllFrom test k area → AllFrom test (k + 1) area
all_hit test k area h passed had = sym (ap (λ b. b && list_all test (range_with_len (k + 1) (area - (k + 1)))) passed) ∙ sym (first_of_range test k area h) ∙ had

pub all_miss : (test : ℕ → Bool) (k area : ℕ) → k < area → test k ≡ false → AllFrom test k area → false ≡ list_all test (range_with_len 0 area)
all_miss test k area h failed had = sym (ap (λ b. b && list_all test (range_with_len (k + 1) (area - (k + 1)))) failed) ∙ sym (first_of_range test k area h) ∙ had

pub held_at : (n k : ℕ) (set : List Place) (p : Place) (b : Bool) → All (IsOn n) set → IsOn n p → number_of n p ≡ k → b ≡ holds_place set p → holds_point (map (number_of n) set) k ≡ b
held_at n k set p b on on_p at is = ap (holds_point (map (number_of n) set)) (sym at) ∙ holds_numbered n set p on on_p ∙ sym is

-- ---- the nodes of a history

abbrev pub NodesLeft : ℕ → List Node → ℕ → List (List Cell) → Type 0
NodesLeft n nodes place history = nodes ++ changes_along n (get_or history (place - 1) []) (drop place history) ≡ history_nodes n history

-- ---- cells and letters

pub cell_is : (n m k : ℕ) (cells : List Cell) (p : Place) (x : Cell) → x ≡ cell_at cells (number_of m p) → m ≡ n → number_of n p ≡ k → cell_at cells k ≡ x
cell_is n m k cells p x is side at = sym (is ∙ ap (λ s. cell_at cells (number_of s p)) side ∙ ap (cell_at cells) at)

pub comes_is : (x o m : Cell) (a d : Cell) (b : Bool) → b ≡ (same_cell m x && not (same_cell o x)) → a ≡ o → d ≡ m → (same_cell d x && not (same_cell a x)) ≡ b
comes_is x o m a d b test is_old is_new = ap₂ (λ e f. same_cell f x && not (same_cell e x)) is_old is_new ∙ sym test

pub letters_of : (n : ℕ) (p : Place) → IsOn n p → sgf_text p ≡ turn_value n (ply_of n (At p))
letters_of n p h = grind (arith, nat_tests, and_from, lt-ltb, place_back)

pub letters_past : (n : ℕ) (p : Place) → 1 ≤ n → (IsOn n p → ⊥) → 97 ∷ (97 + n) ∷ [] ≡ turn_value n (ply_of n (At p))
letters_past n p some off =
    sym (ap (λ b. point_value n (cond b (number_of n p) (n * n))) (not_on (on_board n p) refl)
    ∙ ap₂ (λ column row. (97 + column) ∷ (97 + row) ∷ []) (ap (λ j. j % n) whole ∙ mod-mul-add n n 0 some) (ap (λ j. j / n) whole ∙ div-mul-add n n 0 some))
  where
    whole : n * n ≡ n * n + 0
    whole = omega arith

    not_on : (b : Bool) → on_board n p ≡ b → on_board n p ≡ false
    not_on false e = e
    not_on true e = let t = and_parts (nat_lt p.row n) (nat_lt p.column n) e in absurd (off (record { row_within = ltb-true p.row n t.0; column_within = ltb-true p.column n t.1 }))
