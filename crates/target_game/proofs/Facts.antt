-- What every problem keeps, from the refusals that it was asked.
use Rattle.target_game.proofs.Common.{◌≡◌, ℕ, zero, suc, ◌*◌, ◌<◌, Bool, true, false, cond, not, ◌&&◌, nat_eq, nat_lt, eqb-true, ltb-true, ltb-false, List, [], ◌∷◌, map, length, get_or, Option, Some, None, is_none, slice_get, Result, Ok, Err, refl, sym, ◌∙◌, ap, subst, arith, All, list_all, mul-add-lt, length-map, Colour, Cell, Empty, Stone, same_cell, cell_at, side_of, all_reach_empty, Place, IsOn, on_board, number_of, side_of-whole, and_left, and_right, same_cell_eq, same_cell_refl, repeats, MAX_HISTORY, one_colour, problem_on, problem_of}
use Rattle.std.proofs.Common.{nat_le, leb-false, MatchResult}
use Rattle.go_points.proofs.Lists.{not_false}
use Rattle.go_points.proofs.Cells.{eq_same_cell}
use Rattle.target_game.specs.declared.bad_problem.BadProblem.{BadProblem}
use Rattle.target_game.specs.State.{GameProblem}
use Rattle.target_game.specs.Problem.{first_refusal, refusals, the_colour, unless_refused}
use Rattle.target_game.specs.Kept.{kept_problem}
use Rattle.target_game.specs.Laws.{IsProblem}
use Rattle.target_game.proofs.Loops.{on_first}
use Rattle.go_turns.proofs.Turns.{is_on_from}

-- an element of a list all of which pass
pub all_pass : {A : Type 0} (f : A → Bool) (xs : List A) → list_all f xs ≡ true → (k : ℕ) (d : A) → k < length xs → f (get_or xs k d) ≡ true
all_pass f [] h k d low = absurd (omega arith)
all_pass f (x ∷ xs) h zero d low = and_left (f x) (list_all f xs) h
all_pass f (x ∷ xs) h (suc k) d low = all_pass f xs (and_right (f x) (list_all f xs) h) k d (omega arith)

-- a test that did not refuse, and those after it
not_refused : (t : Bool) (x : BadProblem) (rest : Option BadProblem) → cond t (Some x) rest ≡ None → (t ≡ false) × (rest ≡ None)
not_refused true x rest h = absurd (cc)
not_refused false x rest h = (refl, h)

pub unrefused : (o : Option BadProblem) (r q : GameProblem) → unless_refused o r ≡ Ok q → (o ≡ None) × (r ≡ q)
unrefused None r q h = (refl, cc h)
unrefused (Some x) r q h = absurd (cc)

-- stones of one colour all hold it
all_of_colour : (xs : List Cell) (x : Colour) → one_colour xs ≡ Some x → (0 < length xs) × (list_all (λ a. same_cell a (Stone x)) xs ≡ true)
all_of_colour [] x h = absurd (cc)
all_of_colour (Empty ∷ rest) x h = absurd (cc)
all_of_colour (Stone y ∷ rest) x h = go (list_all (same_cell (Stone y)) rest) refl h
  where
    others : (zs : List Cell) → list_all (same_cell (Stone y)) zs ≡ true → list_all (λ a. same_cell a (Stone y)) zs ≡ true
    others [] e = refl
    others (z ∷ zs) e =
        let one : Stone y ≡ z = same_cell_eq (Stone y) z (and_left (same_cell (Stone y) z) (list_all (same_cell (Stone y)) zs) e) in
        ap (λ b. b && list_all (λ a. same_cell a (Stone y)) zs) (eq_same_cell z (Stone y) (sym one)) ∙ others zs (and_right (same_cell (Stone y) z) (list_all (same_cell (Stone y)) zs) e)

    go : (b : Bool) → list_all (same_cell (Stone y)) rest ≡ b → cond b (Some y) None ≡ Some x → (0 < suc (length rest)) × ((same_cell (Stone y) (Stone x) && list_all (λ a. same_cell a (Stone x)) rest) ≡ true)
    go false e h' = absurd (cc)
    go true e h' =
        let same : y ≡ x = cc h' in (
          omega arith,
          subst (λ z. (same_cell (Stone y) (Stone z) && list_all (λ a. same_cell a (Stone z)) rest) ≡ true) same
              (ap (λ b. b && list_all (λ a. same_cell a (Stone y)) rest) (same_cell_refl (Stone y)) ∙ others rest e),
        )

some_colour : (o : Option Colour) → is_none o ≡ false → o ≡ Some (the_colour o)
some_colour None h = absurd (cc)
some_colour (Some x) h = refl

pub map_all : {A B : Type 0} (f : A → B) (test : B → Bool) (xs : List A) → list_all test (map f xs) ≡ list_all (λ a. test (f a)) xs
map_all f test [] = refl
map_all f test (x ∷ xs) = ap (λ b. test (f x) && b) (map_all f test xs)

numbers_on : (n : ℕ) (ps : List Place) → All (IsOn n) ps → All (λ p. p < n * n) (map (number_of n) ps)
numbers_on n [] on k d low = absurd (omega arith)
numbers_on n (p ∷ ps) on zero d low = let here = on 0 p (omega arith) in mul-add-lt p.row n p.column n here.row_within here.column_within
numbers_on n (p ∷ ps) on (suc k) d low = numbers_on n ps (λ j e less. on (suc j) e (omega arith)) k d (omega arith)

-- what a problem keeps, and that its targets and its region stand on the board
pub record Facts (history : List (List Cell)) (place passes : ℕ) (targets region : List Place) (q : GameProblem) : Type 0 where
  pub problem : IsProblem q
  pub size : q.game.size ≡ side_of (get_or history 0 [])
  pub targets_on : All (IsOn q.game.size) targets
  pub region_on : All (IsOn q.game.size) region
  pub sides : All (λ c. side_of c ≡ q.game.size) history

pub facts : (history : List (List Cell)) (place : ℕ) (mover : Colour) (passes : ℕ) (targets region : List Place) (q : GameProblem) → problem_of history place mover passes targets region ≡ Ok q → Facts history place passes targets region q
unfolding problem_of
facts [] place mover passes targets region q h = absurd (cc)
facts (c ∷ cs) place mover passes targets region q h =
    let n : ℕ = side_of c in
    let hs : List (List Cell) = c ∷ cs in
    let cells : List Cell = map (λ p. cell_at (get_or hs place []) (number_of n p)) targets in
    let sizes : Bool = list_all (λ d. nat_eq (length d) (n * n)) hs in
    let on_targets : Bool = list_all (on_board n) targets in
    let on_region : Bool = list_all (on_board n) region in
    let made = unrefused (first_refusal (refusals n hs place passes targets region)) _ q h in
    let a1 = not_refused (not (sizes && on_targets && on_region)) _ _ made.0 in
    let a2 = not_refused (not (nat_lt place (length hs))) _ _ a1.1 in
    let a3 = not_refused (is_none (one_colour cells)) _ _ a2.1 in
    let a4 = not_refused (nat_le 2 passes) _ _ a3.1 in
    let a5 = not_refused (nat_eq (length region) 0) _ _ a4.1 in
    let a6 = not_refused (nat_lt MAX_HISTORY (length hs)) _ _ a5.1 in
    let a7 = not_refused (not (list_all (all_reach_empty n) hs)) _ _ a6.1 in
    let a8 = not_refused (repeats hs) _ _ a7.1 in
    let all : (sizes && on_targets && on_region) ≡ true = not_false (sizes && on_targets && on_region) a1.0 in
    let two : (sizes && on_targets) ≡ true = and_left (sizes && on_targets) on_region all in
    let whole : All (λ (d : List Cell). length d ≡ n * n) hs = λ k d low. eqb-true (length (get_or hs k d)) (n * n) (all_pass (λ (e : List Cell). nat_eq (length e) (n * n)) hs (and_left sizes on_targets two) k d low) in
    let targets_on : All (IsOn n) targets = λ k d low. is_on_from n (get_or targets k d) (all_pass (on_board n) targets (and_right sizes on_targets two) k d low) in
    let region_on : All (IsOn n) region = λ k d low. is_on_from n (get_or region k d) (all_pass (on_board n) region (and_right (sizes && on_targets) on_region all) k d low) in
    let free : list_all (all_reach_empty n) hs ≡ true = not_false (list_all (all_reach_empty n) hs) a7.0 in
    let defender : Colour = the_colour (one_colour cells) in
    let stones = all_of_colour cells defender (some_colour (one_colour cells) a3.0) in
    let stand : list_all (λ p. same_cell (cell_at (get_or hs place []) p) (Stone defender)) (map (number_of n) targets) ≡ true =
    map_all (number_of n) (λ p. same_cell (cell_at (get_or hs place []) p) (Stone defender)) targets
    ∙ sym (map_all (λ p. cell_at (get_or hs place []) (number_of n p)) (λ a. same_cell a (Stone defender)) targets) ∙ stones.1 in
    subst (λ (r : GameProblem). Facts hs place passes targets region r) made.1 (record {
      problem = record {
        present = ltb-true place (length hs) (not_false (nat_lt place (length hs)) a2.0);
        sizes = whole;
        liberties = λ k d low. all_pass (all_reach_empty n) hs free k d low;
        once = a8.0;
        few = ltb-false MAX_HISTORY (length hs) a6.0;
        passes = leb-false 2 passes a4.0;
        stones = stand;
        some_target = omega (arith, stones.0, length-map targets (λ p. cell_at (get_or hs place []) (number_of n p)), length-map targets (number_of n));
        targets = numbers_on n targets targets_on;
        some_point = some region a5.0;
        region = numbers_on n region region_on;
      };
      size = refl;
      targets_on = targets_on;
      region_on = region_on;
      sides = λ k d low. side_of-whole (get_or hs k d) n (whole k d low);
    })
  where
    some : (ps : List Place) → nat_eq (length ps) 0 ≡ false → 0 < length (map (number_of (side_of c)) ps)
    some [] e = absurd (cc)
    some (p ∷ ps) e = omega arith

pub problems_are_sound : (history : List (List Cell)) (place : ℕ) (mover : Colour) (passes : ℕ) (targets region : List Place) (q : GameProblem) → problem_of history place mover passes targets region ≡ Ok q → IsProblem q
problems_are_sound history place mover passes targets region q h = let all = facts history place mover passes targets region q h in all.problem

-- the problem of the parts that the questions leave
pub made_of : (n : ℕ) (h : List (List Cell)) (place : ℕ) (mover : Colour) (passes : ℕ) (targets region : List Place) (x : Colour)
    → first_refusal (refusals n h place passes targets region) ≡ None → one_colour (map (λ p. cell_at (get_or h place []) (number_of n p)) targets) ≡ Some x
    → problem_on n h place mover passes targets region ≡ Ok (kept_problem n h place mover passes targets x region)
made_of n h place mover passes targets region x none some =
    ap (λ o. unless_refused o (kept_problem n h place mover passes targets (the_colour (one_colour (map (λ p. cell_at (get_or h place []) (number_of n p)) targets))) region)) none
    ∙ ap (λ o. Ok (kept_problem n h place mover passes targets (the_colour o) region)) some

pub refused_by : (n : ℕ) (h : List (List Cell)) (place : ℕ) (mover : Colour) (passes : ℕ) (targets region : List Place) (e : BadProblem)
    → first_refusal (refusals n h place passes targets region) ≡ Some e → problem_on n h place mover passes targets region ≡ Err e
refused_by n h place mover passes targets region e some =
    ap (λ o. unless_refused o (kept_problem n h place mover passes targets (the_colour (one_colour (map (λ p. cell_at (get_or h place []) (number_of n p)) targets))) region)) some

-- what the questions answered, about the problem of a history whose first colouring is c
abbrev pub Asked : ℕ → List (List Cell) → ℕ → ℕ → List Place → List Place → Result Colour BadProblem → Type 0
Asked n h place passes targets region r =
    MatchResult r (λ x. (first_refusal (refusals n h place passes targets region) ≡ None) × (one_colour (map (λ p. cell_at (get_or h place []) (number_of n p)) targets) ≡ Some x)) (λ e. first_refusal (refusals n h place passes targets region) ≡ Some e)

pub asked_ok : (h : List (List Cell)) (c : List Cell) (n place : ℕ) (mover : Colour) (passes : ℕ) (targets region : List Place) (r : Result Colour BadProblem) (x : Colour)
    → slice_get h 0 ≡ Some c → n ≡ side_of c → r ≡ Ok x → Asked n h place passes targets region r → problem_of h place mover passes targets region ≡ Ok (kept_problem n h place mover passes targets x region)
asked_ok h c n place mover passes targets region (Err e) x first size is asked = absurd (cc)
asked_ok h c n place mover passes targets region (Ok y) x first size is asked =
    let same : y ≡ x = cc is in
    on_first h c place mover passes targets region first ∙ ap (λ m. problem_on m h place mover passes targets region) (sym size)
    ∙ made_of n h place mover passes targets region y asked.0 asked.1 ∙ ap (λ z. Ok (kept_problem n h place mover passes targets z region)) same

pub asked_err : (h : List (List Cell)) (c : List Cell) (n place : ℕ) (mover : Colour) (passes : ℕ) (targets region : List Place) (r : Result Colour BadProblem) (e : BadProblem)
    → slice_get h 0 ≡ Some c → n ≡ side_of c → r ≡ Err e → Asked n h place passes targets region r → problem_of h place mover passes targets region ≡ Err e
asked_err h c n place mover passes targets region (Ok y) e first size is asked = absurd (cc)
asked_err h c n place mover passes targets region (Err d) e first size is asked =
    let same : d ≡ e = cc is in
    on_first h c place mover passes targets region first ∙ ap (λ m. problem_on m h place mover passes targets region) (sym size)
    ∙ refused_by n h place mover passes targets region d asked ∙ ap Err same
