-- Points assigned in order, and what the definition of a setup gives.
use Rattle.go_turns.proofs.Common.{◌≡◌, ℕ, zero, suc, ◌+◌, ◌*◌, ◌<◌, Bool, true, false, cond, nat_lt, ◌&&◌, List, [], ◌∷◌, ◌++◌, map, take, length, get_or, set, Option, Some, None, Result, Ok, Err, refl, sym, ◌∙◌, ap, subst, arith, list_all, lt-ltb, le-ltb, map-append, take_more, take_all, take_at, Cell, same_cells, same_cells_eq, Place, IsOn, on_board, number_of, first_without_liberty, number_below, TurnFault, OffBoard, NoLiberty, place_in, GameRecord, Moment, colouring_of, numbered, assigned, with_liberties, stepped, setup_of, set_up, Did, IsAt, StepsFit}
use Rattle.std.proofs.lemmas.Bool.{false_from_ne_true}
use Rattle.std.proofs.lemmas.List.Quantifiers.{position-Some}
use Rattle.go_turns.specs.Record.{set_to}
use Rattle.go_turns.specs.Private.Steps.{Joins}
use Rattle.go_turns.proofs.Steps.{at_end, fit_longer}
use Rattle.go_turns.proofs.Turns.{on_from, is_on_from}
use Rattle.go_turns.proofs.Openings.{place_back}

-- the number of a place is one of the board's exactly where the place is
pub number_on : (n : ℕ) (a : Place × Cell) → IsOn n a.0 → numbered n a ≡ (number_of n a.0, a.1)
number_on n a on = ap (λ b. (cond b (number_of n a.0) (n * n), a.1)) (on_from n a.0 on)

pub test_on : (n : ℕ) (a : Place × Cell) → IsOn n a.0 → nat_lt (numbered n a).0 (n * n) ≡ true
test_on n a on = ap (λ b. nat_lt b.0 (n * n)) (number_on n a on) ∙ lt-ltb (number_of n a.0) (n * n) (number_below n a.0 on)

pub test_off : (n : ℕ) (a : Place × Cell) → (IsOn n a.0 → ⊥) → nat_lt (numbered n a).0 (n * n) ≡ false
test_off n a off =
    ap (λ b. nat_lt (cond b (number_of n a.0) (n * n)) (n * n)) (false_from_ne_true (on_board n a.0) (λ e. off (is_on_from n a.0 e)))
    ∙ le-ltb (n * n) (n * n) (omega arith)

-- one assignment more
all_push : {X : Type 0} (test : X → Bool) (xs : List X) (x : X) → list_all test (xs ++ x ∷ []) ≡ (list_all test xs && test x)
all_push test [] x = last (test x)
  where
    last : (b : Bool) → (b && true) ≡ b
    last true = refl
    last false = refl
all_push test (y ∷ ys) x = ap (λ b. test y && b) (all_push test ys x) ∙ grouped (test y) (list_all test ys) (test x)
  where
    grouped : (a b c : Bool) → (a && (b && c)) ≡ ((a && b) && c)
    grouped true b c = refl
    grouped false b c = refl

assigned_push : (c : List Cell) (xs : List (ℕ × Cell)) (a : ℕ × Cell) → assigned c (xs ++ a ∷ []) ≡ set (assigned c xs) a.0 a.1
assigned_push c [] a = refl
assigned_push c (x ∷ xs) a = assigned_push (set c x.0 x.1) xs a

module _ (n : ℕ) (cells : List (Place × Cell)) (i : ℕ) (a : Place × Cell) (within : i < length cells) (here : get_or cells i a ≡ a) (on : IsOn n a.0) where
  front : map (numbered n) (take (i + 1) cells) ≡ map (numbered n) (take i cells) ++ numbered n a ∷ []
  front =
      ap (map (numbered n)) (take_more cells i a within)
      ∙ map-append (numbered n) (take i cells) (get_or cells i a ∷ [])
      ∙ ap (λ x. map (numbered n) (take i cells) ++ numbered n x ∷ []) here

  pub more_on : list_all (λ x. nat_lt x.0 (n * n)) (map (numbered n) (take i cells)) ≡ true → list_all (λ x. nat_lt x.0 (n * n)) (map (numbered n) (take (i + 1) cells)) ≡ true
  more_on had =
      ap (list_all (λ x. nat_lt x.0 (n * n))) front
      ∙ all_push (λ x. nat_lt x.0 (n * n)) (map (numbered n) (take i cells)) (numbered n a)
      ∙ ap (λ b. b && nat_lt (numbered n a).0 (n * n)) had
      ∙ test_on n a on

  pub more_assigned : (c after : List Cell) → after ≡ assigned c (map (numbered n) (take i cells)) → set after (number_of n a.0) a.1 ≡ assigned c (map (numbered n) (take (i + 1) cells))
  more_assigned c after had =
      sym (ap (assigned c) front
      ∙ assigned_push c (map (numbered n) (take i cells)) (numbered n a)
      ∙ ap (λ x. set (assigned c (map (numbered n) (take i cells))) x.0 x.1) (number_on n a on)
      ∙ ap (λ x. set x (number_of n a.0) a.1) (sym had))

pub set_at : (c : List Cell) (m n : ℕ) (a : Place × Cell) → m ≡ n → set c (number_of m a.0) a.1 ≡ set c (number_of n a.0) a.1
set_at c m n a e = ap (λ x. set c (number_of x a.0) a.1) e

-- one that the board does not hold
pub not_all : (n : ℕ) (cells : List (Place × Cell)) (i : ℕ) (d : Place × Cell) → i < length cells → (IsOn n (get_or cells i d).0 → ⊥) → list_all (λ a. nat_lt a.0 (n * n)) (map (numbered n) cells) ≡ false
not_all n [] i d within off = absurd (omega arith)
not_all n (a ∷ rest) zero d within off = ap (λ b. b && list_all (λ x. nat_lt x.0 (n * n)) (map (numbered n) rest)) (test_off n a off)
not_all n (a ∷ rest) (suc i) d within off = ap (λ b. nat_lt (numbered n a).0 (n * n) && b) (not_all n rest i d (omega arith) off) ∙ no_both (nat_lt (numbered n a).0 (n * n))
  where
    no_both : (b : Bool) → (b && false) ≡ false
    no_both true = refl
    no_both false = refl

-- the history after a colouring has its place
module _ (old new : List (List Cell)) (c : List Cell) (place : ℕ) where
  pub joined_at : Joins (place_in old c) old c place new → IsAt new place c
  joined_at joins = go (place_in old c) refl joins
    where
      go : (o : Option ℕ) → place_in old c ≡ o → Joins o old c place new → IsAt new place c
      go (Some earlier) e j =
          let found = position-Some (same_cells c) old earlier [] e in
          let here : IsAt old earlier c = record { within = found.0; same = sym (same_cells_eq c (get_or old earlier []) found.1) } in
          rw (j.0, j.1) here
      go None e j = rw (j.0, j.1) (at_end old c)

  pub joined_front : (o : Option ℕ) → Joins o old c place new → take (length old) new ≡ old
  joined_front (Some earlier) j = ap (take (length old)) j.1 ∙ take_all (length old) old (omega arith)
  joined_front None j = ap (take (length old)) j.1 ∙ take_at old (c ∷ []) (length old) refl

  pub joined_fit : {X : Type 0} (occurred place_of_step passes : X → ℕ) (n : ℕ) (steps : List X) (o : Option ℕ) → Joins o old c place new → StepsFit occurred place_of_step passes n old steps → StepsFit occurred place_of_step passes n new steps
  joined_fit occurred place_of_step passes n steps (Some earlier) j fit = rw j.1 fit
  joined_fit occurred place_of_step passes n steps None j fit = rw j.1 (fit_longer occurred place_of_step passes n old (c ∷ []) steps fit)

-- a setup of points is one to the colouring that they make
pub setup_is : (r : GameRecord) (cells : List (ℕ × Cell)) (c : List Cell) → list_all (λ a. nat_lt a.0 (r.size * r.size)) cells ≡ true → c ≡ assigned (colouring_of r.present) cells → setup_of r cells ≡ set_up r c
setup_is r cells c all is =
    ap (λ b. stepped r (cond b (made (assigned (colouring_of r.present) cells)) (Err OffBoard))) all ∙ ap (λ x. stepped r (made x)) (sym is)
  where
    made : List Cell → Result Moment TurnFault
    made x = with_liberties r.size (first_without_liberty r.size x) (set_to r.present x (place_in r.present.history x))

module _ (r : GameRecord) (c : List Cell) where
  due : (o : Option ℕ) → first_without_liberty r.size c ≡ o → set_up r c ≡ stepped r (with_liberties r.size o (set_to r.present c (place_in r.present.history c)))
  due o first = ap (λ f. stepped r (with_liberties r.size f (set_to r.present c (place_in r.present.history c)))) first

  pub did_smother : (p : Place) (new : GameRecord) → first_without_liberty r.size c ≡ Some (number_of r.size p) → IsOn r.size p → new ≡ r → Did (set_up r c) r (Err (NoLiberty p)) new
  did_smother p new first on kept = subst (λ d. Did d r (Err (NoLiberty p)) new) (sym (due (Some (number_of r.size p)) first)) (ap NoLiberty (sym (place_back r.size p on)), kept)

  pub did_set : (place : ℕ) (history : List (List Cell)) (new : GameRecord) → first_without_liberty r.size c ≡ None
      → Joins (place_in r.present.history c) r.present.history c place history
      → new ≡ record r { present = record { history = history; place = place; passes = 0; last_colour = r.present.last_colour }; earlier = r.present ∷ r.earlier }
      → (u : Unit {0}) → Did (set_up r c) r (Ok u) new
  did_set place history new first joins becomes u =
      subst (λ d. Did d r (Ok u) new) (sym (due None first)) (go (place_in r.present.history c) joins)
    where
      go : (o : Option ℕ) → Joins o r.present.history c place history → Did (stepped r (Ok (set_to r.present c o))) r (Ok u) new
      go (Some earlier) j = becomes ∙ (λ i. record r { present = record { history = j.1 i; place = j.0 i; passes = 0; last_colour = r.present.last_colour }; earlier = r.present ∷ r.earlier })
      go None j = becomes ∙ (λ i. record r { present = record { history = j.1 i; place = j.0 i; passes = 0; last_colour = r.present.last_colour }; earlier = r.present ∷ r.earlier })
