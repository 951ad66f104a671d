-- What the judge finds of the states of a claim makes them states with answers.
use Rattle.safe_groups.proofs.Common.{sym, subst, refl, ◌≡◌, ◌∙◌, List, ℕ, zero, suc, ap, IsTrue, true, Bool, inl, inr, [], ◌∷◌, ◌*◌, ◌<◌, length, set, arith, cell_at, Reaches, Cell, Empty, Stone, Area, States, own, theirs, IsWalled, IsAnswered, Replies, Leans, clear_loose, after_other, get_or, map, nat_eq, nat_lt, eqb-true, ◌&&◌, list_all, same_cell, same_cells, and_left, and_right, or_cases, or_left, or_right, Colour, start, holds_point, has_occurred, Ground, area_of, states_of, IsState, IsStateAnswered, All, All-tail, same_cells_refl, GameProblem, AreStates}
unfoldable use Rattle.go_points.specs.Grid.{side_of}
use Rattle.go_points.specs.Equal.{same_cells_eq}
use Rattle.safe_groups.proofs.Fitting.{fits_self}
use Rattle.safe_groups.proofs.Moving.{past_put}

pub stone_colour : (j k : Colour) → Stone j ≡ Stone k → j ≡ k
stone_colour j k e = cc e

-- what stands in a list is in it
pub listed_at : (xs : List (List Cell)) (k : ℕ) (c : List Cell) → k < length xs → c ≡ get_or xs k c → has_occurred xs c ≡ true
listed_at [] k c low e = absurd (omega (arith, low))
listed_at (x ∷ xs) zero c low e = or_left (same_cells c x) (has_occurred xs c) (ap (same_cells c) (sym e) ∙ same_cells_refl c)
listed_at (x ∷ xs) (suc k) c low e = or_right (same_cells c x) (has_occurred xs c) (listed_at xs k c (omega (arith, low)) e)

-- what stands there, whatever stands for nothing
pub same_default : (xs : List (List Cell)) (k : ℕ) (d e : List Cell) → k < length xs → get_or xs k d ≡ get_or xs k e
same_default [] k d e low = absurd (omega (arith, low))
same_default (x ∷ xs) zero d e low = refl
same_default (x ∷ xs) (suc k) d e low = same_default xs k d e (omega (arith, low))

-- what holds of each holds of one that is in the list
pub of_listed : (P : List Cell → Type 0) (xs : List (List Cell)) (c : List Cell) → All P xs → has_occurred xs c ≡ true → P c
of_listed P [] c all at = absurd (cc at)
of_listed P (x ∷ xs) c all at = elim (or_cases (same_cells c x) (has_occurred xs c) at) [
  | inl is ↦ subst P (sym (same_cells_eq c x is)) (all 0 c (omega arith))
  | inr rest ↦ of_listed P xs c (All-tail P x xs all) rest
]

module _ (a : Area) (c placed : List Cell) (x : ℕ) (free : cell_at c x ≡ Empty) (is : placed ≡ set c x (theirs a)) where
  pub untaken_by : ((p : ℕ) → cell_at placed p ≡ own a → Leans a a.held placed p) → (p : ℕ) → cell_at c p ≡ own a → Leans a a.held (set c x (theirs a)) p
  untaken_by stand p e =
      let here : cell_at placed p ≡ own a = ap (λ d. cell_at d p) is ∙ past_put c x p (theirs a) (λ at. cc (e, ap (cell_at c) at, free)) ∙ e in
      subst (λ d. Leans a a.held d p) is (stand p here)

  pub left_is : (left : List Cell) → left ≡ clear_loose a placed → left ≡ after_other a c x
  left_is left clears = clears ∙ ap (clear_loose a) is

pub answers_inside : (g : Ground) (p : ℕ) → IsTrue ((area_of g).answers p) → IsTrue ((area_of g).region p)
answers_inside g p is = and_left (nat_lt p (side_of g.cells * side_of g.cells) && same_cell (cell_at g.cells p) Empty) (same_cell (cell_at g.marks p) (Stone g.keeper)) is

-- what each place of a list passes, each point of it passes
pub targets_by : {A : Type 0} (number : A → ℕ) (f : ℕ → Bool) (xs : List A) (p : ℕ) → list_all (λ x. f (number x)) xs ≡ true → holds_point (map number xs) p ≡ true → f p ≡ true
targets_by number f [] p all at = absurd (cc at)
targets_by number f (x ∷ xs) p all at = elim (or_cases (nat_eq p (number x)) (holds_point (map number xs) p) at) [
  | inl is ↦ ap f (eqb-true p (number x) is) ∙ and_left (f (number x)) (list_all (λ y. f (number y)) xs) all
  | inr rest ↦ targets_by number f xs p (and_right (f (number x)) (list_all (λ y. f (number y)) xs) all) rest
]
