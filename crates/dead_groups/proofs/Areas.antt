-- The areas by which the killer's stones stand, while the killer and the other side play elsewhere, and how many answers are left there.
use Rattle.safe_groups.proofs.Common.{sym, subst, refl, ◌≡◌, ◌∙◌, List, ℕ, zero, suc, ap, IsTrue, IsFalse, true, false, Bool, inl, inr, [], ◌∷◌, ◌++◌, ◌*◌, ◌<◌, ◌≤◌, ◌&&◌, cond, not, set, arith, clear, length-clear, cell_at, same_cell, same_cell_eq, eq_same_cell, opponent_of, after_move, Cell, Empty, Stone, Colour, Points, States, IsWalled, IsAtRest, Fits, Reaches, Areas, area_at, in_one, RepliesTogether, HoldsAt, AreListed, IsKept, or_cases, and_left, and_right, and_both}
use Rattle.std.specs.List.{count_by}
use Rattle.std.proofs.lemmas.List.Sums.{sum_by-cons}
use Rattle.std.proofs.Common.{◌+◌, ◌||◌}
use Rattle.go_points.specs.Grid.{points}
use Rattle.go_points.proofs.Lists.{Member}
use Rattle.go_points.proofs.Cells.{points_member}
use Rattle.safe_groups.proofs.Fitting.{fits_clear_own, fits_clear_rest}
use Rattle.safe_groups.proofs.Moving.{full_put, full_after, after_theirs, fits_put_theirs}
use Rattle.safe_groups.proofs.Reaching.{all_breathe}
use Rattle.safe_groups.proofs.Past.{past_board}

-- a point that is in none of the sets, or in one
pub in_none : (m : ℕ) (sets : ℕ → Points) (p : ℕ) → ((i : ℕ) → i < m → sets i p ≡ false) → in_one m sets p ≡ false
in_none zero sets p none = refl
in_none (suc m) sets p none = go (sets m p) (in_one m sets p) (none m (omega arith)) (in_none m sets p (λ i low. none i (omega (arith, low))))
  where
    go : (x y : Bool) → x ≡ false → y ≡ false → (x || y) ≡ false
    go true y e f = e
    go false y e f = f

pub in_some : (m : ℕ) (sets : ℕ → Points) (p : ℕ) → in_one m sets p ≡ true → (i : ℕ) × (i < m) × (sets i p ≡ true)
in_some zero sets p e = absurd (cc e)
in_some (suc m) sets p e = elim (or_cases (sets m p) (in_one m sets p) e) [
  | inl here ↦ (m, omega arith, here)
  | inr rest ↦ let found = in_some m sets p rest in (found.0, omega (arith, found.1), found.2)
]

-- fewer points pass a stronger test, and fewer still if one passes the weaker alone
one_of : (f : ℕ → Bool) (x : ℕ) (xs : List ℕ) → count_by f (x ∷ xs) ≡ cond {A = ℕ} (f x) 1 0 + count_by f xs
one_of f x xs = sum_by-cons (λ y. cond (f y) 1 0) x xs

pub fewer : (f g : ℕ → Bool) (xs : List ℕ) → ((p : ℕ) → g p ≡ true → f p ≡ true) → count_by g xs ≤ count_by f xs
fewer f g [] le = omega arith
fewer f g (x ∷ xs) le = omega (arith, one_of f x xs, one_of g x xs, fewer f g xs le, at (f x) (g x) (le x))
  where
    at : (u v : Bool) → (v ≡ true → u ≡ true) → cond {A = ℕ} v 1 0 ≤ cond {A = ℕ} u 1 0
    at true true h = omega arith
    at true false h = omega arith
    at false true h = absurd (cc (h refl))
    at false false h = omega arith

pub fewer_by_one : (f g : ℕ → Bool) (xs : List ℕ) (r : ℕ) → Member r xs → ((p : ℕ) → g p ≡ true → f p ≡ true) → f r ≡ true → g r ≡ false → count_by g xs < count_by f xs
fewer_by_one f g [] r m le has lacks = absurd m
fewer_by_one f g (x ∷ xs) r (inl e) le has lacks =
    let here : cond {A = ℕ} (f x) 1 0 ≡ 1 = ap (λ b. cond {A = ℕ} b 1 0) (ap f (sym e) ∙ has) in
    let gone : cond {A = ℕ} (g x) 1 0 ≡ 0 = ap (λ b. cond {A = ℕ} b 1 0) (ap g (sym e) ∙ lacks) in
    omega (arith, one_of f x xs, one_of g x xs, fewer f g xs le, here, gone)
fewer_by_one f g (x ∷ xs) r (inr m) le has lacks = omega (arith, one_of f x xs, one_of g x xs, fewer_by_one f g xs r m le has lacks, at (f x) (g x) (le x))
  where
    at : (u v : Bool) → (v ≡ true → u ≡ true) → cond {A = ℕ} v 1 0 ≤ cond {A = ℕ} u 1 0
    at true true h = omega arith
    at true false h = omega arith
    at false true h = absurd (cc (h refl))
    at false false h = omega arith

module _ (n : ℕ) (k : Colour) (A : Areas) (W : ℕ → States) (together : RepliesTogether n k A W) where
  inside : (i p : ℕ) → i < A.count → IsTrue (A.answers i p) → IsTrue (A.region i p)
  inside i p within e = (together.replies i within).inside p e

  -- the other side plays outside all areas
  module _ (c : ℕ → List Cell) (b : List Cell) (h : List (List Cell)) (listed : AreListed A W c) (holds : HoldsAt n k A c b h) (x : ℕ) (on : x < n * n) (free : cell_at b x ≡ Empty)
      (beyond : (i : ℕ) → i < A.count → IsFalse (A.region i x)) where
    walled : (i : ℕ) → i < A.count → IsWalled (area_at n k A i) (c i)
    walled i low = (together.replies i low).walled (c i) (listed i low)

    rest : (i : ℕ) → i < A.count → IsAtRest (area_at n k A i) (c i)
    rest i low = (together.replies i low).at_rest (c i) (listed i low)

    there : (i : ℕ) → i < A.count → cell_at (c i) x ≡ Stone (opponent_of k)
    there i low = (walled i low).outside x on (ap (λ v. not v && not (A.region i x)) (not_kept (A.kept i x) refl) ∙ ap not (beyond i low))
      where
        not_kept : (v : Bool) → A.kept i x ≡ v → v ≡ false
        not_kept true e = absurd (cc ((holds.fits i low).has_own x ((walled i low).kept x e), free))
        not_kept false e = refl

    put_fits : (i : ℕ) → i < A.count → Fits (area_at n k A i) (set b x (Stone (opponent_of k))) (c i)
    put_fits i low = fits_put_theirs (area_at n k A i) b (c i) (holds.fits i low) holds.full (walled i low).full x on free (there i low)

    breathe : (i p : ℕ) → i < A.count → cell_at (c i) p ≡ Stone k → Reaches n (set b x (Stone (opponent_of k))) p Empty
    breathe = all_breathe n k A together.order (set b x (Stone (opponent_of k))) c put_fits (λ i p low e. (walled i low).kept p e) (λ i p low e. (rest i low).own p e) A.count (λ i p low ne e. (rest i low).given p e)

    fits : (i : ℕ) → i < A.count → Fits (area_at n k A i) (after_move n b (opponent_of k) x) (c i)
    fits i low = subst (λ z. Fits (area_at n k A i) z (c i)) (sym (after_theirs n b k x))
        (fits_clear_rest (area_at n k A i) (clear n (set b x (Stone (opponent_of k))) k) (c i)
        (fits_clear_own (area_at n k A i) (set b x (Stone (opponent_of k))) (c i) (put_fits i low) (full_put n b x (Stone (opponent_of k)) holds.full) (λ p e. breathe i p low e))
        (length-clear n (set b x (Stone (opponent_of k))) k) (rest i low).theirs)

    pub other_elsewhere : HoldsAt n k A c (after_move n b (opponent_of k) x) (h ++ after_move n b (opponent_of k) x ∷ [])
    other_elsewhere = record { full = full_after n b (opponent_of k) x; fits = fits; past = past_board n k A c (after_move n b (opponent_of k) x) h inside fits holds.past }

  -- The points at which the areas answer, and which the killer does not have yet.
  abbrev pub is_open : List Cell → ℕ → Bool
  is_open b p = in_one A.count A.answers p && not (same_cell (cell_at b p) (Stone k))

  abbrev pub left : List Cell → ℕ
  left b = count_by (is_open b) (points n)

  -- they become no more where the killer's stones stay
  pub stays_open : (c d : ℕ → List Cell) (b z : List Cell) (h j : List (List Cell)) → HoldsAt n k A c b h → HoldsAt n k A d z j → ((p : ℕ) → IsKept k A c p → IsKept k A d p) → (p : ℕ) → is_open z p ≡ true → is_open b p ≡ true
  stays_open c d b z h j holds then_ kept p e = and_both (in_one A.count A.answers p) (not (same_cell (cell_at b p) (Stone k))) answers (ap not (lacks (same_cell (cell_at b p) (Stone k)) refl))
    where
      answers : in_one A.count A.answers p ≡ true
      answers = and_left (in_one A.count A.answers p) (not (same_cell (cell_at z p) (Stone k))) e

      lacks_now : not (same_cell (cell_at z p) (Stone k)) ≡ true
      lacks_now = and_right (in_one A.count A.answers p) (not (same_cell (cell_at z p) (Stone k))) e

      lacks : (v : Bool) → same_cell (cell_at b p) (Stone k) ≡ v → v ≡ false
      lacks true is =
          let found = in_some A.count A.answers p answers in
          let still = kept p (found.0, found.1, (holds.fits found.0 found.1).no_more p (inside found.0 p found.1 found.2) (same_cell_eq (cell_at b p) (Stone k) is)) in
          let now : cell_at z p ≡ Stone k = (then_.fits still.0 still.1).has_own p still.2 in
          absurd (cc (lacks_now, ap not (eq_same_cell (cell_at z p) (Stone k) now)))
      lacks false is = refl

  pub no_more_left : (c d : ℕ → List Cell) (b z : List Cell) (h j : List (List Cell)) → HoldsAt n k A c b h → HoldsAt n k A d z j → ((p : ℕ) → IsKept k A c p → IsKept k A d p) → left z ≤ left b
  no_more_left c d b z h j holds then_ kept = fewer (is_open b) (is_open z) (points n) (stays_open c d b z h j holds then_ kept)

  pub less_left : (c d : ℕ → List Cell) (b z : List Cell) (h j : List (List Cell)) → HoldsAt n k A c b h → HoldsAt n k A d z j → ((p : ℕ) → IsKept k A c p → IsKept k A d p)
      → (r : ℕ) → r < n * n → in_one A.count A.answers r ≡ true → cell_at b r ≡ Empty → cell_at z r ≡ Stone k → left z < left b
  less_left c d b z h j holds then_ kept r on answers free there = fewer_by_one (is_open b) (is_open z) (points n) r (points_member n r on) (stays_open c d b z h j holds then_ kept)
      (and_both (in_one A.count A.answers r) (not (same_cell (cell_at b r) (Stone k))) answers (ap (λ x. not (same_cell x (Stone k))) free))
      (shut (in_one A.count A.answers r) (same_cell (cell_at z r) (Stone k)) (eq_same_cell (cell_at z r) (Stone k) there))
    where
      shut : (u v : Bool) → v ≡ true → (u && not v) ≡ false
      shut true true e = refl
      shut true false e = absurd (cc e)
      shut false v e = refl

  pub at_most : (b : List Cell) → left b ≤ count_by (in_one A.count A.answers) (points n)
  at_most b = fewer (in_one A.count A.answers) (is_open b) (points n) (λ p e. and_left (in_one A.count A.answers p) (not (same_cell (cell_at b p) (Stone k))) e)
