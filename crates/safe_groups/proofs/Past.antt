-- The past fits each state that play comes to, and bars no answer.
use Rattle.safe_groups.proofs.Common.{sym, subst, refl, ◌≡◌, ◌≢◌, ◌∙◌, List, ℕ, ap, IsTrue, true, false, Bool, inl, inr, [], ◌∷◌, ◌++◌, ◌*◌, ◌<◌, ◌⊎◌, ◌&&◌, not, set, cell_at, Cell, Empty, Stone, Colour, Area, States, own, IsWalled, after_answer, Fits, IsKnown, IsAnswer, IsAnswered, Replies, Areas, area_at, RepliesTogether, PastFits, AreListed, IsOwed, or_cases, or_left, or_right, has_occurred, same_cells, same_cells_eq}
use Rattle.safe_groups.proofs.Opening.{not_both}
use Rattle.safe_groups.proofs.Fitting.{stone_on, own_stays, walled_still}
use Rattle.safe_groups.proofs.Moving.{SameOwn, is_or_not, at_put, past_put, walled_put}
use Rattle.safe_groups.proofs.Serving.{pick, pick_same, pick_other, by_pick}

-- what has occurred with one board more
pub occurred_or : (h : List (List Cell)) (b q : List Cell) → has_occurred (h ++ b ∷ []) q ≡ true → (has_occurred h q ≡ true) ⊎ (q ≡ b)
occurred_or [] b q e = elim (or_cases (same_cells q b) false e) [
  | inl is ↦ inr (same_cells_eq q b is)
  | inr none ↦ absurd (cc none)
]
occurred_or (c ∷ h) b q e = elim (or_cases (same_cells q c) (has_occurred (h ++ b ∷ []) q) e) [
  | inl is ↦ inl (or_left (same_cells q c) (has_occurred h q) is)
  | inr rest ↦ elim (occurred_or h b q rest) [
    | inl old ↦ inl (or_right (same_cells q c) (has_occurred h q) old)
    | inr new ↦ inr new
  ]
]

module _ (a : Area) where
  -- the keeper has the same stones in a state and in one that it fits
  pub known_same : (d w : List Cell) → IsWalled a d → IsWalled a w → Fits a d w → SameOwn a d w
  known_same d w wall_d wall_w fits = record { more = λ p e. more p e (a.kept p) (a.region p) refl refl; back = fits.has_own }
    where
      more : (p : ℕ) → cell_at d p ≡ own a → (s r : Bool) → a.kept p ≡ s → a.region p ≡ r → cell_at w p ≡ own a
      more p e true r is in_ = wall_w.kept p is
      more p e false true is in_ = fits.no_more p in_ e
      more p e false false is in_ =
          let on : p < a.size * a.size = stone_on a.size d a.keeper p wall_d.full e in
          absurd (not_both a (cell_at d p) e (wall_d.outside p on (ap (λ v. not v && not (a.region p)) is ∙ ap not in_)))

  -- the state after an answer has what the state had, and the answer
  module _ (W : States) (replies : Replies a W) (d : List Cell) (wall : IsWalled a d) (r : ℕ) (answer : IsAnswer a W d r) where
    after_same : SameOwn a (after_answer a d r) answer.known.0
    after_same = known_same (after_answer a d r) answer.known.0 (walled_still a (set d r (own a)) (walled_put a d wall r answer.on_board answer.empty (own a))) (replies.walled answer.known.0 answer.known.1) answer.known.2

    pub answer_has : (p : ℕ) → cell_at d p ≡ own a → cell_at answer.known.0 p ≡ own a
    answer_has p e = after_same.more p (own_stays a (set d r (own a)) (walled_put a d wall r answer.on_board answer.empty (own a)) p (past_put d r p (own a) (λ here. cc (e, ap (cell_at d) here, answer.empty)) ∙ e))

    pub answer_at : cell_at answer.known.0 r ≡ own a
    answer_at = after_same.more r (own_stays a (set d r (own a)) (walled_put a d wall r answer.on_board answer.empty (own a)) r (at_put a.size d r (own a) wall.full answer.on_board))

module _ (n : ℕ) (k : Colour) (A : Areas) where
  abbrev area : ℕ → Area
  area i = area_at n k A i

  -- two families of states with the same stones of the keeper's
  pub past_same : (c d : ℕ → List Cell) (h : List (List Cell)) → ((i : ℕ) → i < A.count → SameOwn (area i) (c i) (d i)) → PastFits k A c h → PastFits k A d h
  past_same c d h same past = λ q old all i p within allowed e. (same i within).more p (past q old (λ j r low is. all j r low ((same j low).more r is)) i p within allowed e)

  -- a board that fits the states
  pub past_board : (c : ℕ → List Cell) (b : List Cell) (h : List (List Cell)) → ((i p : ℕ) → i < A.count → IsTrue (A.answers i p) → IsTrue (A.region i p)) → ((i : ℕ) → i < A.count → Fits (area i) b (c i)) → PastFits k A c h → PastFits k A c (h ++ b ∷ [])
  past_board c b h inside fits past = λ q at all i p within allowed e. elim (occurred_or h b q at) [
    | inl old ↦ past q old all i p within allowed e
    | inr new ↦ (fits i within).no_more p (inside i p within allowed) (ap (λ z. cell_at z p) (sym new) ∙ e)
  ]

  -- The area that is owed an answer gets one: it passes, or answers.
  module _ (W : ℕ → States) (together : RepliesTogether n k A W) (d : ℕ → List Cell) (wall : (i : ℕ) → i < A.count → IsWalled (area i) (d i)) (owed : IsOwed n k A W d) where
    pub pass_same : (known : IsKnown (area owed.place) (W owed.place) (d owed.place)) → (i : ℕ) → i < A.count → SameOwn (area i) (d i) (pick owed.place known.0 d i)
    pass_same known i within = by_pick (λ j e. SameOwn (area j) (d j) e) owed.place known.0 d
        (known_same (area owed.place) (d owed.place) known.0 (wall owed.place owed.within) ((together.replies owed.place owed.within).walled known.0 known.1) known.2) i (λ ne. record { more = λ p e. e; back = λ p e. e })

    module _ (r : ℕ) (answer : IsAnswer (area owed.place) (W owed.place) (d owed.place) r) where
      after : ℕ → List Cell
      after = pick owed.place answer.known.0 d

      pub known_has : (i p : ℕ) → i < A.count → cell_at (d i) p ≡ Stone k → cell_at (pick owed.place answer.known.0 d i) p ≡ Stone k
      known_has i p within e = by_pick (λ j c. cell_at (d j) p ≡ Stone k → cell_at c p ≡ Stone k) owed.place answer.known.0 d
          (λ is. answer_has (area owed.place) (W owed.place) (together.replies owed.place owed.within) (d owed.place) (wall owed.place owed.within) r answer p is) i (λ ne is. is) e

      known_at : cell_at (pick owed.place answer.known.0 d owed.place) r ≡ Stone k
      known_at = ap (λ c. cell_at c r) (pick_same owed.place answer.known.0 d owed.place refl) ∙ answer_at (area owed.place) (W owed.place) (together.replies owed.place owed.within) (d owed.place) (wall owed.place owed.within) r answer

      -- no board of the past that has all of the keeper's stones and the answer
      not_before : (q : List Cell) (h : List (List Cell)) → PastFits k A d h → ((i p : ℕ) → i < A.count → cell_at (pick owed.place answer.known.0 d i) p ≡ Stone k → cell_at q p ≡ Stone k) → has_occurred h q ≡ true → ⊥
      not_before q h past all old =
          let held : cell_at (d owed.place) r ≡ Stone k = past q old (λ i p low is. all i p low (known_has i p low is)) owed.place r owed.within answer.allowed (all owed.place r owed.within known_at) in
          cc (held, answer.empty)

      pub answer_free : (q : List Cell) (h : List (List Cell)) → PastFits k A d h → ((i : ℕ) → i < A.count → Fits (area i) q (pick owed.place answer.known.0 d i)) → has_occurred h q ≡ false
      answer_free q h past fits = go (has_occurred h q) refl
        where
          go : (v : Bool) → has_occurred h q ≡ v → v ≡ false
          go true e = absurd (not_before q h past (λ i p low is. (fits i low).has_own p is) e)
          go false e = refl

      pub past_answered : (h : List (List Cell)) → PastFits k A d h → PastFits k A (pick owed.place answer.known.0 d) h
      past_answered h past = λ q old all i p within allowed e. absurd (not_before q h past all old)
