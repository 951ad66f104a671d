-- What a move on the board leaves of the states of several areas that the board fits.
use Rattle.safe_groups.proofs.Common.{sym, subst, refl, ◌≡◌, ◌≢◌, ◌∙◌, List, ℕ, zero, suc, ap, IsTrue, IsFalse, true, false, Bool, inl, inr, ◌*◌, ◌<◌, ◌⊎◌, ◌&&◌, cond, not, length, set, arith, clear, cell_at, opponent_of, after_move, Reaches, Cell, Empty, Stone, Colour, same_cell, same_cell_eq, eq_same_cell, nat_eq, eqb-true, Area, States, own, theirs, is_outside, IsWalled, after_other, after_answer, Fits, IsAtRest, IsKnown, IsAnswer, IsAnswered, Replies, Leans, Areas, area_at, RepliesTogether, AreListed, IsOwed, eq-eqb, length-clear}
use Rattle.safe_groups.proofs.Opening.{cell_cases, not_both}
use Rattle.safe_groups.proofs.Fitting.{fits_clear_own, fits_clear_rest, fits_clear_loose, fits_on, was_there, own_stays, walled_still}
use Rattle.safe_groups.proofs.Moving.{SameOwn, is_or_not, at_put, past_put, full_put, after_is, after_theirs, fits_put, fits_put_theirs, fits_put_outside, walled_put}
use Rattle.safe_groups.proofs.Reaching.{all_breathe}

-- The states with another one at the place l.
pub pick : ℕ → List Cell → (ℕ → List Cell) → ℕ → List Cell
pick l new c i = cond (nat_eq i l) new (c i)

pub pick_same : (l : ℕ) (new : List Cell) (c : ℕ → List Cell) (i : ℕ) → i ≡ l → pick l new c i ≡ new
unfolding pick
pick_same l new c i e = ap (λ b. cond b new (c i)) (eq-eqb i l e)

pub pick_other : (l : ℕ) (new : List Cell) (c : ℕ → List Cell) (i : ℕ) → i ≢ l → pick l new c i ≡ c i
unfolding pick
pick_other l new c i ne = go (nat_eq i l) refl
  where
    go : (b : Bool) → nat_eq i l ≡ b → cond b new (c i) ≡ c i
    go true e = absurd (ne (eqb-true i l e))
    go false e = refl

-- what holds of the new one at its place, and of each other one, holds of all
pub by_pick : (P : ℕ → List Cell → Type 0) (l : ℕ) (new : List Cell) (c : ℕ → List Cell) → P l new → (i : ℕ) → (i ≢ l → P i (c i)) → P i (pick l new c i)
by_pick P l new c here i there = elim (is_or_not i l) [
  | inl e ↦ subst (P i) (sym (pick_same l new c i e)) (subst (λ j. P j new) (sym e) here)
  | inr ne ↦ subst (P i) (sym (pick_other l new c i ne)) (there ne)
]

-- the first of some that pass a test, or none does
find_below : (f : ℕ → Bool) (m : ℕ) → ((l : ℕ) × (l < m) × (f l ≡ true)) ⊎ ((i : ℕ) → i < m → f i ≡ false)
find_below f zero = inr (λ i low. absurd (omega (arith, low)))
find_below f (suc m) = go (f m) refl (find_below f m)
  where
    go : (b : Bool) → f m ≡ b → ((l : ℕ) × (l < m) × (f l ≡ true)) ⊎ ((i : ℕ) → i < m → f i ≡ false) → ((l : ℕ) × (l < suc m) × (f l ≡ true)) ⊎ ((i : ℕ) → i < suc m → f i ≡ false)
    go true e rest = inl (m, omega arith, e)
    go false e (inl found) = inl (found.0, omega (arith, found.1), found.2)
    go false e (inr none) = inr (λ i low. elim (is_or_not i m) [
      | inl at ↦ ap f at ∙ e
      | inr ne ↦ none i (omega (arith, low, ne))
    ])

module _ (n : ℕ) (k : Colour) (A : Areas) (W : ℕ → States) (together : RepliesTogether n k A W) where
  abbrev area : ℕ → Area
  area i = area_at n k A i

  abbrev AllFit : List Cell → (ℕ → List Cell) → Type 0
  AllFit b c = (i : ℕ) → i < A.count → Fits (area i) b (c i)

  abbrev AllWalled : (ℕ → List Cell) → Type 0
  AllWalled c = (i : ℕ) → i < A.count → IsWalled (area i) (c i)

  pub all_walled : (c : ℕ → List Cell) → AreListed A W c → AllWalled c
  all_walled c listed i within = (together.replies i within).walled (c i) (listed i within)

  resting : (c : ℕ → List Cell) → AreListed A W c → (i : ℕ) → i < A.count → IsAtRest (area i) (c i)
  resting c listed i within = (together.replies i within).at_rest (c i) (listed i within)

  -- taking off the keeper's stones takes none that the states have
  settled : (b : List Cell) (c : ℕ → List Cell) → length b ≡ n * n → AreListed A W c → AllFit b c → AllFit (clear n b k) c
  settled b c full listed fits i within = fits_clear_own (area i) b (c i) (fits i within) full
      (λ p is. all_breathe n k A together.order b c fits (λ j q low e. (all_walled c listed j low).kept q e) (λ j q low e. (resting c listed j low).own q e)
      A.count (λ j q low ne e. (resting c listed j low).given q e) i p within is)

  -- What the other side's move leaves: states that the board fits, with the same stones of the keeper's, of which one may be owed an
  -- answer.
  pub record Left (c : ℕ → List Cell) (b : List Cell) : Type 0 where
    pub state : ℕ → List Cell
    pub walled : AllWalled state
    pub fits : AllFit b state
    pub same : (i : ℕ) → i < A.count → SameOwn (area i) (c i) (state i)
    pub answered : AreListed A W state ⊎ IsOwed n k A W state

  module _ (c : ℕ → List Cell) (listed : AreListed A W c) (b : List Cell) (full : length b ≡ n * n) (fits : AllFit b c) where
    walled : AllWalled c
    walled = all_walled c listed

    rest : (i : ℕ) → i < A.count → IsAtRest (area i) (c i)
    rest = resting c listed

    module _ (x : ℕ) (on : x < n * n) (free : cell_at b x ≡ Empty) where
      put : List Cell
      put = set b x (Stone (opponent_of k))

      full_put_b : length put ≡ n * n
      unfolding put
      full_put_b = full_put n b x (Stone (opponent_of k)) full

      -- where a state is not empty, it has one of the other side's stones, which is not there any more
      gone : (i : ℕ) → i < A.count → (cell_at (c i) x ≡ Empty → ⊥) → cell_at (c i) x ≡ theirs (area i)
      gone i within other = elim (cell_cases (area i) (cell_at (c i) x)) [
        | inl open_ ↦ absurd (other open_)
        | inr stone ↦ elim stone [
          | inl mine ↦ absurd (cc ((fits i within).has_own x mine, free))
          | inr there ↦ there
        ]
      ]

      put_elsewhere : (i : ℕ) → i < A.count → (cell_at (c i) x ≡ Empty → ⊥) → Fits (area i) put (c i)
      unfolding put
      put_elsewhere i within other = fits_put_theirs (area i) b (c i) (fits i within) full (walled i within).full x on free (gone i within other)

      rest_after : (i : ℕ) → (within : i < A.count) → Fits (area i) (clear n put k) (c i) → Fits (area i) (clear n (clear n put k) (opponent_of k)) (c i)
      rest_after i within first = fits_clear_rest (area i) (clear n put k) (c i) first (length-clear n put k) (rest i within).theirs

      -- the move is in none of the regions
      elsewhere : ((i : ℕ) → i < A.count → cell_at (c i) x ≡ Empty → ⊥) → Left c (clear n (clear n put k) (opponent_of k))
      elsewhere nowhere = record {
        state = c;
        walled = walled;
        fits = λ i within. rest_after i within (settled put c full_put_b listed (λ j low. put_elsewhere j low (nowhere j low)) i within);
        same = λ i within. record { more = λ p e. e; back = λ p e. e };
        answered = inl listed;
      }

      -- it is in the region of the area l
      module _ (l : ℕ) (low : l < A.count) (open_ : cell_at (c l) x ≡ Empty) where
        there : List Cell
        there = set (c l) x (theirs (area l))

        wall : IsWalled (area l) there
        unfolding there
        wall = walled_put (area l) (c l) (walled l low) x on open_ (theirs (area l))

        only : (p : ℕ) → cell_at there p ≡ Stone k → cell_at (c l) p ≡ Stone k
        unfolding there
        only p e = elim (is_or_not p x) [
          | inl here ↦ absurd (not_both (area l) (cell_at (set (c l) x (theirs (area l))) p) e (ap (cell_at (set (c l) x (theirs (area l)))) here ∙ at_put n (c l) x (theirs (area l)) (walled l low).full on))
          | inr ne ↦ sym (past_put (c l) x p (theirs (area l)) ne) ∙ e
        ]

        -- no other state is empty there
        not_free : (i : ℕ) → i < A.count → i ≢ l → cell_at (c i) x ≡ Empty → ⊥
        not_free i within ne e = ne (together.order.apart i l x within low (in_region i within e) (in_region l low open_))
          where
            in_region : (j : ℕ) → (at : j < A.count) → cell_at (c j) x ≡ Empty → IsTrue (A.region j x)
            in_region j at f = go (A.kept j x) (A.region j x) refl refl
              where
                go : (s r : Bool) → A.kept j x ≡ s → A.region j x ≡ r → r ≡ true
                go s true is in_ = refl
                go true false is in_ = absurd (cc ((walled j at).kept x is, f))
                go false false is in_ = absurd (cc ((walled j at).outside x on (ap (λ v. not v && not (A.region j x)) is ∙ ap not in_), f))

        placed : ℕ → List Cell
        placed = pick l there c

        put_fits : AllFit put placed
        unfolding put placed there
        put_fits i within = by_pick (λ j d. Fits (area j) (set b x (Stone (opponent_of k))) d) l (set (c l) x (theirs (area l))) c
            (fits_put (area l) b (c l) (fits l low) full (walled l low).full x on open_ (theirs (area l))) i (λ ne. put_elsewhere i within (not_free i within ne))

        breathe : (i p : ℕ) → i < A.count → cell_at (placed i) p ≡ Stone k → Reaches n put p Empty
        unfolding placed there
        breathe = all_breathe n k A together.order put placed put_fits
            (λ i p within e. by_pick (λ j d. IsTrue (A.kept j p) → cell_at d p ≡ Stone k) l there c (λ h. wall.kept p h) i (λ ne h. (walled i within).kept p h) e)
            (λ i p within e. by_pick (λ j d. cell_at d p ≡ Stone k → Leans (area j) (A.held j) d p) l there c (λ h. stands p h) i (λ ne h. (rest i within).own p h) e)
            l
            (λ i p within ne e. subst (λ d. Leans (area i) (A.earlier i) d p) (sym (pick_other l there c i ne)) ((rest i within).given p e))
          where
            stands : (p : ℕ) → cell_at there p ≡ Stone k → Leans (area l) (A.held l) there p
            stands p h = (together.replies l low).untaken (c l) (listed l low) x on open_ p (only p h)

        here_fits : Fits (area l) (clear n put k) there
        unfolding put there placed
        here_fits = fits_clear_own (area l) put there (fits_put (area l) b (c l) (fits l low) full (walled l low).full x on open_ (theirs (area l))) full_put_b
            (λ p is. breathe l p low (ap (λ d. cell_at d p) (pick_same l there c l refl) ∙ is))

        left : List Cell
        left = after_other (area l) (c l) x

        after : ℕ → List Cell
        after = pick l left c

        inside : Left c (clear n (clear n put k) (opponent_of k))
        unfolding after left there placed
        inside = record {
          state = pick l (after_other (area l) (c l) x) c;
          walled = λ i within. by_pick (λ j d. IsWalled (area j) d) l (after_other (area l) (c l) x) c (walled_still (area l) there wall) i (λ ne. walled i within);
          fits = λ i within. by_pick (λ j d. Fits (area j) (clear n (clear n put k) (opponent_of k)) d) l (after_other (area l) (c l) x) c
              (fits_clear_loose (area l) there wall (clear n put k) (length-clear n put k) here_fits) i
              (λ ne. rest_after i within (fits_clear_own (area i) put (c i) (put_elsewhere i within (not_free i within ne)) full_put_b
              (λ p is. breathe i p within (ap (λ d. cell_at d p) (pick_other l there c i ne) ∙ is))));
          same = λ i within. by_pick (λ j d. SameOwn (area j) (c j) d) l (after_other (area l) (c l) x) c
              (record {
                more = λ p e. own_stays (area l) there wall p (past_put (c l) x p (theirs (area l)) (λ at. cc (e, ap (cell_at (c l)) at, open_)) ∙ e);
                back = λ p e. only p (was_there (area l) there wall k p e).0;
              }) i (λ ne. record { more = λ p e. e; back = λ p e. e });
          answered = inr (record {
            place = l;
            within = low;
            others = λ i within ne. subst (λ d. IsTrue (W i d)) (sym (pick_other l (after_other (area l) (c l) x) c i ne)) (listed i within);
            answered = subst (IsAnswered (area l) (W l)) (sym (pick_same l (after_other (area l) (c l) x) c l refl)) ((together.replies l low).answered (c l) (listed l low) x on open_);
          });
        }

      pub other_moves : Left c (after_move n b (opponent_of k) x)
      unfolding put
      other_moves = subst (Left c) (sym (after_theirs n b k x)) (elim (find_below (λ i. same_cell (cell_at (c i) x) Empty) A.count) [
        | inl found ↦ inside found.0 found.1 (same_cell_eq (cell_at (c found.0) x) Empty found.2)
        | inr none ↦ elsewhere (λ i within e. cc (eq_same_cell (cell_at (c i) x) Empty e, none i within))
      ])

    -- a stone of the keeper's outside one of the regions
    put_outside : (i y : ℕ) → (within : i < A.count) → y < n * n → cell_at b y ≡ Empty → IsFalse (A.region i y) → Fits (area i) (clear n (set b y (Stone k)) (opponent_of k)) (c i)
    put_outside i y within on free beyond = fits_clear_rest (area i) (set b y (Stone k)) (c i) (fits_put_outside (area i) b (c i) (fits i within) full (walled i within).full y on out beyond there) (full_put n b y (Stone k) full) (rest i within).theirs
      where
        not_kept : (v : Bool) → A.kept i y ≡ v → v ≡ false
        not_kept true e = absurd (cc ((fits i within).has_own y ((walled i within).kept y e), free))
        not_kept false e = refl

        out : is_outside (area i) y ≡ true
        out = ap (λ v. not v && not (A.region i y)) (not_kept (A.kept i y) refl) ∙ ap not beyond

        there : cell_at (c i) y ≡ theirs (area i)
        there = (walled i within).outside y on out

    -- the keeper plays outside all regions
    pub wanders : (y : ℕ) → y < n * n → cell_at b y ≡ Empty → ((i : ℕ) → i < A.count → IsFalse (A.region i y)) → AllFit (after_move n b k y) c
    wanders y on free beyond i within = subst (λ z. Fits (area i) z (c i)) (sym (after_is n b k y))
        (settled (clear n (set b y (Stone k)) (opponent_of k)) c (length-clear n (set b y (Stone k)) (opponent_of k)) listed (λ j low. put_outside j y low on free (beyond j low)) i within)

  -- The keeper passes, or answers, in the area that is owed it.
  module _ (d : ℕ → List Cell) (wall : AllWalled d) (owed : IsOwed n k A W d) (b : List Cell) (full : length b ≡ n * n) (fits : AllFit b d) where
    l : ℕ
    l = owed.place

    pub listed_with : (w : List Cell) → IsTrue (W owed.place w) → AreListed A W (pick owed.place w d)
    listed_with w is i within = by_pick (λ j e. IsTrue (W j e)) owed.place w d is i (λ ne. owed.others i within ne)

    pub passes : (known : IsKnown (area owed.place) (W owed.place) (d owed.place)) → AllFit b (pick owed.place known.0 d)
    passes known i within = by_pick (λ j e. Fits (area j) b e) owed.place known.0 d (fits_on (area owed.place) b (d owed.place) known.0 (fits owed.place owed.within) known.2) i (λ ne. fits i within)

    pub answers : (r : ℕ) (answer : IsAnswer (area owed.place) (W owed.place) (d owed.place) r) → IsTrue (A.region owed.place r) → AllFit (after_move n b k r) (pick owed.place answer.known.0 d)
    answers r answer inside i within = subst (λ z. Fits (area i) z (pick owed.place w d i)) (sym (after_is n b k r)) (settled put (pick owed.place w d) (length-clear n (set b r (Stone k)) (opponent_of k)) (listed_with w answer.known.1) there i within)
      where
        w : List Cell
        w = answer.known.0

        put : List Cell
        put = clear n (set b r (Stone k)) (opponent_of k)

        wall_put : IsWalled (area owed.place) (set (d owed.place) r (own (area owed.place)))
        wall_put = walled_put (area owed.place) (d owed.place) (wall owed.place owed.within) r answer.on_board answer.empty (own (area owed.place))

        first : Fits (area owed.place) (clear n (set b r (Stone k)) (opponent_of k)) (after_answer (area owed.place) (d owed.place) r)
        first = fits_clear_loose (area owed.place) (set (d owed.place) r (own (area owed.place))) wall_put (set b r (Stone k)) (full_put n b r (Stone k) full)
            (fits_put (area owed.place) b (d owed.place) (fits owed.place owed.within) full (wall owed.place owed.within).full r answer.on_board answer.empty (own (area owed.place)))

        free : cell_at b r ≡ Empty
        free = (fits owed.place owed.within).has_empty r answer.empty

        beyond : (j : ℕ) → j < A.count → j ≢ owed.place → IsFalse (A.region j r)
        beyond j low ne = go (A.region j r) refl
          where
            go : (v : Bool) → A.region j r ≡ v → v ≡ false
            go true e = absurd (ne (together.order.apart j owed.place r low owed.within e inside))
            go false e = refl

        -- the other areas' states are at rest
        rest_of : (j : ℕ) → (low : j < A.count) → j ≢ owed.place → IsAtRest (area j) (d j)
        rest_of j low ne = (together.replies j low).at_rest (d j) (owed.others j low ne)

        other : (j : ℕ) → (low : j < A.count) → j ≢ owed.place → Fits (area j) (clear n (set b r (Stone k)) (opponent_of k)) (d j)
        other j low ne = fits_clear_rest (area j) (set b r (Stone k)) (d j) (fits_put_outside (area j) b (d j) (fits j low) full (wall j low).full r answer.on_board out (beyond j low ne) at) (full_put n b r (Stone k) full) (rest_of j low ne).theirs
          where
            not_kept : (v : Bool) → A.kept j r ≡ v → v ≡ false
            not_kept true e = absurd (cc ((fits j low).has_own r ((wall j low).kept r e), free))
            not_kept false e = refl

            out : is_outside (area j) r ≡ true
            out = ap (λ v. not v && not (A.region j r)) (not_kept (A.kept j r) refl) ∙ ap not (beyond j low ne)

            at : cell_at (d j) r ≡ theirs (area j)
            at = (wall j low).outside r answer.on_board out

        there : AllFit put (pick owed.place w d)
        there j low = by_pick (λ i e. Fits (area i) (clear n (set b r (Stone k)) (opponent_of k)) e) owed.place answer.known.0 d (fits_on (area owed.place) (clear n (set b r (Stone k)) (opponent_of k)) (after_answer (area owed.place) (d owed.place) r) answer.known.0 first answer.known.2) j (λ ne. other j low ne)
