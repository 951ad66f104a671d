-- Safe stones stand through any number of exchanges.
use Rattle.safe_groups.proofs.Common.{sym, ap, refl, ◌∙◌, ◌≡◌, List, ℕ, zero, suc, IsTrue, IsFalse, true, false, Bool, inl, inr, [], ◌∷◌, ◌++◌, ◌*◌, ◌<◌, ◌⊎◌, cell_at, opponent_of, after_move, Cell, Empty, Stone, Colour, Area, Points, States, Fits, IsWalled, IsKnown, IsAnswer, IsAnswered, Areas, area_at, in_one, RepliesTogether, HoldsAt, AreListed, IsOwed, IsKept, has_occurred, StandThrough, arith, or_left, or_right}
use Rattle.safe_groups.specs.Play.{AreThere, IsFree}
use Rattle.safe_groups.proofs.Moving.{SameOwn, full_after, is_or_not}
use Rattle.safe_groups.proofs.Serving.{pick, all_walled, other_moves, wanders, listed_with, passes, answers}
use Rattle.safe_groups.proofs.Past.{past_same, past_board, pass_same, past_answered, answer_free, known_has}

-- a point of one of the sets is in one, and what is in none is not in it
pub one_has : (m : ℕ) (sets : ℕ → Points) (i p : ℕ) → i < m → sets i p ≡ true → in_one m sets p ≡ true
one_has zero sets i p low e = absurd (omega (arith, low))
one_has (suc m) sets i p low e = elim (is_or_not i m) [
  | inl at ↦ or_left (sets m p) (in_one m sets p) (ap (λ j. sets j p) (sym at) ∙ e)
  | inr ne ↦ or_right (sets m p) (in_one m sets p) (one_has m sets i p (omega (arith, low, ne)) e)
]

pub none_has : (m : ℕ) (sets : ℕ → Points) (p : ℕ) → in_one m sets p ≡ false → (i : ℕ) → i < m → sets i p ≡ false
none_has m sets p none i low = go (sets i p) refl
  where
    go : (b : Bool) → sets i p ≡ b → b ≡ false
    go true e = absurd (cc (one_has m sets i p low e, none))
    go false e = refl

module _ (n : ℕ) (k : Colour) (A : Areas) (W : ℕ → States) (together : RepliesTogether n k A W) where
  abbrev area : ℕ → Area
  area i = area_at n k A i

  abbrev Held : (ℕ → List Cell) → List Cell → List (List Cell) → Type 0
  Held c b h = HoldsAt n k A c b h

  inside : (i p : ℕ) → i < A.count → IsTrue (A.answers i p) → IsTrue (A.region i p)
  inside i p within e = (together.replies i within).inside p e

  -- What a move of the other side leaves, with the past: states that are walled and hold, of which one may be owed an answer.
  pub record Owed (c : ℕ → List Cell) (b : List Cell) (history : List (List Cell)) : Type 0 where
    pub state : ℕ → List Cell
    pub walled : (i : ℕ) → i < A.count → IsWalled (area i) (state i)
    pub same : (i : ℕ) → i < A.count → SameOwn (area i) (c i) (state i)
    pub answered : AreListed A W state ⊎ IsOwed n k A W state
    pub holds : Held state b history

  pub other_plays : (c : ℕ → List Cell) (b : List Cell) (h : List (List Cell)) → AreListed A W c → Held c b h → (x : ℕ) → x < n * n → cell_at b x ≡ Empty → Owed c (after_move n b (opponent_of k) x) (h ++ after_move n b (opponent_of k) x ∷ [])
  other_plays c b h listed holds x on free =
      let left = other_moves n k A W together c listed b holds.full holds.fits x on free in
      record {
        state = left.state;
        walled = left.walled;
        same = left.same;
        answered = left.answered;
        holds = record {
          full = full_after n b (opponent_of k) x;
          fits = left.fits;
          past = past_board n k A left.state (after_move n b (opponent_of k) x) h inside left.fits (past_same n k A c left.state h left.same holds.past);
        };
      }

  module _ (d : ℕ → List Cell) (b : List Cell) (h : List (List Cell)) (wall : (i : ℕ) → i < A.count → IsWalled (area i) (d i)) (holds : Held d b h) (owed : IsOwed n k A W d) where
    -- the keeper passes
    pub holds_passed : (known : IsKnown (area owed.place) (W owed.place) (d owed.place)) → Held (pick owed.place known.0 d) b h
    holds_passed known = record {
      full = holds.full;
      fits = passes n k A W together d wall owed b holds.full holds.fits known;
      past = past_same n k A d (pick owed.place known.0 d) h (pass_same n k A W together d wall owed known) holds.past;
    }

    pub listed_passed : (known : IsKnown (area owed.place) (W owed.place) (d owed.place)) → AreListed A W (pick owed.place known.0 d)
    listed_passed known = listed_with n k A W together d wall owed b holds.full holds.fits known.0 known.1

    pub kept_passed : (known : IsKnown (area owed.place) (W owed.place) (d owed.place)) (p : ℕ) → IsKept k A d p → IsKept k A (pick owed.place known.0 d) p
    kept_passed known p kept = (kept.0, kept.1, (pass_same n k A W together d wall owed known kept.0 kept.1).more p kept.2)

    -- the keeper answers: the answer is not barred, and what is left holds
    module _ (r : ℕ) (answer : IsAnswer (area owed.place) (W owed.place) (d owed.place) r) where
      fits : (i : ℕ) → i < A.count → Fits (area i) (after_move n b k r) (pick owed.place answer.known.0 d i)
      fits = answers n k A W together d wall owed b holds.full holds.fits r answer (inside owed.place r owed.within answer.allowed)

      pub answer_allowed : IsFalse (has_occurred h (after_move n b k r))
      answer_allowed = answer_free n k A W together d wall owed r answer (after_move n b k r) h holds.past fits

      pub holds_answered : Held (pick owed.place answer.known.0 d) (after_move n b k r) (h ++ after_move n b k r ∷ [])
      holds_answered = record {
        full = full_after n b k r;
        fits = fits;
        past = past_board n k A (pick owed.place answer.known.0 d) (after_move n b k r) h inside fits (past_answered n k A W together d wall owed r answer h holds.past);
      }

      pub listed_answered : AreListed A W (pick owed.place answer.known.0 d)
      listed_answered = listed_with n k A W together d wall owed b holds.full holds.fits answer.known.0 answer.known.1

      pub kept_answered : (p : ℕ) → IsKept k A d p → IsKept k A (pick owed.place answer.known.0 d) p
      kept_answered p kept = (kept.0, kept.1, known_has n k A W together d wall owed r answer kept.0 p kept.1 kept.2)

  pub kept_same : (c d : ℕ → List Cell) → ((i : ℕ) → i < A.count → SameOwn (area i) (c i) (d i)) → (p : ℕ) → IsKept k A c p → IsKept k A d p
  kept_same c d same p kept = (kept.0, kept.1, (same kept.0 kept.1).more p kept.2)

  pub kept_there : (c : ℕ → List Cell) (b : List Cell) (h : List (List Cell)) → Held c b h → (p : ℕ) → IsKept k A c p → cell_at b p ≡ Stone k
  kept_there c b h holds p kept = (holds.fits kept.0 kept.1).has_own p kept.2

  -- the keeper plays elsewhere
  pub holds_elsewhere : (c : ℕ → List Cell) (b : List Cell) (h : List (List Cell)) → AreListed A W c → Held c b h → (y : ℕ) → y < n * n → cell_at b y ≡ Empty → IsFalse (in_one A.count A.region y) → Held c (after_move n b k y) (h ++ after_move n b k y ∷ [])
  holds_elsewhere c b h listed holds y on free beyond =
      let fits = wanders n k A W together c listed b holds.full holds.fits y on free (λ i within. none_has A.count A.region y beyond i within) in
      record { full = full_after n b k y; fits = fits; past = past_board n k A c (after_move n b k y) h inside fits holds.past }

  module _ (stones : Points) where
    abbrev Stand : ℕ → List Cell → List (List Cell) → Type 0
    Stand m b h = StandThrough n k (in_one A.count A.region) stones m b h

    abbrev AreKept : (ℕ → List Cell) → Type 0
    AreKept c = (p : ℕ) → IsTrue (stones p) → IsKept k A c p

    abbrev Rest : ℕ → Type 0
    Rest m = (c : ℕ → List Cell) (b : List Cell) (h : List (List Cell)) → AreListed A W c → Held c b h → AreKept c → Stand m b h

    abbrev After : List Cell → List (List Cell) → ℕ → Type 0
    After b h m = (Stand m b h × ((y : ℕ) → IsFree n b y → IsFalse (in_one A.count A.region y) → Stand m (after_move n b k y) (h ++ after_move n b k y ∷ [])))
        ⊎ ((r : ℕ) × IsFree n b r × IsTrue (in_one A.count A.region r) × IsFalse (has_occurred h (after_move n b k r)) × Stand m (after_move n b k r) (h ++ after_move n b k r ∷ []))

    -- nothing is needed
    quiet : (m : ℕ) → Rest m → (c : ℕ → List Cell) (b : List Cell) (h : List (List Cell)) → AreListed A W c → Held c b h → AreKept c → After b h m
    quiet m rest c b h listed holds are = inl (
      rest c b h listed holds are,
      λ y at beyond. rest c (after_move n b k y) (h ++ after_move n b k y ∷ []) listed (holds_elsewhere c b h listed holds y at.on_board at.empty beyond) are,
    )

    owed_one : (m : ℕ) → Rest m → (d : ℕ → List Cell) (b : List Cell) (h : List (List Cell)) → ((i : ℕ) → i < A.count → IsWalled (area i) (d i)) → Held d b h → (owed : IsOwed n k A W d) → AreKept d → IsAnswered (area owed.place) (W owed.place) (d owed.place) → After b h m
    owed_one m rest d b h wall holds owed are (inl known) = quiet m rest (pick owed.place known.0 d) b h (listed_passed d b h wall holds owed known) (holds_passed d b h wall holds owed known) (λ p is. kept_passed d b h wall holds owed known p (are p is))
    owed_one m rest d b h wall holds owed are (inr answered) =
        let r = answered.0 in let answer = answered.1 in
        inr (
          r,
          record { on_board = answer.on_board; empty = (holds.fits owed.place owed.within).has_empty r answer.empty },
          one_has A.count A.region owed.place r owed.within (inside owed.place r owed.within answer.allowed),
          answer_allowed d b h wall holds owed r answer,
          rest (pick owed.place answer.known.0 d) (after_move n b k r) (h ++ after_move n b k r ∷ []) (listed_answered d b h wall holds owed r answer) (holds_answered d b h wall holds owed r answer) (λ p is. kept_answered d b h wall holds owed r answer p (are p is)),
        )

    exchange : (m : ℕ) → Rest m → (c : ℕ → List Cell) (b : List Cell) (h : List (List Cell)) → AreListed A W c → Held c b h → AreKept c → (x : ℕ) → IsFree n b x
        → AreThere k stones (after_move n b (opponent_of k) x) × After (after_move n b (opponent_of k) x) (h ++ after_move n b (opponent_of k) x ∷ []) m
    exchange m rest c b h listed holds are x free =
        let owed = other_plays c b h listed holds x free.on_board free.empty in
        let after = after_move n b (opponent_of k) x in
        let still : AreKept owed.state = λ p is. kept_same c owed.state owed.same p (are p is) in (
          (λ p is. kept_there owed.state after (h ++ after ∷ []) owed.holds p (still p is)),
          elim owed.answered [
            | inl listed_ ↦ quiet m rest owed.state after (h ++ after ∷ []) listed_ owed.holds still
            | inr one ↦ owed_one m rest owed.state after (h ++ after ∷ []) owed.walled owed.holds one still one.answered
          ],
        )

    pub stand_through : (m : ℕ) → Rest m
    stand_through zero c b h listed holds are = λ p is. kept_there c b h holds p (are p is)
    stand_through (suc m) c b h listed holds are = ((λ p is. kept_there c b h holds p (are p is)), λ x free. exchange m (stand_through m) c b h listed holds are x free)
