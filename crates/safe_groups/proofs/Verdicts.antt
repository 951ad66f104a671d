-- The areas of a claim together: what the judge finds of them makes the stones safe.
use Rattle.safe_groups.proofs.Common.{sym, subst, refl, ◌≡◌, ◌≢◌, ◌∙◌, List, ℕ, zero, suc, ap, IsTrue, IsFalse, true, false, Bool, inl, inr, [], ◌∷◌, ◌++◌, ◌*◌, ◌<◌, ◌⊎◌, length, set, arith, get_or, map, list_all, same_cell, same_cell_eq, cell_at, nat_lt, ltb-true, Cell, Colour, Stone, side_of, number_of, holds_point, has_occurred, after_move, start, Area, States, own, IsWalled, Fits, Replies, IsAnswer, after_answer, Empty, Areas, area_at, RepliesTogether, PastFits, HoldsAt, AreListed, IsOwed, IsKept, area_of, BarsNone, IsOfBoard, IsSized, IsSafe, IsSafeAfter, Ground, All, lt-ltb, Place, GameProblem, GameState, areas_of, ground_at, state_at, HasReplies, AreKept, BarsNothing, LacksOne, None}
use Rattle.safe_groups.specs.Ground.{aimed_at, HoldsFor, HoldsOn, IsMoveFrom, IsSafeAs, AllSafe}
use Rattle.safe_groups.specs.Private.Verdict.{StandsInOne}
use Rattle.safe_groups.proofs.Fitting.{fits_self}
use Rattle.safe_groups.proofs.Moving.{is_or_not, past_put, at_put}
use Rattle.safe_groups.proofs.Judging.{of_listed, targets_by}
use Rattle.safe_groups.proofs.Serving.{pick}
use Rattle.safe_groups.proofs.Exchanges.{answer_allowed, holds_answered, listed_answered, kept_answered, kept_there}
use Rattle.safe_groups.proofs.Never.{targets_there, free_legal}

pub default_same : {A : Type 0} (xs : List A) (k : ℕ) (d e : A) → k < length xs → get_or xs k d ≡ get_or xs k e
default_same [] k d e low = absurd (omega (arith, low))
default_same (x ∷ xs) zero d e low = refl
default_same (x ∷ xs) (suc k) d e low = default_same xs k d e (omega (arith, low))

pub kept_more : (n : ℕ) (k : Colour) (begins : List (List Cell)) (stones new : List Cell) (i j : ℕ) (x : Cell) → length stones ≡ n * n → i < n * n → j ≡ i → new ≡ set stones j x → (x ≡ Stone k → StandsInOne k begins i) → AreKept k begins stones → AreKept k begins new
kept_more n k begins stones new i j x full on same is stands kept = λ p e. elim (is_or_not p i) [
  | inl here ↦ subst (StandsInOne k begins) (sym here) (stands (sym (at_put n stones i x full on) ∙ ap (λ l. cell_at (set stones l x) i) (sym same) ∙ ap (λ d. cell_at d i) (sym is) ∙ ap (cell_at new) (sym here) ∙ e))
  | inr ne ↦ kept p (sym (past_put stones j p x (λ at. ne (at ∙ same))) ∙ ap (λ d. cell_at d p) (sym is) ∙ e)
]

pub all_sized : (q : GameProblem) (k : Colour) (gs : List Ground) (begins : List (List Cell)) → ((i : ℕ) → i < length gs → IsOfBoard q k (ground_at gs i) (state_at begins i)) → All (IsSized q.game.size) gs
all_sized q k gs begins each = λ i d low. subst (IsSized q.game.size) (default_same gs i _ d low) (each i low).sized

pub begins_sized : (q : GameProblem) (k : Colour) (gs : List Ground) (begins : List (List Cell)) → length gs ≡ length begins → ((i : ℕ) → i < length gs → IsOfBoard q k (ground_at gs i) (state_at begins i)) → All (λ c. side_of c ≡ q.game.size) begins
begins_sized q k gs begins same each = λ i d low.
    let within : i < length gs = omega (arith, low, same) in
    ap side_of (default_same begins i d [] low) ∙ (each i within).state.side ∙ (each i within).sized.cells.side

-- the keeper's stones in one of the states are kept
pub kept_by : (k : Colour) (gs : List Ground) (begins : List (List Cell)) → length gs ≡ length begins → (p : ℕ) → StandsInOne k begins p → IsKept k (areas_of gs) (state_at begins) p
kept_by k gs begins same p stands = (stands.0, omega (arith, stands.1, same), stands.2)

pub past_by : (q : GameProblem) (k : Colour) (gs : List Ground) (begins : List (List Cell)) (stones : List Cell) → length gs ≡ length begins → ((i : ℕ) → i < length gs → IsOfBoard q k (ground_at gs i) (state_at begins i)) → AreKept k begins stones
    → All (λ c. LacksOne k stones c ⊎ BarsNothing gs begins c) q.history → PastFits k (areas_of gs) (state_at begins) q.history
past_by q k gs begins stones same each kept found = λ past old all i p within allowed e.
    elim (of_listed (λ c. LacksOne k stones c ⊎ BarsNothing gs begins c) q.history past found old) [
      | inl lacks ↦ absurd (let one = kept_by k gs begins same lacks.0 (kept lacks.0 lacks.1) in lacks.2 (all one.0 lacks.0 one.1 one.2))
      | inr bars ↦
          let keeper : Stone (ground_at gs i).keeper ≡ Stone k = ap Stone (each i within).keeper in
          bars i within p allowed (e ∙ sym keeper) ∙ keeper
    ]

pub targets_kept : (q : GameProblem) (gs : List Ground) (begins : List (List Cell)) (stones : List Cell) (points : List Place) (n : ℕ) → length gs ≡ length begins → AreKept q.game.defender begins stones → map (number_of n) points ≡ q.game.targets
    → list_all (λ x. same_cell (cell_at stones (number_of n x)) (Stone q.game.defender)) points ≡ true → (p : ℕ) → IsTrue (holds_point q.game.targets p) → IsKept q.game.defender (areas_of gs) (state_at begins) p
targets_kept q gs begins stones points n same kept are all p held = kept_by q.game.defender gs begins same p (kept p (same_cell_eq _ _ (targets_by (number_of n) (λ r. same_cell (cell_at stones r) (Stone q.game.defender)) points p all (ap (λ l. holds_point l p) are ∙ held))))

-- An area of the claim is that of its ground.
module _ (q : GameProblem) (k : Colour) (gs : List Ground) (begins : List (List Cell)) (i : ℕ) (is : IsOfBoard q k (ground_at gs i) (state_at begins i)) where
  abbrev with_parts : ℕ → Colour → Area
  with_parts n j = record {
    size = n;
    keeper = j;
    kept = (area_of (ground_at gs i)).kept;
    region = (area_of (ground_at gs i)).region;
    answers = (area_of (ground_at gs i)).answers;
    held = (area_of (ground_at gs i)).held;
    earlier = (area_of (ground_at gs i)).earlier;
    gives = (area_of (ground_at gs i)).gives;
  }

  pub moved_area : (P : Area → Type 0) → P (area_of (ground_at gs i)) → P (area_at q.game.size k (areas_of gs) i)
  moved_area P h = subst (λ j. P (with_parts q.game.size j)) is.keeper (subst (λ n. P (with_parts n (ground_at gs i).keeper)) is.sized.cells.side h)

-- The states of each area, from what is known of each.
module _ (m : ℕ) (P : ℕ → States → Type 0) (all : (i : ℕ) → i < m → (W : States) × P i W) where
  choose : (i : ℕ) (b : Bool) → nat_lt i m ≡ b → States
  choose i true e = (all i (ltb-true i m e)).0
  choose i false e = λ c. false

  pub chosen : ℕ → States
  chosen i = choose i (nat_lt i m) refl

  pub chosen_is : (i : ℕ) → i < m → P i (chosen i)
  unfolding chosen choose
  chosen_is i low = go (nat_lt i m) refl
    where
      go : (b : Bool) (e : nat_lt i m ≡ b) → P i (choose i b e)
      go true e = (all i (ltb-true i m e)).1
      go false e = absurd (cc (e, lt-ltb i m low))

-- Areas that hold, whoever keeps.
module _ (q : GameProblem) (k : Colour) (gs : List Ground) (begins : List (List Cell)) (holds : HoldsOn q k gs begins) where
  pub fits_all : (i : ℕ) → i < length gs → Fits (area_at q.game.size k (areas_of gs) i) (start q).colouring (state_at begins i)
  fits_all i low = moved_area q k gs begins i (holds.each i low) (λ a. Fits a (start q).colouring (state_at begins i)) (holds.each i low).fits

  pub held : HoldsAt q.game.size k (areas_of gs) (state_at begins) (start q).colouring q.history
  held = record { full = holds.full; fits = fits_all; past = holds.past }

  pub walled : (i : ℕ) → i < length gs → IsWalled (area_at q.game.size k (areas_of gs) i) (state_at begins i)
  walled i low = moved_area q k gs begins i (holds.each i low) (λ a. IsWalled a (state_at begins i)) (holds.each i low).state.walled

  pub allowed : (i p : ℕ) → i < length gs → IsTrue ((area_of (ground_at gs i)).answers p) → IsTrue (holds_point q.game.region p)
  allowed i p low e = (holds.each i low).allowed p e

  module _ (replies : (i : ℕ) → i < length gs → HasReplies (ground_at gs i) (state_at begins i)) where
    pub record Good (i : ℕ) (W : States) : Type 0 where
      pub has : Replies (area_of (ground_at gs i)) W
      pub listed : IsTrue (W (state_at begins i))

    pub good : (i : ℕ) → i < length gs → (W : States) × Good i W
    good i low = let one = replies i low in (one.states, record { has = one.replies; listed = one.listed })

    abbrev pub all_states : ℕ → States
    all_states = chosen (length gs) Good good

    pub together : RepliesTogether q.game.size k (areas_of gs) all_states
    together = record {
      order = holds.order;
      replies = λ i low. moved_area q k gs begins i (holds.each i low) (λ a. Replies a (chosen (length gs) Good good i)) (chosen_is (length gs) Good good i low).has;
    }

    pub all_listed : AreListed (areas_of gs) all_states (state_at begins)
    all_listed = λ i low. (chosen_is (length gs) Good good i low).listed

module _ (q : GameProblem) (gs : List Ground) (begins : List (List Cell)) (holds : HoldsFor q gs begins) where
  abbrev n : ℕ
  n = q.game.size

  abbrev k : Colour
  k = q.game.defender

  abbrev on : HoldsOn q q.game.defender gs begins
  on = holds.areas

  module _ (replies : (i : ℕ) → i < length gs → HasReplies (ground_at gs i) (state_at begins i)) where
    safe_with : (points : List ℕ) → ((p : ℕ) → IsTrue (holds_point points p) → IsKept q.game.defender (areas_of gs) (state_at begins) p) → IsSafe (aimed_at points (start q))
    safe_with points kept = record {
      areas = areas_of gs;
      states = all_states q q.game.defender gs begins on replies;
      state = state_at begins;
      allowed = allowed q q.game.defender gs begins on;
      replies = together q q.game.defender gs begins on replies;
      listed = all_listed q q.game.defender gs begins on replies;
      holds = held q q.game.defender gs begins on;
      targets = kept;
    }

    pub safe_targets : IsSafe (start q)
    safe_targets = safe_with q.game.targets holds.targets

    pub safe_stones : (stones : List Cell) → AreKept q.game.defender begins stones → AllSafe None (start q) stones
    safe_stones stones kept = λ points is. safe_with points (λ p e. kept_by q.game.defender gs begins on.lengths p (kept p (is p e)))

  module _ (l r : ℕ) (low : l < length gs) (mover : q.mover ≡ q.game.defender) (others : (i : ℕ) → i < length gs → i ≢ l → HasReplies (ground_at gs i) (state_at begins i)) (move : IsMoveFrom (ground_at gs l) (state_at begins l) r) where
    record Owing (i : ℕ) (W : States) : Type 0 where
      has : Replies (area_of (ground_at gs i)) W
      listed : i ≢ l → IsTrue (W (state_at begins i))
      answer : i ≡ l → IsAnswer (area_of (ground_at gs i)) W (state_at begins i) r

    owing : (i : ℕ) → i < length gs → (W : States) × Owing i W
    owing i within = elim (is_or_not i l) [
      | inl at ↦ subst (λ j. (W : States) × Owing j W) (sym at) (move.states, record { has = move.replies; listed = λ ne. absurd (ne refl); answer = λ e. move.answer })
      | inr ne ↦ let one = others i within ne in (one.states, record { has = one.replies; listed = λ other. one.listed; answer = λ e. absurd (ne e) })
    ]

    abbrev states : ℕ → States
    states = chosen (length gs) Owing owing

    answer : IsAnswer (area_at n k (areas_of gs) l) (states l) (state_at begins l) r
    answer = moved_area q k gs begins l (on.each l low) (λ a. IsAnswer a (states l) (state_at begins l) r) ((chosen_is (length gs) Owing owing l low).answer refl)

    abbrev owed : IsOwed n k (areas_of gs) states (state_at begins)
    owed = record {
      place = l;
      within = low;
      others = λ i within ne. (chosen_is (length gs) Owing owing i within).listed ne;
      answered = inr (r, answer);
    }

    together_after : RepliesTogether n k (areas_of gs) states
    together_after = record {
      order = on.order;
      replies = λ i within. moved_area q k gs begins i (on.each i within) (λ a. Replies a (states i)) (chosen_is (length gs) Owing owing i within).has;
    }

    abbrev board : List Cell
    board = (start q).colouring

    abbrev state_after : ℕ → List Cell
    state_after = pick l answer.known.0 (state_at begins)

    new : IsFalse (has_occurred q.history (after_move n board k r))
    new = answer_allowed n k (areas_of gs) states together_after (state_at begins) board q.history (walled q k gs begins on) (held q k gs begins on) owed r answer

    held_after : HoldsAt n k (areas_of gs) state_after (after_move n board k r) (q.history ++ after_move n board k r ∷ [])
    held_after = holds_answered n k (areas_of gs) states together_after (state_at begins) board q.history (walled q k gs begins on) (held q k gs begins on) owed r answer

    safe_after_with : (points : List ℕ) → ((p : ℕ) → IsTrue (holds_point points p) → IsKept k (areas_of gs) (state_at begins) p) → IsSafeAfter r (aimed_at points (start q))
    safe_after_with points kept = record {
      stand = targets_there (aimed_at points (start q)) (λ p is. kept_there n k (areas_of gs) states together_after (state_at begins) board q.history (held q k gs begins on) p (kept p is));
      to_move = mover;
      legal_move = free_legal (aimed_at points (start q)) r answer.on_board (allowed q k gs begins on l r low answer.allowed) ((fits_all q k gs begins on l low).has_empty r answer.empty) (subst (λ m. IsFalse (has_occurred q.history (after_move n board m r))) (sym mover) new);
      safe = record {
        areas = areas_of gs;
        states = states;
        state = state_after;
        allowed = allowed q k gs begins on;
        replies = together_after;
        listed = listed_answered n k (areas_of gs) states together_after (state_at begins) board q.history (walled q k gs begins on) (held q k gs begins on) owed r answer;
        holds = subst (λ m. HoldsAt n k (areas_of gs) state_after (after_move n board m r) (q.history ++ after_move n board m r ∷ [])) (sym mover) held_after;
        targets = λ p is. kept_answered n k (areas_of gs) states together_after (state_at begins) board q.history (walled q k gs begins on) (held q k gs begins on) owed r answer p (kept p is);
      };
    }

    pub safe_targets_after : IsSafeAfter r (start q)
    safe_targets_after = safe_after_with q.game.targets holds.targets

    pub safe_stones_after : (stones : List Cell) → AreKept k begins stones → (points : List ℕ) → ((p : ℕ) → IsTrue (holds_point points p) → cell_at stones p ≡ Stone k) → IsSafeAfter r (aimed_at points (start q))
    safe_stones_after stones kept = λ points is. safe_after_with points (λ p e. kept_by q.game.defender gs begins on.lengths p (kept p (is p e)))

pub move_from : (g : Ground) (c : List Cell) (r : ℕ) → r < side_of g.cells * side_of g.cells → IsTrue ((area_of g).answers r) → cell_at c r ≡ Empty → HasReplies g (after_answer (area_of g) c r) → IsMoveFrom g c r
move_from g c r on allowed free has = record {
  states = has.states;
  replies = has.replies;
  answer = record { on_board = on; allowed = allowed; empty = free; known = (after_answer (area_of g) c r, has.listed, fits_self (area_of g) (after_answer (area_of g) c r)) };
}
