-- The killer wins: each of its moves in the region leads to entries of lower numbers, and each answer of its areas leaves fewer open.
use Rattle.safe_groups.proofs.Common.{subst, refl, ◌≡◌, ◌∙◌, List, ℕ, zero, suc, ap, IsTrue, IsFalse, true, false, Bool, inl, inr, [], ◌∷◌, ◌++◌, ◌*◌, ◌<◌, ◌≤◌, ◌⊎◌, ◌&&◌, not, arith, cell_at, same_cell, eq_same_cell, same_cell_eq, opponent_of, opponent_twice, after_move, Cell, Empty, Stone, Colour, Area, Points, States, IsWalled, IsAnswer, IsAnswered, Fits, Areas, area_at, RepliesTogether, HoldsAt, AreListed, IsOwed, IsKept, nat_eq, nat_lt, ltb-true, and_left, and_right, and_both, has_occurred, holds_point, eqb-true, lt-ltb}
use Rattle.std.proofs.Common.{if◌then◌else◌, Some, None, ◌+◌}
use Rattle.go_points.specs.declared.Colour.TheVariants.{Black, White}
use Rattle.go_points.specs.Grid.{same_colour}
use Rattle.go_points.specs.Ply.{Ply, pass, move}
use Rattle.go_points.proofs.Lists.{any_from, all_at}
use Rattle.go_points.proofs.Clearing.{EveryStoneReaches, after_move_reaches}
use Rattle.target_game.specs.State.{Game, GameState}
use Rattle.target_game.specs.Legal.{legal}
use Rattle.target_game.specs.Next.{next}
use Rattle.target_game.specs.Over.{targets_stand, over}
use Rattle.safe_groups.proofs.Opening.{cell_cases, not_both}
use Rattle.safe_groups.proofs.Fitting.{fits_on, walled_still}
use Rattle.safe_groups.proofs.Moving.{walled_put}
use Rattle.safe_groups.proofs.Serving.{pick, pick_same}
use Rattle.safe_groups.proofs.Past.{occurred_or, answer_at}
use Rattle.safe_groups.proofs.Exchanges.{one_has, other_plays, Owed, holds_passed, listed_passed, kept_passed, answer_allowed, holds_answered, listed_answered, kept_answered, kept_same, kept_there, holds_elsewhere}
use Rattle.dead_groups.proofs.While.{lost_passes, lost_not_won, lost_by_turn, lost_by_reply}
use Rattle.dead_groups.proofs.Supposed.{free_there, free_stays}
use Rattle.dead_groups.specs.Kills.{killing, Entries, result, IsTaken, IsFurther, IsLost, IsEntry, after_attack}
use Rattle.dead_groups.specs.While.{are_free, wins_while}
use Rattle.dead_groups.proofs.Moves.{attacked, attacked_elsewhere, killed, killed_elsewhere}
use Rattle.dead_groups.proofs.Areas.{in_none, left, no_more_left, less_left, other_elsewhere}

-- where something holds of a number, it is not so that it holds of no least one
least_below : (P : ℕ → Type 0) (i : ℕ) → ((j : ℕ) → j < i → P j → ((l : ℕ) → l < j → P l → ⊥) → ⊥) → (j : ℕ) → j < i → P j → ⊥
least_below P zero go j low p = absurd (omega (arith, low))
least_below P (suc i) go j low p =
    let below = least_below P i (λ l less. go l (omega (arith, less))) in
    let split : (j < i) ⊎ (j ≡ i) = grind (arith, low) in
    elim split [
      | inl less ↦ below j less p
      | inr at ↦ go i (omega arith) (subst P at p) below
    ]

pub least : (P : ℕ → Type 0) (i : ℕ) → P i → ((j : ℕ) → j ≤ i → P j → ((l : ℕ) → l < j → P l → ⊥) → ⊥) → ⊥
least P i p go = least_below P (suc i) (λ j low. go j (omega (arith, low))) i (omega arith) p

-- a legal move is at an empty point of the board
legal_free : (s : GameState) (p : ℕ) → legal s (move p) ≡ true → (p < s.game.size * s.game.size) × (cell_at s.colouring p ≡ Empty)
legal_free s p h =
    let three = and_left (nat_lt p (s.game.size * s.game.size) && holds_point s.game.region p && same_cell (cell_at s.colouring p) Empty) (not (has_occurred s.history (after_move s.game.size s.colouring s.mover p))) h in
    let two = and_left (nat_lt p (s.game.size * s.game.size) && holds_point s.game.region p) (same_cell (cell_at s.colouring p) Empty) three in (
      ltb-true p (s.game.size * s.game.size) (and_left (nat_lt p (s.game.size * s.game.size)) (holds_point s.game.region p) two),
      same_cell_eq (cell_at s.colouring p) Empty (and_right (nat_lt p (s.game.size * s.game.size) && holds_point s.game.region p) (same_cell (cell_at s.colouring p) Empty) three),
    )

free_legal : (s : GameState) (p : ℕ) → p < s.game.size * s.game.size → IsTrue (holds_point s.game.region p) → cell_at s.colouring p ≡ Empty → IsFalse (has_occurred s.history (after_move s.game.size s.colouring s.mover p)) → legal s (move p) ≡ true
free_legal s p on inside free new =
    and_both _ _ (and_both _ _ (and_both _ _ (lt-ltb p (s.game.size * s.game.size) on) inside) (eq_same_cell _ _ free)) (ap not new)

other_not : (k : Colour) → same_colour (opponent_of k) k ≡ false
other_not Black = refl
other_not White = refl

-- nobody has won a state that the killer has not won, with less than two passes
not_over : (s : GameState) (k : Colour) → s.game.defender ≡ opponent_of k → s.passes ≤ 1 → (over s ≡ Some k → ⊥) → over s ≡ None
not_over s k other low lost = go (targets_stand s) (nat_eq s.passes 2) refl refl
  where
    go : (x y : Bool) → targets_stand s ≡ x → nat_eq s.passes 2 ≡ y → over s ≡ None
    go true true e f = absurd (omega (arith, low, eqb-true s.passes 2 f))
    go true false e f = ap (λ x. (if x then (if nat_eq s.passes 2 then Some s.game.defender else None) else Some (opponent_of s.game.defender))) e ∙ ap (λ y. (if y then Some s.game.defender else None)) f
    go false y e f = absurd (lost (ap (λ x. (if x then (if nat_eq s.passes 2 then Some s.game.defender else None) else Some (opponent_of s.game.defender))) e ∙ ap Some (ap opponent_of other ∙ opponent_twice k)))

-- it has won a state in which a target is not there
taken_won : (s : GameState) (k : Colour) (p : ℕ) → s.game.defender ≡ opponent_of k → IsTrue (holds_point s.game.targets p) → (cell_at s.colouring p ≡ Stone (opponent_of k) → ⊥) → over s ≡ Some k
taken_won s k p other target gone = ap (λ x. (if x then (if nat_eq s.passes 2 then Some s.game.defender else None) else Some (opponent_of s.game.defender))) (none (targets_stand s) refl) ∙ ap Some (ap opponent_of other ∙ opponent_twice k)
  where
    none : (x : Bool) → targets_stand s ≡ x → x ≡ false
    none true e =
        let found = any_from (nat_eq p) s.game.targets target in
        let there = all_at (λ q. same_cell (cell_at s.colouring q) (Stone s.game.defender)) found.0 s.game.targets e found.1 in
        absurd (gone (ap (cell_at s.colouring) (eqb-true p found.0 found.2) ∙ same_cell_eq (cell_at s.colouring found.0) (Stone s.game.defender) there ∙ ap Stone other))
    none false e = refl

module _ (g : Game) (k : Colour) (other : g.defender ≡ opponent_of k) (A : Areas) (W : ℕ → States) (kept region : Points) (supposed : List ℕ) (D : Entries) (together : RepliesTogether g.size k A W)
    (answers_allowed : (i p : ℕ) → i < A.count → IsTrue (A.answers i p) → IsTrue (holds_point g.region p)) (moves_allowed : (j : ℕ) → j < D.count → IsTrue (holds_point g.region (D.move j)))
    (apart : (i p : ℕ) → i < A.count → IsTrue (region p) → IsFalse (A.region i p)) (each : (j : ℕ) → j < D.count → IsEntry (killing g.size k kept region) (holds_point g.targets) D j) where
  abbrev n : ℕ
  n = g.size

  abbrev a : Area
  a = killing g.size k kept region

  abbrev at : List Cell → List (List Cell) → Colour → ℕ → GameState
  at b h mover passes = record { game = g; colouring = b; history = h; mover = mover; passes = passes }

  abbrev open_left : List Cell → ℕ
  open_left b = left g.size k A W together b

  -- kept stones are those of the areas, or supposed to have a liberty outside
  abbrev pub Stands : (ℕ → List Cell) → Type 0
  Stands c = (p : ℕ) → IsTrue (kept p) → IsKept k A c p ⊎ IsTrue (holds_point supposed p)

  -- The killer's areas hold, the region's kept stones are theirs, and each stone has a liberty.
  pub record Keeps (c : ℕ → List Cell) (b : List Cell) (h : List (List Cell)) : Type 0 where
    pub listed : AreListed A W c
    pub holds : HoldsAt g.size k A c b h
    pub stands : Stands c
    pub sound : EveryStoneReaches g.size b

  -- nothing that has occurred fits what these entries lead to
  abbrev pub New : ℕ → List (List Cell) → Type 0
  New bound h = (i : ℕ) → i < bound → (q : List Cell) → has_occurred h q ≡ true → Fits (killing g.size k kept region) q (result (killing g.size k kept region) D i) → ⊥

  abbrev pub test : List Cell → Bool
  test b = are_free (killing g.size k kept region) supposed b

  abbrev pub Loses : List Cell → List (List Cell) → Colour → ℕ → ℕ → Type 0
  Loses b h mover passes turns = wins_while test k (at b h mover passes) turns ≡ false

  free_now : (b : List Cell) (h : List (List Cell)) (mover : Colour) (passes turns : ℕ) → Loses b h mover passes turns → test b ≡ true
  free_now b h mover passes turns lost = lost_passes test k (at b h mover passes) turns lost

  open_now : (b : List Cell) (h : List (List Cell)) (mover : Colour) (passes turns : ℕ) → passes ≤ 1 → Loses b h mover passes turns → over (at b h mover passes) ≡ None
  open_now b h mover passes turns few lost = not_over (at b h mover passes) k other few (lost_not_won test k (at b h mover passes) turns lost)

  -- The killer is to move, and the board fits an entry; or the other side is, and is lost.
  abbrev pub Moves : ℕ → Type 0
  Moves m = (c : ℕ → List Cell) (b : List Cell) (h : List (List Cell)) (passes j : ℕ) → Keeps c b h → passes ≤ 1 → j < D.count → Fits (killing g.size k kept region) b (D.state j) → New (suc j) h → j + open_left b < m → Loses b h k passes (2 * m) → ⊥

  abbrev pub Waits : ℕ → Type 0
  Waits m = (c : ℕ → List Cell) (b : List Cell) (h : List (List Cell)) (e : List Cell) (bound : ℕ) → Keeps c b h → IsWalled (killing g.size k kept region) e → Fits (killing g.size k kept region) b e
      → IsLost (killing g.size k kept region) (holds_point g.targets) D bound e → bound ≤ D.count → New bound h → bound + open_left b ≤ m → Loses b h (opponent_of k) 0 (2 * m + 1) → ⊥

  pub taken : (b : List Cell) (h : List (List Cell)) (mover : Colour) (passes turns : ℕ) (d : List Cell) → Fits (killing g.size k kept region) b d → IsTaken (killing g.size k kept region) (holds_point g.targets) d → Loses b h mover passes turns → ⊥
  taken b h mover passes turns d fits gone lost = lost_not_won test k (at b h mover passes) turns lost (taken_won (at b h mover passes) k gone.0 other gone.1 there)
    where
      there : cell_at b gone.0 ≡ Stone (opponent_of k) → ⊥
      there is = elim (cell_cases (killing g.size k kept region) (cell_at d gone.0)) [
        | inl free ↦ cc (fits.has_empty gone.0 free, is)
        | inr stone ↦ elim stone [
          | inl mine ↦ not_both (killing g.size k kept region) (cell_at b gone.0) (fits.has_own gone.0 mine) is
          | inr same ↦ gone.2 same
        ]
      ]

  -- kept stones are there, on a board that passes the test
  there_still : (c : ℕ → List Cell) (b : List Cell) (h : List (List Cell)) → HoldsAt g.size k A c b h → Stands c → test b ≡ true → (p : ℕ) → IsTrue (kept p) → cell_at b p ≡ Stone k
  there_still c b h holds stands free p is = elim (stands p is) [
    | inl kept_ ↦ kept_there g.size k A W together c b h holds p kept_
    | inr one ↦ free_there (killing g.size k kept region) b supposed free p one
  ]

  -- a point that is empty in a state is in the region, and so in no area
  free_inside : (c : List Cell) → IsWalled (killing g.size k kept region) c → (p : ℕ) → p < g.size * g.size → cell_at c p ≡ Empty → region p ≡ true
  free_inside c walled p on free = go (kept p) (region p) refl refl
    where
      go : (s r : Bool) → kept p ≡ s → region p ≡ r → r ≡ true
      go s true is in_ = refl
      go true false is in_ = absurd (cc (walled.kept p is, free))
      go false false is in_ = absurd (cc (walled.outside p on (ap (λ v. not v && not (region p)) is ∙ ap not in_), free))

  pub walled_result : (j : ℕ) → j < D.count → IsWalled (killing g.size k kept region) (result (killing g.size k kept region) D j)
  walled_result j low =
      let entry = each j low in
      walled_still (killing g.size k kept region) _ (walled_put (killing g.size k kept region) (D.state j) entry.walled (D.move j) entry.on_board entry.empty (Stone k))

  -- The killer's move in the region.
  moves : (m : ℕ) → Waits m → Moves (suc m)
  moves m waits c b h passes j keeps few low fits new size lost =
      least (λ i. Fits (killing g.size k kept region) (after_move g.size b k (D.move j)) (result (killing g.size k kept region) D i)) j after_fits first
    where
      entry : IsEntry (killing g.size k kept region) (holds_point g.targets) D j
      entry = each j low

      free : cell_at b (D.move j) ≡ Empty
      free = fits.has_empty (D.move j) entry.empty

      holds : HoldsAt g.size k A c (after_move g.size b k (D.move j)) (h ++ after_move g.size b k (D.move j) ∷ [])
      holds = holds_elsewhere g.size k A W together c b h keeps.listed keeps.holds (D.move j) entry.on_board free
          (in_none A.count A.region (D.move j) (λ i within. apart i (D.move j) within (free_inside (D.state j) entry.walled (D.move j) entry.on_board entry.empty)))

      after_fits : Fits (killing g.size k kept region) (after_move g.size b k (D.move j)) (result (killing g.size k kept region) D j)
      after_fits = killed (killing g.size k kept region) b (D.state j) fits keeps.holds.full entry.walled keeps.sound (D.move j) entry.on_board entry.empty entry.stands
          (λ p is. elim (keeps.stands p is) [
            | inl kept_ ↦ kept_there g.size k A W together c (after_move g.size b k (D.move j)) (h ++ after_move g.size b k (D.move j) ∷ []) holds p kept_
            | inr one ↦ free_stays (killing g.size k kept region) b supposed (free_now b h k passes (2 * suc m) lost) p one keeps.holds.full (D.move j) entry.on_board free
                (free_inside (D.state j) entry.walled (D.move j) entry.on_board entry.empty)
          ])

      fresh : (x : Bool) → has_occurred h (after_move g.size b k (D.move j)) ≡ x → x ≡ false
      fresh true e = absurd (new j (omega arith) (after_move g.size b k (D.move j)) e after_fits)
      fresh false e = refl

      size_of : suc (2 * m + 1) ≡ 2 * suc m
      size_of = omega arith

      lost_after : Loses (after_move g.size b k (D.move j)) (h ++ after_move g.size b k (D.move j) ∷ []) (opponent_of k) 0 (2 * m + 1)
      lost_after = lost_by_turn test k (at b h k passes) (2 * m + 1) (2 * suc m) (move (D.move j)) (open_now b h k passes (2 * suc m) few lost) refl
          (free_legal (at b h k passes) (D.move j) entry.on_board (moves_allowed j low) free (fresh (has_occurred h (after_move g.size b k (D.move j))) refl)) size_of lost

      first : (i : ℕ) → i ≤ j → Fits (killing g.size k kept region) (after_move g.size b k (D.move j)) (result (killing g.size k kept region) D i)
          → ((l : ℕ) → l < i → Fits (killing g.size k kept region) (after_move g.size b k (D.move j)) (result (killing g.size k kept region) D l) → ⊥) → ⊥
      first i le fit none = elim (each i (omega (arith, le, low))).leads [
        | inl gone ↦ taken (after_move g.size b k (D.move j)) (h ++ after_move g.size b k (D.move j) ∷ []) (opponent_of k) 0 (2 * m + 1) (result (killing g.size k kept region) D i) fit gone lost_after
        | inr is ↦ waits c (after_move g.size b k (D.move j)) (h ++ after_move g.size b k (D.move j) ∷ []) (result (killing g.size k kept region) D i) i
            (record { listed = keeps.listed; holds = holds; stands = keeps.stands; sound = after_move_reaches g.size b k (D.move j) })
            (walled_result i (omega (arith, le, low))) fit is (omega (arith, le, low))
            (λ l less q old f. elim (occurred_or h (after_move g.size b k (D.move j)) q old) [
              | inl before ↦ new l (omega (arith, less, le)) q before f
              | inr now ↦ none l less (subst (λ z. Fits (killing g.size k kept region) z (result (killing g.size k kept region) D l)) now f)
            ])
            (omega (arith, le, size, no_more_left g.size k A W together c c b (after_move g.size b k (D.move j)) h (h ++ after_move g.size b k (D.move j) ∷ []) keeps.holds holds (λ p e. e)))
            lost_after
      ]

  -- What follows an action of the other side's after which the state is further.
  further : (m : ℕ) → Moves m → (c : ℕ → List Cell) (b : List Cell) (h : List (List Cell)) (passes : ℕ) (d : List Cell) (bound : ℕ) → Keeps c b h → passes ≤ 1 → Fits (killing g.size k kept region) b d
      → IsFurther (killing g.size k kept region) (holds_point g.targets) D bound d → bound ≤ D.count
      → ((i : ℕ) → i < bound → (q : List Cell) → has_occurred h q ≡ true → Fits (killing g.size k kept region) q (result (killing g.size k kept region) D i) → q ≡ b)
      → bound + open_left b ≤ m → Loses b h (opponent_of (opponent_of k)) passes (2 * m) → ⊥
  further m moving c b h passes d bound keeps few fits (inl gone) most old size lost = taken b h (opponent_of (opponent_of k)) passes (2 * m) d fits gone lost
  further m moving c b h passes d bound keeps few fits (inr (i, low, fit)) most old size lost =
      least (λ j. Fits (killing g.size k kept region) b (D.state j)) i (fits_on (killing g.size k kept region) b d (D.state i) fits fit) first
    where
      lost_now : Loses b h k passes (2 * m)
      lost_now = subst (λ mover. Loses b h mover passes (2 * m)) (opponent_twice k) lost

      first : (j : ℕ) → j ≤ i → Fits (killing g.size k kept region) b (D.state j) → ((l : ℕ) → l < j → Fits (killing g.size k kept region) b (D.state l) → ⊥) → ⊥
      first j le now none = moving c b h passes j keeps few (omega (arith, le, low, most)) now new (omega (arith, le, low, size)) lost_now
        where
          -- a result that the board fits has a target gone, or an entry before it has what the board has
          here : (l : ℕ) → l < suc j → Fits (killing g.size k kept region) b (result (killing g.size k kept region) D l) → ⊥
          here l less f = elim (each l (omega (arith, less, le, low, most))).leads [
            | inl gone ↦ taken b h k passes (2 * m) (result (killing g.size k kept region) D l) f gone lost_now
            | inr is ↦ elim is.passed [
              | inl gone ↦ taken b h k passes (2 * m) (result (killing g.size k kept region) D l) f gone lost_now
              | inr before ↦ none before.0 (omega (arith, less, before.1)) (fits_on (killing g.size k kept region) b (result (killing g.size k kept region) D l) (D.state before.0) f before.2)
            ]
          ]

          new : New (suc j) h
          new l less q at_ f = here l less (subst (λ z. Fits (killing g.size k kept region) z (result (killing g.size k kept region) D l)) (old l (omega (arith, less, le, low)) q at_ f) f)

  -- The other side's turn: it passes, or moves within the region, or elsewhere, where an area may be owed an answer.
  module _ (m : ℕ) (moving : Moves m) (answered : (p : ℕ) → m ≡ suc p → Waits p) (c : ℕ → List Cell) (b : List Cell) (h : List (List Cell)) (e : List Cell) (bound : ℕ) (keeps : Keeps c b h)
      (walled : IsWalled (killing g.size k kept region) e) (fits : Fits (killing g.size k kept region) b e) (is_lost : IsLost (killing g.size k kept region) (holds_point g.targets) D bound e)
      (most : bound ≤ D.count) (new : New bound h) (size : bound + open_left b ≤ m) (lost : Loses b h (opponent_of k) 0 (2 * m + 1)) where
    passes : Loses b h (opponent_of (opponent_of k)) 1 (2 * m) → ⊥
    passes = further m moving c b h 1 e bound keeps (omega arith) fits is_lost.passed most (λ i low q old f. absurd (new i low q old f)) size

    -- a move in the region would be a sure loss
    place : (y : ℕ) × (y < g.size * g.size) × (cell_at e y ≡ Empty)
    place = elim is_lost.passed [
      | inl gone ↦ absurd (taken b h (opponent_of k) 0 (2 * m + 1) e fits gone lost)
      | inr found ↦
          let entry = each found.0 (omega (arith, found.1, most)) in
          (D.move found.0, entry.on_board, found.2.has_empty (D.move found.0) entry.empty)
    ]

    module _ (x : ℕ) (on : x < g.size * g.size) (free : cell_at b x ≡ Empty) where
      abbrev after : List Cell
      after = after_move g.size b (opponent_of k) x

      abbrev then_ : List (List Cell)
      then_ = h ++ after_move g.size b (opponent_of k) x ∷ []

      abbrev Now : Type 0
      Now = Loses (after_move g.size b (opponent_of k) x) (h ++ after_move g.size b (opponent_of k) x ∷ []) (opponent_of (opponent_of k)) 0 (2 * m)

      old_now : (i : ℕ) → i < bound → (q : List Cell) → has_occurred (h ++ after_move g.size b (opponent_of k) x ∷ []) q ≡ true
          → Fits (killing g.size k kept region) q (result (killing g.size k kept region) D i) → q ≡ after_move g.size b (opponent_of k) x
      old_now i low q old f = elim (occurred_or h (after_move g.size b (opponent_of k) x) q old) [
        | inl before ↦ absurd (new i low q before f)
        | inr now ↦ now
      ]

      sound : EveryStoneReaches g.size (after_move g.size b (opponent_of k) x)
      sound = after_move_reaches g.size b (opponent_of k) x

      within : cell_at e x ≡ Empty → Now → ⊥
      within empty lost_now = further m moving c (after_move g.size b (opponent_of k) x) (h ++ after_move g.size b (opponent_of k) x ∷ []) 0 (after_attack (killing g.size k kept region) e x) bound
          (record { listed = keeps.listed; holds = holds; stands = keeps.stands; sound = sound }) (omega arith)
          (attacked (killing g.size k kept region) b e fits keeps.holds.full walled x on empty (is_lost.sure x on empty)
          (there_still c (after_move g.size b (opponent_of k) x) (h ++ after_move g.size b (opponent_of k) x ∷ []) holds keeps.stands
          (free_now (after_move g.size b (opponent_of k) x) (h ++ after_move g.size b (opponent_of k) x ∷ []) (opponent_of (opponent_of k)) 0 (2 * m) lost_now)))
          (is_lost.moved x on empty) most old_now
          (omega (arith, size, no_more_left g.size k A W together c c b (after_move g.size b (opponent_of k) x) h (h ++ after_move g.size b (opponent_of k) x ∷ []) keeps.holds holds (λ p kept_. kept_)))
          lost_now
        where
          holds : HoldsAt g.size k A c (after_move g.size b (opponent_of k) x) (h ++ after_move g.size b (opponent_of k) x ∷ [])
          holds = other_elsewhere g.size k A W together c b h keeps.listed keeps.holds x on free (λ i low. apart i x low (free_inside e walled x on empty))

      -- Elsewhere: the state stays, and the areas serve.
      module _ (there : cell_at e x ≡ Stone (opponent_of k)) (lost_now : Now) where
        owed : Owed g.size k A W together c (after_move g.size b (opponent_of k) x) (h ++ after_move g.size b (opponent_of k) x ∷ [])
        owed = other_plays g.size k A W together c b h keeps.listed keeps.holds x on free

        still : (p : ℕ) → IsKept k A c p → IsKept k A owed.state p
        still p kept_ = kept_same g.size k A W together c owed.state owed.same p kept_

        stands : Stands owed.state
        stands p is = elim (keeps.stands p is) [ inl kept_ ↦ inl (still p kept_) | inr one ↦ inr one ]

        stand_now : (p : ℕ) → IsTrue (kept p) → cell_at (after_move g.size b (opponent_of k) x) p ≡ Stone k
        stand_now = there_still owed.state (after_move g.size b (opponent_of k) x) (h ++ after_move g.size b (opponent_of k) x ∷ []) owed.holds stands
            (free_now (after_move g.size b (opponent_of k) x) (h ++ after_move g.size b (opponent_of k) x ∷ []) (opponent_of (opponent_of k)) 0 (2 * m) lost_now)

        fits_still : Fits (killing g.size k kept region) (after_move g.size b (opponent_of k) x) e
        fits_still = attacked_elsewhere (killing g.size k kept region) b e fits keeps.holds.full walled x on there free keeps.sound place.0 place.1 place.2 (is_lost.sure place.0 place.1 place.2)
            stand_now

        fewer_left : open_left (after_move g.size b (opponent_of k) x) ≤ open_left b
        fewer_left = no_more_left g.size k A W together c owed.state b (after_move g.size b (opponent_of k) x) h (h ++ after_move g.size b (opponent_of k) x ∷ []) keeps.holds owed.holds still

        -- nothing is to be answered
        quiet : (d : ℕ → List Cell) → AreListed A W d → HoldsAt g.size k A d (after_move g.size b (opponent_of k) x) (h ++ after_move g.size b (opponent_of k) x ∷ [])
            → Stands d → ⊥
        quiet d listed holds stand = further m moving d (after_move g.size b (opponent_of k) x) (h ++ after_move g.size b (opponent_of k) x ∷ []) 0 e bound
            (record { listed = listed; holds = holds; stands = stand; sound = sound }) (omega arith) fits_still is_lost.passed most old_now (omega (arith, size, fewer_left)) lost_now

        -- an area is owed an answer, and gets it
        module _ (one : IsOwed g.size k A W owed.state) (r : ℕ) (answer : IsAnswer (area_at g.size k A one.place) (W one.place) (owed.state one.place) r) where
          abbrev b1 : List Cell
          b1 = after_move g.size b (opponent_of k) x

          abbrev h1 : List (List Cell)
          h1 = h ++ after_move g.size b (opponent_of k) x ∷ []

          abbrev b2 : List Cell
          b2 = after_move g.size (after_move g.size b (opponent_of k) x) k r

          abbrev h2 : List (List Cell)
          h2 = (h ++ after_move g.size b (opponent_of k) x ∷ []) ++ after_move g.size (after_move g.size b (opponent_of k) x) k r ∷ []

          d : ℕ → List Cell
          d = pick one.place answer.known.0 owed.state

          holds : HoldsAt g.size k A (pick one.place answer.known.0 owed.state) b2 h2
          holds = holds_answered g.size k A W together owed.state b1 h1 owed.walled owed.holds one r answer

          kept_on : (p : ℕ) → IsKept k A owed.state p → IsKept k A (pick one.place answer.known.0 owed.state) p
          kept_on p kept_ = kept_answered g.size k A W together owed.state b1 h1 owed.walled owed.holds one r answer p kept_

          r_free : cell_at b1 r ≡ Empty
          r_free = (owed.holds.fits one.place one.within).has_empty r answer.empty

          r_there : cell_at b2 r ≡ Stone k
          r_there = (holds.fits one.place one.within).has_own r (ap (λ w. cell_at w r) (pick_same one.place answer.known.0 owed.state one.place refl)
              ∙ answer_at (area_at g.size k A one.place) (W one.place) (together.replies one.place one.within) (owed.state one.place) (owed.walled one.place one.within) r answer)

          in_area : IsTrue (A.region one.place r)
          in_area = (together.replies one.place one.within).inside r answer.allowed

          beyond : (v : Bool) → region r ≡ v → v ≡ false
          beyond true is = absurd (cc (apart one.place r one.within is, in_area))
          beyond false is = refl

          not_kept : (v : Bool) → kept r ≡ v → v ≡ false
          not_kept true is = absurd (cc (stand_now r is, r_free))
          not_kept false is = refl

          carried : (w : List Cell) → IsWalled (killing g.size k kept region) w → Fits (killing g.size k kept region) b1 w → Fits (killing g.size k kept region) b2 w
          carried w wall f = killed_elsewhere (killing g.size k kept region) b1 w f owed.holds.full wall sound r answer.on_board
              (ap (λ v. not v && not (region r)) (not_kept (kept r) refl) ∙ ap not (beyond (region r) refl)) (beyond (region r) refl) r_free r_there

          less : open_left b2 < open_left b1
          less = less_left g.size k A W together owed.state (pick one.place answer.known.0 owed.state) b1 b2 h1 h2 owed.holds holds kept_on r answer.on_board
              (one_has A.count A.answers one.place r one.within answer.allowed) r_free r_there

          module _ (before : ℕ) (is_suc : m ≡ suc before) where
            size_of : suc (2 * before + 1) ≡ 2 * m
            size_of = omega (arith, is_suc)

            lost_after : Loses b2 h2 (opponent_of k) 0 (2 * before + 1)
            lost_after = lost_by_turn test k (at b1 h1 k 0) (2 * before + 1) (2 * m) (move r) (open_now b1 h1 k 0 (2 * m) (omega arith) lost_k) refl
                (free_legal (at b1 h1 k 0) r answer.on_board (answers_allowed one.place r one.within answer.allowed) r_free
                (answer_allowed g.size k A W together owed.state b1 h1 owed.walled owed.holds one r answer)) size_of lost_k
              where
                lost_k : Loses b1 h1 k 0 (2 * m)
                lost_k = subst (λ mover. Loses b1 h1 mover 0 (2 * m)) (opponent_twice k) lost_now

            kept_keeps : Keeps (pick one.place answer.known.0 owed.state) b2 h2
            kept_keeps = record {
              listed = listed_answered g.size k A W together owed.state b1 h1 owed.walled owed.holds one r answer;
              holds = holds;
              stands = λ p is. elim (stands p is) [ inl kept_ ↦ inl (kept_on p kept_) | inr one_ ↦ inr one_ ];
              sound = after_move_reaches g.size b1 k r;
            }

            -- the least entry whose result the board fits, or the bound
            Least : ℕ → Type 0
            Least i = (i ≡ bound) ⊎ ((i < bound) × Fits (killing g.size k kept region) b2 (result (killing g.size k kept region) D i))

            new_at : (i : ℕ) → i ≤ bound → ((l : ℕ) → l < i → Least l → ⊥) → New i h2
            unfolding Least
            new_at i le none l low q old f = elim (occurred_or h1 b2 q old) [
              | inl once ↦ elim (occurred_or h b1 q once) [
                | inl first ↦ new l (omega (arith, low, le)) q first f
                | inr is ↦ none l low (inr (
                  omega (arith, low, le),
                  carried (result (killing g.size k kept region) D l) (walled_result l (omega (arith, low, le, most)))
                      (subst (λ z. Fits (killing g.size k kept region) z (result (killing g.size k kept region) D l)) is f),
                ))
              ]
              | inr now ↦ none l low (inr (omega (arith, low, le), subst (λ z. Fits (killing g.size k kept region) z (result (killing g.size k kept region) D l)) now f))
            ]

            go_on : (i : ℕ) → i ≤ bound → Least i → ((l : ℕ) → l < i → Least l → ⊥) → ⊥
            unfolding Least
            go_on i le (inl at_) none = answered before is_suc (pick one.place answer.known.0 owed.state) b2 h2 e bound kept_keeps walled (carried e walled fits_still) is_lost most
                (subst (λ j. New j h2) at_ (new_at i le none)) (omega (arith, size, less, fewer_left, is_suc)) lost_after
            go_on i le (inr (low, f)) none = elim (each i (omega (arith, low, most))).leads [
              | inl gone ↦ taken b2 h2 (opponent_of k) 0 (2 * before + 1) (result (killing g.size k kept region) D i) f gone lost_after
              | inr is ↦ answered before is_suc (pick one.place answer.known.0 owed.state) b2 h2 (result (killing g.size k kept region) D i) i kept_keeps (walled_result i (omega (arith, low, most))) f is (omega (arith, low, most))
                  (new_at i le none) (omega (arith, low, size, less, fewer_left, is_suc)) lost_after
            ]

            answer_wins : ⊥
            unfolding Least
            answer_wins = least Least bound (inl refl) go_on

        serve : (one : IsOwed g.size k A W owed.state) → IsAnswered (area_at g.size k A one.place) (W one.place) (owed.state one.place) → ⊥
        serve one (inl known) = quiet (pick one.place known.0 owed.state)
            (listed_passed g.size k A W together owed.state (after_move g.size b (opponent_of k) x) (h ++ after_move g.size b (opponent_of k) x ∷ []) owed.walled owed.holds one known)
            (holds_passed g.size k A W together owed.state (after_move g.size b (opponent_of k) x) (h ++ after_move g.size b (opponent_of k) x ∷ []) owed.walled owed.holds one known)
            (λ p is. elim (stands p is) [
              | inl kept_ ↦ inl (kept_passed g.size k A W together owed.state (after_move g.size b (opponent_of k) x) (h ++ after_move g.size b (opponent_of k) x ∷ []) owed.walled owed.holds one known p kept_)
              | inr one_ ↦ inr one_
            ])
        serve one (inr (r, answer)) = by_size m refl
          where
            by_size : (j : ℕ) → m ≡ j → ⊥
            by_size zero is = omega (arith, is, size, fewer_left, less one r answer)
            by_size (suc before) is = answer_wins one r answer before is

        elsewhere : ⊥
        elsewhere = elim owed.answered [
          | inl listed ↦ quiet owed.state listed owed.holds stands
          | inr one ↦ serve one one.answered
        ]

      played : Now → ⊥
      played lost_now = elim (cell_cases (killing g.size k kept region) (cell_at e x)) [
        | inl empty ↦ within empty lost_now
        | inr stone ↦ elim stone [
          | inl mine ↦ cc (fits.has_own x mine, free)
          | inr there ↦ elsewhere there lost_now
        ]
      ]

    replied : (t : Ply) → legal (at b h (opponent_of k) 0) t ≡ true → wins_while test k (next (at b h (opponent_of k) 0) t) (2 * m) ≡ false → ⊥
    replied pass is lost_now = passes lost_now
    replied (move x) is lost_now = let open_ = legal_free (at b h (opponent_of k) 0) x is in played x open_.0 open_.1 lost_now

    pub waits_step : ⊥
    waits_step = lost_by_reply test k (at b h (opponent_of k) 0) (2 * m) (2 * m + 1) (open_now b h (opponent_of k) 0 (2 * m + 1) (omega arith) lost) (other_not k) (omega arith) lost replied

  waits : (m : ℕ) → Moves m → ((p : ℕ) → m ≡ suc p → Waits p) → Waits m
  waits m moving answered c b h e bound keeps walled fits is_lost most new size lost = waits_step m moving answered c b h e bound keeps walled fits is_lost most new size lost

  pub both : (m : ℕ) → Moves m × Waits m
  both zero =
      let none : Moves zero = λ c b h passes j keeps few low fits new size lost. omega (arith, size) in
      (none, waits zero none (λ p is. absurd (omega (arith, is))))
  both (suc m) =
      let below = both m in
      let moving = moves m below.1 in
      (moving, waits (suc m) moving (λ p is. subst Waits (same p is) below.1))
    where
      same : (p : ℕ) → suc m ≡ suc p → m ≡ p
      same p is = omega (arith, is)
