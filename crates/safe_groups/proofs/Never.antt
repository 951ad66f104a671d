-- The attacker wins no state whose targets are safe by answers.
use Rattle.safe_groups.proofs.Common.{sym, subst, refl, ◌≡◌, ◌∙◌, List, ℕ, zero, suc, ap, IsTrue, IsFalse, true, false, Bool, inl, inr, [], ◌∷◌, ◌++◌, ◌*◌, ◌<◌, ◌≤◌, ◌⊎◌, ◌&&◌, not, arith, cell_at, same_cell, eq_same_cell, same_cell_eq, opponent_of, opponent_twice, after_move, Cell, Empty, Stone, Colour, Points, States, IsWalled, IsAnswered, Areas, area_at, RepliesTogether, HoldsAt, AreListed, IsOwed, IsKept, in_one, nat_eq, nat_lt, ltb-true, and_left, and_right, and_both, has_occurred, holds_point, IsSafe, IsSafeAfter, StandThrough, eq-eqb, lt-ltb, GameState, Some, None}
use Rattle.std.proofs.Common.{if◌then◌else◌}
use Rattle.go_points.specs.Grid.{same_colour}
use Rattle.go_points.specs.Equal.{same_colour_eq}
use Rattle.go_points.specs.Ply.{Ply, pass, move}
use Rattle.go_points.proofs.Lists.{any_from, any_to, all_at, all_from}
use Rattle.target_game.specs.Legal.{legal, legal_turns}
use Rattle.target_game.specs.Next.{next}
use Rattle.target_game.specs.Over.{targets_stand, over}
unfoldable use Rattle.target_game.specs.Wins.{wins}
use Rattle.target_game.specs.Wins.{Wins, some_or_each}
use Rattle.target_game.specs.Status.{moving, IsAlive}
use Rattle.target_game.proofs.Winning.{wins_over, wins_none, wins_next, member_legal, legal_member}
use Rattle.target_game.proofs.Statuses.{one_wins}
use Rattle.target_game.proofs.Moving.{colour_other}
use Rattle.safe_groups.proofs.Serving.{pick}
use Rattle.safe_groups.proofs.Exchanges.{other_plays, holds_passed, listed_passed, kept_passed, answer_allowed, holds_answered, listed_answered, kept_answered, kept_same, kept_there, stand_through}

-- the targets stand where the keeper has them
pub targets_there : (s : GameState) → ((p : ℕ) → IsTrue (holds_point s.game.targets p) → cell_at s.colouring p ≡ Stone s.game.defender) → targets_stand s ≡ true
targets_there s stand = all_from (λ p. same_cell (cell_at s.colouring p) (Stone s.game.defender)) s.game.targets (λ p m. eq_same_cell _ _ (stand p (any_to (nat_eq p) p s.game.targets m (eq-eqb p p refl))))

-- so nobody has won, or the defender has
not_taken : (s : GameState) → targets_stand s ≡ true → (over s ≡ None) ⊎ (over s ≡ Some s.game.defender)
not_taken s there = go (targets_stand s) (nat_eq s.passes 2) there
  where
    go : (a b : Bool) → a ≡ true → ((if a then (if b then Some s.game.defender else None) else Some (opponent_of s.game.defender)) ≡ None) ⊎ ((if a then (if b then Some s.game.defender else None) else Some (opponent_of s.game.defender)) ≡ Some s.game.defender)
    go true true e = inr refl
    go true false e = inl refl
    go false b e = absurd (cc e)

won_by_defender : (s : GameState) (k : ℕ) → over s ≡ Some s.game.defender → wins (opponent_of s.game.defender) s k ≡ true → ⊥
won_by_defender s k e h = cc (wins_over (opponent_of s.game.defender) s.game.defender s k e, colour_other s.game.defender, h)

-- a legal move is at an empty point of the board
legal_free : (s : GameState) (p : ℕ) → legal s (move p) ≡ true → (p < s.game.size * s.game.size) × (cell_at s.colouring p ≡ Empty)
legal_free s p h =
    let three = and_left (nat_lt p (s.game.size * s.game.size) && holds_point s.game.region p && same_cell (cell_at s.colouring p) Empty) (not (has_occurred s.history (after_move s.game.size s.colouring s.mover p))) h in
    let two = and_left (nat_lt p (s.game.size * s.game.size) && holds_point s.game.region p) (same_cell (cell_at s.colouring p) Empty) three in (
      ltb-true p (s.game.size * s.game.size) (and_left (nat_lt p (s.game.size * s.game.size)) (holds_point s.game.region p) two),
      same_cell_eq (cell_at s.colouring p) Empty (and_right (nat_lt p (s.game.size * s.game.size) && holds_point s.game.region p) (same_cell (cell_at s.colouring p) Empty) three),
    )

pub free_legal : (s : GameState) (p : ℕ) → p < s.game.size * s.game.size → IsTrue (holds_point s.game.region p) → cell_at s.colouring p ≡ Empty → IsFalse (has_occurred s.history (after_move s.game.size s.colouring s.mover p)) → legal s (move p) ≡ true
free_legal s p on inside free new =
    and_both _ _ (and_both _ _ (and_both _ _ (lt-ltb p (s.game.size * s.game.size) on) inside) (eq_same_cell _ _ free)) (ap not new)

-- some turn of the attacker's, or each turn of the defender's, would have to win
turns_win : (s : GameState) (k : ℕ) → over s ≡ None → wins (opponent_of s.game.defender) s (suc k) ≡ true
    → ((t : Ply) → same_colour s.mover (opponent_of s.game.defender) ≡ true → legal s t ≡ true → wins (opponent_of s.game.defender) (next s t) k ≡ true → ⊥)
    → (same_colour s.mover (opponent_of s.game.defender) ≡ false → (t : Ply) × (legal s t ≡ true) × (wins (opponent_of s.game.defender) (next s t) k ≡ true → ⊥))
    → ⊥
turns_win s k open_ h attacks defends = go (same_colour s.mover (opponent_of s.game.defender)) refl (sym (wins_next (opponent_of s.game.defender) s k open_) ∙ h)
  where
    go : (b : Bool) → same_colour s.mover (opponent_of s.game.defender) ≡ b → some_or_each b (λ t. wins (opponent_of s.game.defender) (next s t) k) (legal_turns s) ≡ true → ⊥
    go true turn some =
        let found = any_from (λ t. wins (opponent_of s.game.defender) (next s t) k) (legal_turns s) some in
        attacks found.0 turn (member_legal s found.0 found.1) found.2
    go false turn each =
        let reply = defends turn in
        reply.2 (all_at (λ t. wins (opponent_of s.game.defender) (next s t) k) reply.0 (legal_turns s) each (legal_member s reply.0 reply.1))

ends_now : (s : GameState) → targets_stand s ≡ true → wins (opponent_of s.game.defender) s 0 ≡ true → ⊥
ends_now s there h = elim (not_taken s there) [
  | inl e ↦ cc (wins_none (opponent_of s.game.defender) s e, h)
  | inr e ↦ won_by_defender s 0 e h
]

module _ (A : Areas) (W : ℕ → States) where
  abbrev Allowed : GameState → Type 0
  Allowed s = (i p : ℕ) → i < A.count → IsTrue (A.answers i p) → IsTrue (holds_point s.game.region p)

  abbrev Together : GameState → Type 0
  Together s = RepliesTogether s.game.size s.game.defender A W

  abbrev Held : GameState → (ℕ → List Cell) → Type 0
  Held s c = HoldsAt s.game.size s.game.defender A c s.colouring s.history

  abbrev HasTargets : GameState → (ℕ → List Cell) → Type 0
  HasTargets s c = (p : ℕ) → IsTrue (holds_point s.game.targets p) → IsKept s.game.defender A c p

  abbrev AllWalled : GameState → (ℕ → List Cell) → Type 0
  AllWalled s c = (i : ℕ) → i < A.count → IsWalled (area_at s.game.size s.game.defender A i) (c i)

  -- within so many turns: where the board fits states of the areas, and where the defender is to move and has an answer
  abbrev Rests : ℕ → Type 0
  Rests j = (s : GameState) (c : ℕ → List Cell) → Allowed s → Together s → AreListed A W c → Held s c → HasTargets s c → wins (opponent_of s.game.defender) s j ≡ true → ⊥

  abbrev Owes : ℕ → Type 0
  Owes j = (s : GameState) (d : ℕ → List Cell) → Allowed s → Together s → AllWalled s d → IsOwed s.game.size s.game.defender A W d → Held s d → HasTargets s d → s.mover ≡ s.game.defender → wins (opponent_of s.game.defender) s j ≡ true → ⊥

  stand : (s : GameState) (c : ℕ → List Cell) → Together s → Held s c → HasTargets s c → targets_stand s ≡ true
  stand s c together holds targets = targets_there s (λ p is. kept_there s.game.size s.game.defender A W together c s.colouring s.history holds p (targets p is))

  rest_step : (j : ℕ) → Rests j → Owes j → Rests (suc j)
  rest_step j rests owes s c allowed together listed holds targets h = elim (not_taken s (stand s c together holds targets)) [
    | inr e ↦ won_by_defender s (suc j) e h
    | inl e ↦ turns_win s j e h attacks (λ mine. (pass, refl, rests (next s pass) c allowed together listed holds targets))
  ]
    where
      after_attack : (p : ℕ) → s.mover ≡ opponent_of s.game.defender → (d : ℕ → List Cell) → AllWalled s d → AreListed A W d ⊎ IsOwed s.game.size s.game.defender A W d → Held (next s (move p)) d → HasTargets s d → wins (opponent_of s.game.defender) (next s (move p)) j ≡ true → ⊥
      after_attack p to_move d walled (inl listed_) there still w = rests (next s (move p)) d allowed together listed_ there still w
      after_attack p to_move d walled (inr owed) there still w = owes (next s (move p)) d allowed together walled owed there still (ap opponent_of to_move ∙ opponent_twice s.game.defender) w

      attacks : (t : Ply) → same_colour s.mover (opponent_of s.game.defender) ≡ true → legal s t ≡ true → wins (opponent_of s.game.defender) (next s t) j ≡ true → ⊥
      attacks pass turn is w = rests (next s pass) c allowed together listed holds targets w
      attacks (move p) turn is w =
          let to_move : s.mover ≡ opponent_of s.game.defender = same_colour_eq s.mover (opponent_of s.game.defender) turn in
          let free = legal_free s p is in
          let owed = other_plays s.game.size s.game.defender A W together c s.colouring s.history listed holds p free.0 free.1 in
          let there = subst (λ m. HoldsAt s.game.size s.game.defender A owed.state (after_move s.game.size s.colouring m p) (s.history ++ after_move s.game.size s.colouring m p ∷ [])) (sym to_move) owed.holds in
          after_attack p to_move owed.state owed.walled owed.answered there (λ q target. kept_same s.game.size s.game.defender A W together c owed.state owed.same q (targets q target)) w

  owe_step : (j : ℕ) → Rests j → Owes (suc j)
  owe_step j rests s d allowed together walled owed holds targets to_move h = elim (not_taken s (stand s d together holds targets)) [
    | inr e ↦ won_by_defender s (suc j) e h
    | inl e ↦ turns_win s j e h (λ t turn is w. cc (ap (λ m. same_colour m (opponent_of s.game.defender)) to_move, colour_other s.game.defender, turn)) (λ mine. reply owed.answered)
  ]
    where
      n : ℕ
      n = s.game.size

      reply : IsAnswered (area_at s.game.size s.game.defender A owed.place) (W owed.place) (d owed.place) → (t : Ply) × (legal s t ≡ true) × (wins (opponent_of s.game.defender) (next s t) j ≡ true → ⊥)
      reply (inl known) = (
        pass,
        refl,
        rests (next s pass) (pick owed.place known.0 d) allowed together (listed_passed s.game.size s.game.defender A W together d s.colouring s.history walled holds owed known)
            (holds_passed s.game.size s.game.defender A W together d s.colouring s.history walled holds owed known)
            (λ q target. kept_passed s.game.size s.game.defender A W together d s.colouring s.history walled holds owed known q (targets q target)),
      )
      reply (inr answered) =
          let r = answered.0 in let answer = answered.1 in
          let new = answer_allowed s.game.size s.game.defender A W together d s.colouring s.history walled holds owed r answer in
          let there = holds_answered s.game.size s.game.defender A W together d s.colouring s.history walled holds owed r answer in (
            move r,
            free_legal s r answer.on_board (allowed owed.place r owed.within answer.allowed) ((holds.fits owed.place owed.within).has_empty r answer.empty)
                (subst (λ m. IsFalse (has_occurred s.history (after_move s.game.size s.colouring m r))) (sym to_move) new),
            rests (next s (move r)) (pick owed.place answer.known.0 d) allowed together (listed_answered s.game.size s.game.defender A W together d s.colouring s.history walled holds owed r answer)
                (subst (λ m. HoldsAt s.game.size s.game.defender A (pick owed.place answer.known.0 d) (after_move s.game.size s.colouring m r) (s.history ++ after_move s.game.size s.colouring m r ∷ [])) (sym to_move) there)
                (λ q target. kept_answered s.game.size s.game.defender A W together d s.colouring s.history walled holds owed r answer q (targets q target)),
          )

  never : (j : ℕ) → Rests j × Owes j
  never zero = (
    (λ s c allowed together listed holds targets h. ends_now s (stand s c together holds targets) h),
    (λ s d allowed together walled owed holds targets to_move h. ends_now s (stand s d together holds targets) h),
  )
  never (suc j) = let below = never j in (rest_step j below.0 below.1, owe_step j below.0)

is_false : (b : Bool) → (b ≡ true → ⊥) → b ≡ false
is_false true none = absurd (none refl)
is_false false none = refl

safe_lost : (s : GameState) (k : ℕ) → IsSafe s → wins (opponent_of s.game.defender) s k ≡ true → ⊥
safe_lost s k safe = (never safe.areas safe.states k).0 s safe.state safe.allowed safe.replies safe.listed safe.holds safe.targets

after_lost : (s : GameState) (k p : ℕ) → IsSafeAfter p s → wins (opponent_of s.game.defender) s k ≡ true → ⊥
after_lost s zero p safe h = ends_now s safe.stand h
after_lost s (suc j) p safe h = elim (not_taken s safe.stand) [
  | inr e ↦ won_by_defender s (suc j) e h
  | inl e ↦ turns_win s j e h (λ t turn is w. cc (ap (λ m. same_colour m (opponent_of s.game.defender)) safe.to_move, colour_other s.game.defender, turn)) (λ mine. (move p, safe.legal_move, safe_lost (next s (move p)) j safe.safe))
]

pub attacker_never_wins : (s : GameState) (k : ℕ) → IsSafe s → IsFalse (wins (opponent_of s.game.defender) s k)
attacker_never_wins s k safe = is_false (wins (opponent_of s.game.defender) s k) (safe_lost s k safe)

pub attacker_never_wins_after_move : (s : GameState) (k p : ℕ) → IsSafeAfter p s → IsFalse (wins (opponent_of s.game.defender) s k)
attacker_never_wins_after_move s k p safe = is_false (wins (opponent_of s.game.defender) s k) (after_lost s k p safe)

-- one side wins
pub defender_wins : (s : GameState) → s.passes ≤ 2 → IsSafe s → Wins s.game.defender s
defender_wins s low safe = elim (one_wins s.game.defender s low) [
  | inl won ↦ won
  | inr lost ↦ absurd (safe_lost s lost.0 safe lost.1)
]

pub defender_wins_by_move : (s : GameState) (p : ℕ) → s.passes ≤ 2 → IsSafeAfter p s → Wins s.game.defender s
defender_wins_by_move s p low safe = elim (one_wins s.game.defender s low) [
  | inl won ↦ won
  | inr lost ↦ absurd (after_lost s lost.0 p safe lost.1)
]

-- it is safe whoever is to move
moved : (s : GameState) (x : Colour) → IsSafe s → IsSafe (moving x s)
moved s x safe = record {
  areas = safe.areas;
  states = safe.states;
  state = safe.state;
  allowed = safe.allowed;
  replies = safe.replies;
  listed = safe.listed;
  holds = safe.holds;
  targets = safe.targets;
}

pub safe_is_alive : (s : GameState) → s.passes ≡ 0 → IsSafe s → IsAlive s
safe_is_alive s none safe = record {
  moving_first = defender_wins (moving s.game.defender s) (omega (arith, none)) (moved s s.game.defender safe);
  moving_second = defender_wins (moving (opponent_of s.game.defender) s) (omega (arith, none)) (moved s (opponent_of s.game.defender) safe);
}

pub safe_stones_stand : (n : ℕ) (k : Colour) (A : Areas) (W : ℕ → States) (c : ℕ → List Cell) (b : List Cell) (history : List (List Cell)) → RepliesTogether n k A W → AreListed A W c → HoldsAt n k A c b history
    → (stones : Points) → ((p : ℕ) → IsTrue (stones p) → IsKept k A c p) → (exchanges : ℕ) → StandThrough n k (in_one A.count A.region) stones exchanges b history
safe_stones_stand n k A W c b history together listed holds stones are exchanges = stand_through n k A W together stones exchanges c b history listed holds are
