-- With no pass standing nobody loses by moving first.
use Rattle.target_game.proofs.Common.{◌≡◌, ℕ, zero, suc, ◌+◌, Bool, true, false, nat_eq, ◌⊎◌, inl, inr, if◌then◌else◌, Some, None, refl, sym, ◌∙◌, ap, ap₂, Colour, Black, White, opponent_of, same_colour, Ply, pass, move, any_from, all_at, GameState, legal, legal_turns, next, targets_stand, over, some_or_each, wins, Wins}
use Rattle.go_points.specs.Equal.{same_colour_refl}
use Rattle.target_game.proofs.Winning.{over_cases, wins_over, wins_none, wins_next, wins_by_turn, wins_by_replies, member_legal, legal_member}

other_colour : (x : Colour) → same_colour (opponent_of x) x ≡ false
other_colour Black = refl
other_colour White = refl

pub colour_other : (x : Colour) → same_colour x (opponent_of x) ≡ false
colour_other Black = refl
colour_other White = refl

-- who has won, by whether the targets stand and two passes do
over_by : (s : GameState) (stand ended : Bool) → targets_stand s ≡ stand → nat_eq s.passes 2 ≡ ended
    → over s ≡ (if stand then (if ended then Some s.game.defender else None) else Some (opponent_of s.game.defender))
over_by s stand ended h e = ap₂ (λ b c. if b then (if c then Some s.game.defender else None) else Some (opponent_of s.game.defender)) h e

stands_where_open : (s : GameState) → over s ≡ None → targets_stand s ≡ true
stands_where_open s open_ = go (targets_stand s) refl
  where
    go : (b : Bool) → targets_stand s ≡ b → targets_stand s ≡ true
    go true e = e
    go false e = absurd (cc (over_by s false (nat_eq s.passes 2) e refl, open_))

-- where nobody has won the turns decide
at_each : (x : Colour) (s : GameState) (k : ℕ) → over s ≡ None → same_colour s.mover x ≡ false → wins x s (suc k) ≡ true → (t : Ply) → legal s t ≡ true → wins x (next s t) k ≡ true
at_each x s k open_ theirs h t fine =
    all_at (λ u. wins x (next s u) k) t (legal_turns s)
    (ap (λ b. some_or_each b (λ u. wins x (next s u) k) (legal_turns s)) (sym theirs) ∙ sym (wins_next x s k open_) ∙ h)
    (legal_member s t fine)

at_some : (x : Colour) (s : GameState) (k : ℕ) → over s ≡ None → same_colour s.mover x ≡ true → wins x s (suc k) ≡ true → (t : Ply) × (legal s t ≡ true) × (wins x (next s t) k ≡ true)
at_some x s k open_ mine h =
    let (t, m, e) = any_from (λ u. wins x (next s u) k) (legal_turns s) (ap (λ b. some_or_each b (λ u. wins x (next s u) k) (legal_turns s)) (sym mine) ∙ sym (wins_next x s k open_) ∙ h) in
    (t, member_legal s t m, e)

-- with no pass standing
module _ (s : GameState) (none : s.passes ≡ 0) where
  abbrev d : Colour
  d = s.game.defender

  abbrev a : Colour
  a = opponent_of s.game.defender

  -- the state with this side to move; and after its pass
  abbrev first : Colour → GameState
  first x = record s { mover = x }

  abbrev passed : Colour → GameState
  passed x = next (first x) pass

  not_two : nat_eq s.passes 2 ≡ false
  not_two = ap (λ n. nat_eq n 2) none

  one_is_not_two : nat_eq (s.passes + 1) 2 ≡ false
  one_is_not_two = ap (λ n. nat_eq (n + 1) 2) none

  two_are : nat_eq (s.passes + 1 + 1) 2 ≡ true
  two_are = ap (λ n. nat_eq (n + 1 + 1) 2) none

  still_open : (x : Colour) → over (first x) ≡ None → over (passed x) ≡ None
  still_open x open_ = over_by (passed x) true false (stands_where_open (first x) open_) one_is_not_two

  ended : (x : Colour) → over (first x) ≡ None → over (next (passed x) pass) ≡ Some d
  ended x open_ = over_by (next (passed x) pass) true true (stands_where_open (first x) open_) two_are

  defender_passes : (k : ℕ) → wins d (first a) (suc k) ≡ true → over (first a) ≡ None → wins d (first d) (suc (suc k)) ≡ true
  defender_passes k h open_ = wins_by_turn d (first d) (suc k) pass open_ (same_colour_refl d) refl
      (wins_by_replies d (passed d) k (still_open d open_) (other_colour d) each)
    where
      each : (t : Ply) → legal (passed d) t ≡ true → wins d (next (passed d) t) k ≡ true
      each pass fine = wins_over d d (next (passed d) pass) k (ended d open_) ∙ same_colour_refl d
      each (move p) fine = at_each d (first a) k open_ (other_colour d) h (move p) fine

  defender_first : (k : ℕ) → wins d (first a) k ≡ true → Wins d (first d)
  defender_first k h = go k h (over_cases (first a))
    where
      go : (k : ℕ) → wins d (first a) k ≡ true → (over (first a) ≡ None) ⊎ ((y : Colour) × (over (first a) ≡ Some y)) → Wins d (first d)
      go k h (inr (y, e)) = (k, wins_over d y (first d) k e ∙ sym (wins_over d y (first a) k e) ∙ h)
      go zero h (inl e) = absurd (cc (wins_none d (first a) e, h))
      go (suc k) h (inl e) = (suc (suc k), defender_passes k h e)

  attacker_answers : (k : ℕ) → wins a (passed d) (suc k) ≡ true → over (first d) ≡ None → wins a (first a) (suc k) ≡ true
  attacker_answers k h open_ =
      let (t, fine, e) = at_some a (passed d) k (still_open d open_) (same_colour_refl a) h in
      go t fine e
    where
      go : (t : Ply) → legal (passed d) t ≡ true → wins a (next (passed d) t) k ≡ true → wins a (first a) (suc k) ≡ true
      go pass fine e = absurd (cc (wins_over a d (next (passed d) pass) k (ended d open_), colour_other d, e))
      go (move p) fine e = wins_by_turn a (first a) k (move p) open_ (same_colour_refl a) fine e

  attacker_first : (k : ℕ) → wins a (first d) k ≡ true → Wins a (first a)
  attacker_first k h = go k h (over_cases (first d))
    where
      after_pass : (k : ℕ) → wins a (passed d) k ≡ true → over (first d) ≡ None → Wins a (first a)
      after_pass zero h e = absurd (cc (wins_none a (passed d) (still_open d e), h))
      after_pass (suc k) h e = (suc k, attacker_answers k h e)

      go : (k : ℕ) → wins a (first d) k ≡ true → (over (first d) ≡ None) ⊎ ((y : Colour) × (over (first d) ≡ Some y)) → Wins a (first a)
      go k h (inr (y, e)) = (k, wins_over a y (first a) k e ∙ sym (wins_over a y (first d) k e) ∙ h)
      go zero h (inl e) = absurd (cc (wins_none a (first d) e, h))
      go (suc k) h (inl e) = after_pass k (at_each a (first d) k e (colour_other d) h pass refl) e

pub defender_may_move_first : (s : GameState) → s.passes ≡ 0 → Wins s.game.defender (record s { mover = opponent_of s.game.defender }) → Wins s.game.defender (record s { mover = s.game.defender })
defender_may_move_first s none (k, h) = defender_first s none k h

pub attacker_may_move_first : (s : GameState) → s.passes ≡ 0 → Wins (opponent_of s.game.defender) (record s { mover = s.game.defender }) → Wins (opponent_of s.game.defender) (record s { mover = opponent_of s.game.defender })
attacker_may_move_first s none (k, h) = attacker_first s none k h
