-- A group is alive, dead or unsettled, and only one of these.
use Rattle.target_game.proofs.Common.{◌≡◌, ◌≤◌, ◌⊎◌, inl, inr, arith, Colour, Black, White, opponent_of, GameState, Wins}
use Rattle.target_game.specs.Status.{moving, IsAlive, IsDead, IsUnsettled}
use Rattle.target_game.proofs.Winning.{not_both}
use Rattle.target_game.proofs.Ending.{winner_exists}
use Rattle.target_game.proofs.Moving.{defender_may_move_first, attacker_may_move_first}

-- this side or the other wins
pub one_wins : (x : Colour) (s : GameState) → s.passes ≤ 2 → Wins x s ⊎ Wins (opponent_of x) s
one_wins Black s low = winner_exists s low
one_wins White s low = elim (winner_exists s low) [ inl h ↦ inr h | inr h ↦ inl h ]

never_both : (x : Colour) (s : GameState) → Wins x s → Wins (opponent_of x) s → ⊥
never_both x s (i, h) (j, g) = not_both x s i j h g

pub status_exists : (s : GameState) → s.passes ≡ 0 → IsAlive s ⊎ (IsDead s ⊎ IsUnsettled s)
status_exists s none = elim (one_wins s.game.defender (moving (opponent_of s.game.defender) s) (omega (arith, none))) [
  | inl lives ↦ inl (record { moving_first = defender_may_move_first s none lives; moving_second = lives })
  | inr dies ↦ elim (one_wins s.game.defender (moving s.game.defender s) (omega (arith, none))) [
    | inl saved ↦ inr (inr (record { saved = saved; killed = dies }))
    | inr lost ↦ inr (inl (record { moving_first = attacker_may_move_first s none lost; moving_second = lost }))
  ]
]

pub alive_or_dead : (s : GameState) → IsAlive s → IsDead s → ⊥
alive_or_dead s alive dead = never_both s.game.defender (moving s.game.defender s) alive.moving_first dead.moving_second

pub alive_or_unsettled : (s : GameState) → IsAlive s → IsUnsettled s → ⊥
alive_or_unsettled s alive open_ = never_both s.game.defender (moving (opponent_of s.game.defender) s) alive.moving_second open_.killed

pub dead_or_unsettled : (s : GameState) → IsDead s → IsUnsettled s → ⊥
dead_or_unsettled s dead open_ = never_both s.game.defender (moving s.game.defender s) open_.saved dead.moving_second

pub one_status : (s : GameState) → s.passes ≡ 0 → (IsAlive s ⊎ (IsDead s ⊎ IsUnsettled s)) × (IsAlive s → IsDead s → ⊥) × (IsAlive s → IsUnsettled s → ⊥) × (IsDead s → IsUnsettled s → ⊥)
one_status s none = (status_exists s none, alive_or_dead s, alive_or_unsettled s, dead_or_unsettled s)
