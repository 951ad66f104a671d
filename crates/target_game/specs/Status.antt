-- What players call a group: the targets of a state in which no pass has just been made (this project's own).
use Rattle.go_points.specs.declared.Colour.{Colour}
use Rattle.go_points.specs.Grid.{opponent_of}
use Rattle.target_game.specs.State.{GameState}
use Rattle.target_game.specs.Wins.{Wins}

-- The state with this side to move.
abbrev pub moving : Colour → GameState → GameState
moving x s = record s { mover = x }

-- Alive: the defender wins, whoever moves first.
pub record IsAlive (s : GameState) : Type 0 where
  pub moving_first : Wins s.game.defender (moving s.game.defender s)
  pub moving_second : Wins s.game.defender (moving (opponent_of s.game.defender) s)

-- Dead: the attacker wins, whoever moves first.
pub record IsDead (s : GameState) : Type 0 where
  pub moving_first : Wins (opponent_of s.game.defender) (moving (opponent_of s.game.defender) s)
  pub moving_second : Wins (opponent_of s.game.defender) (moving s.game.defender s)

-- Unsettled: each side wins if it moves first.
pub record IsUnsettled (s : GameState) : Type 0 where
  pub saved : Wins s.game.defender (moving s.game.defender s)
  pub killed : Wins (opponent_of s.game.defender) (moving (opponent_of s.game.defender) s)
