-- What an accepted claim of death shows of a problem's position.
use Rattle.std.specs.Prelude.{◌≡◌, ℕ, ◌≤◌, ◌⊎◌, IsTrue, List}
use Rattle.go_points.specs.declared.Cell.{Cell}
use Rattle.go_points.specs.declared.Cell.TheVariants.{Stone}
use Rattle.go_points.specs.Grid.{cell_at, opponent_of}
use Rattle.target_game.specs.State.{GameState}
use Rattle.target_game.specs.Legal.{holds_point}
use Rattle.safe_groups.specs.Ground.{aimed_at}
use Rattle.dead_groups.specs.Laws.{IsDeadByMove, IsDeadByAnswers}

-- The targets are dead by answers, for the side that is to move, with these stones of the killer's only supposed to stand.
abbrev pub IsDeadNow : List ℕ → GameState → Type 0
IsDeadNow supposed s = ((s.mover ≡ opponent_of s.game.defender) × (s.passes ≤ 1) × IsDeadByMove s supposed) ⊎ ((s.mover ≡ s.game.defender) × (s.passes ≡ 0) × IsDeadByAnswers s supposed)

-- So it is of whatever targets these stones of the defender's are among, as long as those of the killer's stand.
abbrev pub AreDead : GameState → List Cell → List Cell → Type 0
AreDead s targets supposed = (points stones : List ℕ) → ((p : ℕ) → cell_at targets p ≡ Stone s.game.defender → IsTrue (holds_point points p))
    → ((p : ℕ) → cell_at supposed p ≡ Stone (opponent_of s.game.defender) → IsTrue (holds_point stones p)) → IsDeadNow stones (aimed_at points s)
