-- Stones that are only supposed to stand: what a claim shows as long as each of them has a liberty outside the killer's region.
use Rattle.std.specs.Prelude.{ℕ, zero, suc, Bool, not, ◌&&◌, ◌||◌, List, map, if◌then◌else◌, Some, None}
use Rattle.std.specs.List.{list_all}
use Rattle.go_points.specs.declared.Colour.{Colour}
use Rattle.go_points.specs.declared.Cell.{Cell}
use Rattle.go_points.specs.declared.Cell.TheVariants.{Empty}
use Rattle.go_points.specs.Grid.{points, cell_at, same_cell, same_colour}
use Rattle.go_points.specs.Reach.{reaches}
use Rattle.target_game.specs.State.{GameState}
use Rattle.target_game.specs.Legal.{legal_turns}
use Rattle.target_game.specs.Next.{next}
use Rattle.target_game.specs.Over.{over}
use Rattle.target_game.specs.Wins.{is_winner, some_or_each}
use Rattle.safe_groups.specs.Areas.{Area, own, theirs}

-- The board with stones of the other side's at the empty points of the region: no liberties are left but those outside it.
unfoldable pub filled : Area → List Cell → List Cell
filled a b = map (λ p. (if a.region p && same_cell (cell_at b p) Empty then theirs a else cell_at b p)) (points a.size)

-- Are these stones of the killer's all there, each with a liberty outside the region?
abbrev pub are_free : Area → List ℕ → List Cell → Bool
are_free a stones b = list_all (λ p. same_cell (cell_at b p) (own a) && reaches a.size (filled a b) p Empty) stones

-- Can x force that it wins within k turns, or that before that a board comes which fails the test?
unfoldable pub wins_while : (List Cell → Bool) → Colour → GameState → ℕ → Bool
wins_while test x s zero = not (test s.colouring) || is_winner x (over s)
wins_while test x s (suc k) = not (test s.colouring) || elim (over s) [
  | Some y ↦ same_colour y x
  | None ↦ some_or_each (same_colour s.mover x) (λ t. wins_while test x (next s t) k) (legal_turns s)
]
