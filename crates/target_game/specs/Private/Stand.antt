-- A colouring of a game's board in which its targets stand.
use Rattle.std.specs.Prelude.{◌≡◌, IsTrue, List}
use Rattle.std.specs.List.{list_all}
use Rattle.go_points.specs.declared.Cell.{Cell}
use Rattle.go_points.specs.declared.Cell.TheVariants.{Stone}
use Rattle.go_points.specs.Grid.{same_cell, cell_at, side_of}
use Rattle.target_game.specs.State.{Game}

pub record StandIn (g : Game) (c : List Cell) : Type 0 where
  pub size : side_of c ≡ g.size
  pub stand : IsTrue (list_all (λ p. same_cell (cell_at c p) (Stone g.defender)) g.targets)
