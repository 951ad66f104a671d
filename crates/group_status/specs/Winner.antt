-- Who wins a question that was asked.
use Rattle.std.specs.Prelude.{◌≡◌, ℕ, Option, Some, slice_get}
use Rattle.go_points.specs.declared.Colour.{Colour}
use Rattle.group_words.specs.declared.side.Side.{Side}
use Rattle.group_words.specs.Sides.{colour_of}
use Rattle.target_game.specs.State.{start}
use Rattle.target_game.specs.Wins.{Wins}
use Rattle.group_status.specs.declared.asked.Asked.{Asked}
use Rattle.group_status.specs.declared.table.Table.{Table}

-- The problem at this place was asked, and the side's colour is the winner that was kept. It wins the problem.
abbrev pub HasWinnerAt : Table → Option ℕ → Colour → Side → Type 0
HasWinnerAt t place defender side = (k : ℕ) × (a : Asked) × (place ≡ Some k) × (slice_get t.asked.items k ≡ Some a)
    × (a.winner ≡ Some (colour_of side defender)) × ∥ Wins (colour_of side defender) (start a.problem) ∥₁
