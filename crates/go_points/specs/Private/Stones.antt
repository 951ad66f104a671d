-- How many stones a colouring holds. Definitions for the private functions of boards. No public clause rests on them.
use Rattle.std.specs.Prelude.{ℕ, Bool, true, false, List, count_by}
use Rattle.go_points.specs.declared.Cell.{Cell}
use Rattle.go_points.specs.declared.Cell.TheVariants.{Empty, Stone}

abbrev pub is_stone : Cell → Bool
is_stone Empty = false
is_stone (Stone k) = true

abbrev pub stone_count : List Cell → ℕ
stone_count c = count_by is_stone c
