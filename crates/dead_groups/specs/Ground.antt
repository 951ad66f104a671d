-- The killer's region as its judge holds it: the ground of an area, of which only the kept stones and the region count.
use Rattle.std.specs.Prelude.{◌≡◌, ◌*◌, ◌<◌, ◌⊎◌, ℕ, false, List, [], length, get_or, if◌then◌else◌}
use Rattle.go_points.specs.declared.Cell.{Cell}
use Rattle.go_points.specs.declared.Cell.TheVariants.{Empty, Stone}
use Rattle.go_points.specs.Grid.{cell_at, opponent_of, same_cell, side_of}
use Rattle.safe_groups.specs.Areas.{Area, Points, theirs, is_outside, Rooted}
use Rattle.safe_groups.specs.Ground.{area_of}
use Rattle.safe_groups.specs.declared.ground.Ground.{Ground}
use Rattle.dead_groups.specs.declared.entries.Outcome.{Outcome}
use Rattle.dead_groups.specs.declared.entries.Outcome.TheVariants.{Nothing, Taken, Unsure, Leaves}
use Rattle.dead_groups.specs.Kills.{killing, after_attack, Entries, IsFurther, IsSureLoss, IsTaken}

abbrev pub kill_area : Ground → Area
kill_area g = killing (side_of g.cells) g.keeper (area_of g).kept (area_of g).region

-- What a point holds in the one colouring where the mask holds this there, otherwise in the other.
abbrev pub masked_cell : List Cell → Cell → List Cell → List Cell → ℕ → Cell
masked_cell mask cell there elsewhere p = (if same_cell (cell_at mask p) cell then cell_at there p else cell_at elsewhere p)

-- The colouring has the other side's stones wherever they are rooted in the state, and inside.
abbrev pub IsRootedOn : Area → List Cell → List Cell → Type 0
IsRootedOn a c rooted = (p : ℕ) → p < a.size * a.size → is_outside a p ≡ false → cell_at c p ≡ theirs a → Rooted a c p → cell_at rooted p ≡ theirs a

-- The targets: the other side's stones on a colouring.
abbrev pub targets_of : Ground → List Cell → Points
targets_of g targets = λ p. same_cell (cell_at targets p) (Stone (opponent_of g.keeper))

-- What a move of the other side in a state comes to.
abbrev pub IsOutcome : Area → Points → List Cell → ℕ → Outcome → Type 0
IsOutcome a targets c x Nothing = cell_at c x ≡ Empty → IsSureLoss a c x × (after_attack a c x ≡ c)
IsOutcome a targets c x Taken = IsSureLoss a c x × IsTaken a targets (after_attack a c x)
IsOutcome a targets c x Unsure = Unit
IsOutcome a targets c x (Leaves d) = (side_of d ≡ a.size) × IsSureLoss a c x × (after_attack a c x ≡ d)

-- The entries with these states and moves.
abbrev pub entries_of : List (List Cell) → List ℕ → Entries
entries_of states moves = record { count = length states; state = λ j. get_or states j []; move = λ j. get_or moves j 0 }

-- The other side's move is a sure loss, and changes nothing, or leads further.
abbrev pub IsMoveMet : Area → Points → List (List Cell) → List Cell → ℕ → Type 0
IsMoveMet a targets states c x = IsSureLoss a c x × ((after_attack a c x ≡ c) ⊎ IsFurther a targets (entries_of states []) (length states) (after_attack a c x))
