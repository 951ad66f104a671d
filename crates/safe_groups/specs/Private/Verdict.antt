-- What is asked of the areas of a claim together.
use Rattle.std.specs.Prelude.{◌≡◌, ◌≢◌, ℕ, ◌<◌, List, length}
use Rattle.go_points.specs.declared.Colour.{Colour}
use Rattle.go_points.specs.declared.Cell.{Cell}
use Rattle.go_points.specs.declared.Cell.TheVariants.{Stone}
use Rattle.go_points.specs.Grid.{cell_at}
use Rattle.safe_groups.specs.Ground.{ground_at, state_at, BarsNone}
use Rattle.safe_groups.specs.declared.ground.Ground.{Ground}

-- the keeper's stone stands in one of the states
abbrev pub StandsInOne : Colour → List (List Cell) → ℕ → Type 0
StandsInOne k begins p = (i : ℕ) × (i < length begins) × (cell_at (state_at begins i) p ≡ Stone k)

-- each stone of the keeper's on the colouring does
abbrev pub AreKept : Colour → List (List Cell) → List Cell → Type 0
AreKept k begins stones = (p : ℕ) → cell_at stones p ≡ Stone k → StandsInOne k begins p

-- the colouring of the past lacks one of the stones
abbrev pub LacksOne : Colour → List Cell → List Cell → Type 0
LacksOne k stones q = (p : ℕ) × (cell_at stones p ≡ Stone k) × (cell_at q p ≢ Stone k)

-- it bars no answer of any area
abbrev pub BarsNothing : List Ground → List (List Cell) → List Cell → Type 0
BarsNothing gs begins q = (i : ℕ) → i < length gs → BarsNone (ground_at gs i) (state_at begins i) q
