-- Marks on the points of a board, one for each point, in order: on those that are empty or reach empty over stones of one colour.
-- These definitions are for private functions only: no public clause rests on them.
use Rattle.std.specs.Prelude.{◌≡◌, ℕ, ◌*◌, ◌<◌, ◌⊎◌, Bool, true, false, List, slice_index_or, count_by}
use Rattle.std.specs.List.{list_any}
use Rattle.go_points.specs.declared.Colour.{Colour}
use Rattle.go_points.specs.declared.Cell.{Cell}
use Rattle.go_points.specs.declared.Cell.TheVariants.{Empty, Stone}
use Rattle.go_points.specs.Grid.{neighbours, cell_at}
use Rattle.go_points.specs.Reach.{Reaches}

abbrev pub is_marked : List Bool → ℕ → Bool
is_marked marks p = slice_index_or marks p false

abbrev pub mark_count : List Bool → ℕ
mark_count marks = count_by (λ b. b) marks

-- p is empty, or holds a stone of the colour k that reaches empty.
abbrev pub IsFree : ℕ → List Cell → Colour → ℕ → Type 0
IsFree n c k p = (cell_at c p ≡ Empty) ⊎ ((cell_at c p ≡ Stone k) × Reaches n c p Empty)

-- Each marked point is free.
pub record IsSound (n : ℕ) (c : List Cell) (k : Colour) (marks : List Bool) : Type 0 where
  pub free : (p : ℕ) → is_marked marks p ≡ true → IsFree n c k p

-- Each empty point is marked.
pub record HasSeeds (n : ℕ) (c : List Cell) (marks : List Bool) : Type 0 where
  pub empties : (p : ℕ) → p < n * n → cell_at c p ≡ Empty → is_marked marks p ≡ true

-- Below i, each stone of the colour k that touches a mark is marked.
pub record IsClosedBelow (n : ℕ) (c : List Cell) (k : Colour) (marks : List Bool) (i : ℕ) : Type 0 where
  pub closed : (p : ℕ) → p < i → cell_at c p ≡ Stone k → list_any (is_marked marks) (neighbours n p) ≡ true → is_marked marks p ≡ true

-- The marks are on the free points and on no others.
pub record AreFree (n : ℕ) (c : List Cell) (k : Colour) (marks : List Bool) : Type 0 where
  pub free : (p : ℕ) → is_marked marks p ≡ true → IsFree n c k p
  pub marked : (p : ℕ) → p < n * n → IsFree n c k p → is_marked marks p ≡ true
