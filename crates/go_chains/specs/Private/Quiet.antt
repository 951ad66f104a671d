-- What a stone at p would do to its neighbours q, from the counts. These definitions are for private parts only: no public clause
-- rests on them.
use Rattle.std.specs.Prelude.{ℕ, Bool, not, ◌&&◌, ◌||◌, nat_lt, List, slice_index}
use Rattle.go_points.specs.declared.Colour.{Colour}
use Rattle.go_points.specs.declared.Cell.{Cell}
use Rattle.go_points.specs.declared.Cell.TheVariants.{Empty, Stone}
use Rattle.go_points.specs.Grid.{opponent_of, same_cell, cell_at}
use Rattle.go_chains.specs.Private.Chains.{touches}

-- Has the chain of q a liberty besides p?
abbrev pub has_more : ℕ → List ℕ → List ℕ → ℕ → ℕ → Bool
has_more n heads counts p q = nat_lt (touches n heads (slice_index heads q) p) (slice_index counts (slice_index heads q))

-- Would a stone of the colour k at p take the chain of q off?
abbrev pub loses_last : ℕ → List Cell → List ℕ → List ℕ → Colour → ℕ → ℕ → Bool
loses_last n c heads counts k p q = same_cell (cell_at c q) (Stone (opponent_of k)) && not (has_more n heads counts p q)

-- Would q let it stay: as an empty point, or as a stone of its colour with another liberty?
abbrev pub lets_stay : ℕ → List Cell → List ℕ → List ℕ → Colour → ℕ → ℕ → Bool
lets_stay n c heads counts k p q = same_cell (cell_at c q) Empty || (same_cell (cell_at c q) (Stone k) && has_more n heads counts p q)

-- Is q an empty point beside the chain with the head h?
abbrev pub is_liberty : ℕ → List Cell → List ℕ → ℕ → ℕ → Bool
is_liberty n c heads h q = same_cell (cell_at c q) Empty && nat_lt 0 (touches n heads h q)
