-- What a move of the other side in a state comes to.
use Rattle.std.specs.Prelude.{◌≡◌, ◌≢◌, ℕ, ◌*◌, ◌⊎◌, List, slice_set}
use Rattle.go_points.specs.declared.Cell.{Cell}
use Rattle.go_points.specs.declared.Cell.TheVariants.{Empty}
use Rattle.go_points.specs.Grid.{cell_at, side_of}
use Rattle.safe_groups.specs.Areas.{Area, own, theirs, after_other, clear_loose, Leans}
use Rattle.safe_groups.specs.declared.states.Exchange.{Exchange}
use Rattle.safe_groups.specs.declared.states.Exchange.TheVariants.{Nothing, Takes, Leaves}

-- No stone of the keeper's is taken.
abbrev pub Untaken : Area → List Cell → ℕ → Type 0
Untaken a c x = (p : ℕ) → cell_at c p ≡ own a → Leans a a.held (slice_set c x (theirs a)) p

abbrev pub IsLeft : Area → List Cell → ℕ → Exchange → Type 0
IsLeft a c x Nothing = cell_at c x ≡ Empty → Untaken a c x × (after_other a c x ≡ c)
IsLeft a c x Takes = Unit
IsLeft a c x (Leaves d) = (side_of d ≡ a.size) × Untaken a c x × (after_other a c x ≡ d) × (clear_loose a d ≡ d)
