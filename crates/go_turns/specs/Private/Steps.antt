-- What a record keeps of its steps, against its history. These definitions are for private fields and functions only: no public
-- clause rests on them.
use Rattle.std.specs.Prelude.{◌≡◌, ℕ, ◌+◌, ◌≤◌, ◌<◌, List, [], ◌∷◌, ◌++◌, length, take, slice_index_or, Option, Some, None}
use Rattle.std.specs.List.{All, AllPairs}
use Rattle.go_points.specs.declared.Cell.{Cell}
use Rattle.go_points.specs.Grid.{side_of}
use Rattle.go_points.specs.Liberty.{first_without_liberty}
use Rattle.go_turns.specs.declared.fault.TurnFault.{TurnFault}
use Rattle.go_turns.specs.declared.fault.TurnFault.TheVariants.{Repeats, Memory}

-- The history has this colouring at this place.
pub record IsAt (history : List (List Cell)) (place : ℕ) (c : List Cell) : Type 0 where
  pub within : place < length history
  pub same : slice_index_or history place [] ≡ c

-- A board of n rows can take over the colouring at this place.
pub record CanStand (n : ℕ) (history : List (List Cell)) (place : ℕ) : Type 0 where
  pub within : place < length history
  pub size : side_of (slice_index_or history place []) ≡ n
  pub liberties : first_without_liberty n (slice_index_or history place []) ≡ None

-- The steps fit the history: no step keeps more colourings than a later one or more than have occurred, and the colouring at its
-- place is among those that it keeps.
pub record StepsFit {X : Type 0} (occurred place passes : X → ℕ) (n : ℕ) (history : List (List Cell)) (steps : List X) : Type 0 where
  pub within : All (λ s. occurred s ≤ length history) steps
  pub order : AllPairs (λ s t. occurred s ≤ occurred t) steps
  pub found : All (λ s. CanStand n (take (occurred s) history) (place s)) steps
  pub few : (k : ℕ) (d : X) → k < length steps → passes (slice_index_or steps k d) ≤ k + 2

-- Why a colouring did not join the history: it is there already, or memory was refused.
abbrev pub IsNotAdded : Option ℕ → TurnFault → Type 0
IsNotAdded (Some earlier) fault = fault ≡ Repeats earlier
IsNotAdded None fault = fault ≡ Memory

-- A colouring has its place in the history: where it already was, or otherwise the next.
abbrev pub Joins : Option ℕ → List (List Cell) → List Cell → ℕ → List (List Cell) → Type 0
Joins (Some earlier) old c place new = (place ≡ earlier) × (new ≡ old)
Joins None old c place new = (place ≡ length old) × (new ≡ old ++ c ∷ [])
