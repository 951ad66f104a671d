-- Numbers in a list, found by the places that another list has for them.
--     IsPlaced ns ps n      ps has a place for n, and n stands there in ns
--     ArePlaced ns ps      each number of ns is placed in this way
use Rattle.std.specs.Prelude.{◌≡◌, ℕ, List, Some, slice_get}
use Rattle.std.specs.List.{All}

abbrev pub IsPlaced : List ℕ → List ℕ → ℕ → Type 0
IsPlaced ns ps n = (k : ℕ) × (slice_get ps n ≡ Some k) × (slice_get ns k ≡ Some n)

abbrev pub ArePlaced : List ℕ → List ℕ → Type 0
ArePlaced ns ps = All (IsPlaced ns ps) ns

-- what was in a list is still there
abbrev pub KeepsAll : List ℕ → List ℕ → Type 0
KeepsAll ps ps' = (i v : ℕ) → slice_get ps i ≡ Some v → slice_get ps' i ≡ Some v
