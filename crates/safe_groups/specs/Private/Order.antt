-- What is asked of the areas of a claim, place by place.
use Rattle.std.specs.Prelude.{◌≡◌, ◌≢◌, ℕ, ◌*◌, ◌<◌, ◌⊎◌, IsTrue, List, length}
use Rattle.safe_groups.specs.Ground.{area_of, ground_at}
use Rattle.safe_groups.specs.declared.ground.Ground.{Ground}

abbrev pub KeepsEarlier : List Ground → ℕ → ℕ → Type 0
KeepsEarlier gs group p = (j : ℕ) × (j < length gs) × ((ground_at gs j).group < group) × IsTrue ((area_of (ground_at gs j)).kept p)

abbrev pub GivesOther : List Ground → ℕ → ℕ → ℕ → Type 0
GivesOther gs group i p = (j : ℕ) × (j < length gs) × (j ≢ i) × ((ground_at gs j).group ≡ group) × IsTrue ((area_of (ground_at gs j)).gives p)

pub record IsInOrderAt (gs : List Ground) (i p : ℕ) : Type 0 where
  pub earlier : IsTrue ((area_of (ground_at gs i)).earlier p) → KeepsEarlier gs (ground_at gs i).group p
  pub held : IsTrue ((area_of (ground_at gs i)).held p) → IsTrue ((area_of (ground_at gs i)).earlier p) ⊎ GivesOther gs (ground_at gs i).group i p
  pub given : IsTrue ((area_of (ground_at gs i)).gives p) → IsTrue ((area_of (ground_at gs i)).kept p)

abbrev pub IsInOrder : List Ground → ℕ → ℕ → Type 0
IsInOrder gs n i = (p : ℕ) → p < n * n → IsInOrderAt gs i p

abbrev pub IsApart : Ground → Ground → Type 0
IsApart g h = (p : ℕ) → IsTrue ((area_of g).region p) → IsTrue ((area_of h).region p) → ⊥
