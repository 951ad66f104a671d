-- The keeper's stones of a state, and the points between them, as two boards.
use Rattle.std.specs.Prelude.{◌≡◌, ◌≢◌, ℕ, ◌*◌, ◌<◌, ◌⊎◌, ◌&&◌, nat_lt, IsTrue, IsFalse, List, if◌then◌else◌}
use Rattle.go_points.specs.declared.Cell.{Cell}
use Rattle.go_points.specs.declared.Cell.TheVariants.{Empty}
use Rattle.go_points.specs.Grid.{cell_at, same_cell, adjacent, side_of}
use Rattle.go_points.specs.Place.{Place, IsOn, number_of, place_of}
use Rattle.go_points.specs.Points.{holds_place}
use Rattle.go_chains.specs.Joined.{Joined}
use Rattle.safe_groups.specs.Areas.{Area, Points, own, theirs}
use Rattle.safe_groups.specs.Eyes.{IsEye, TwoEyes}
use Rattle.safe_groups.specs.Ground.{marked}
use Rattle.safe_groups.specs.declared.ground.Ground.{Ground}

abbrev pub alone_cell : Area → List Cell → ℕ → Cell
alone_cell a c p = (if same_cell (cell_at c p) (own a) then own a else Empty)

abbrev pub space_cell : Area → List Cell → ℕ → Cell
space_cell a c p = (if same_cell (cell_at c p) (own a) then Empty else theirs a)

abbrev pub AreAlone : Area → List Cell → List Cell → Type 0
AreAlone a c d = (p : ℕ) → p < a.size * a.size → cell_at d p ≡ alone_cell a c p

abbrev pub AreSpaces : Area → List Cell → List Cell → Type 0
AreSpaces a c d = (p : ℕ) → p < a.size * a.size → cell_at d p ≡ space_cell a c p

-- a set of places, as one of points
abbrev pub these : ℕ → List Place → Points
these n s = λ q. nat_lt q (n * n) && holds_place s (place_of n q)

-- the points of the set are of the region and near, and none is avoided
pub record IsEyePoint (g : Ground) (near avoided : List Place) (q : ℕ) : Type 0 where
  pub near_one : IsTrue (holds_place near (place_of (side_of g.cells) q))
  pub free : IsFalse (holds_place avoided (place_of (side_of g.cells) q))
  pub inside : cell_at g.cells q ≡ Empty

abbrev pub AreEyePoints : Ground → List Place → List Place → List Place → Type 0
AreEyePoints g space near avoided = (q : ℕ) → q < side_of g.cells * side_of g.cells → IsTrue (holds_place space (place_of (side_of g.cells) q)) → IsEyePoint g near avoided q

abbrev pub IsFreeOf : ℕ → List Place → List Place → Type 0
IsFreeOf n s avoided = (q : ℕ) → IsTrue (these n s q) → IsFalse (these n avoided q)

-- each point of the set is beside the chain of the stone p
abbrev pub AreBeside : Area → List Cell → ℕ → List Place → Type 0
AreBeside a c p near = (q : ℕ) → q < a.size * a.size → IsTrue (holds_place near (place_of a.size q)) → (r : ℕ) × IsTrue (adjacent a.size q r) × Joined a.size c p r

-- each point of the set is beside a stone of the chain
abbrev pub AreNear : ℕ → List Place → List Place → Type 0
AreNear n chain near = (q : Place) → IsTrue (holds_place near q) → (r : Place) × IsOn n r × IsTrue (holds_place chain r) × IsTrue (adjacent n (number_of n r) (number_of n q))

-- a marked point is in the chain
abbrev pub LeansOn : Ground → List Cell → List Place → Type 0
LeansOn g marks chain = (q : ℕ) × (q < side_of g.cells * side_of g.cells) × IsTrue (marked g marks q) × IsTrue (holds_place chain (place_of (side_of g.cells) q))

-- the stone p has two eyes, or is joined to a held one; it has an eye, or is joined to an earlier one
abbrev pub IsSafeAt : Area → List Cell → ℕ → Type 0
IsSafeAt a c p = TwoEyes a c p ⊎ ((q : ℕ) × IsTrue (a.held q) × Joined a.size c p q)

abbrev pub IsGivenAt : Area → List Cell → ℕ → Type 0
IsGivenAt a c p = ((eye : Points) × IsEye a c p eye) ⊎ ((q : ℕ) × IsTrue (a.earlier q) × Joined a.size c p q)

-- a stone that the one at p is joined with
pub record IsOfChain (n : ℕ) (c : List Cell) (p : ℕ) (q : Place) : Type 0 where
  pub on_board : IsOn n q
  pub stone : cell_at c p ≢ Empty
  pub joined : Joined n c p (number_of n q)
