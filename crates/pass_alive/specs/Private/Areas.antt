-- Areas that are eyes, and what the loops over them do.
use Rattle.std.specs.Prelude.{◌≡◌, ◌≢◌, ℕ, ◌+◌, ◌*◌, ◌<◌, ◌≤◌, ◌⊎◌, ◌||◌, Bool, IsTrue, IsFalse, List, [], length, map}
use Rattle.go_points.specs.declared.Colour.{Colour}
use Rattle.go_points.specs.declared.Cell.{Cell}
use Rattle.go_points.specs.declared.Cell.TheVariants.{Empty, Stone}
use Rattle.go_points.specs.Grid.{adjacent, cell_at}
use Rattle.go_points.specs.Place.{Place, IsOn, number_of, place_of}
use Rattle.go_points.specs.Points.{holds_place}
use Rattle.go_chains.specs.Joined.{Joined, IsChainOf, IsLibertyOf}
use Rattle.pass_alive.specs.Areas.{area_cell}
use Rattle.pass_alive.specs.Life.{Points, IsBeside, Lasting, Live}
use Rattle.pass_alive.specs.Sets.{these, number_on, game_of, IsNear}

-- What a board of the areas between the stones of the colour k would hold.
abbrev pub areas_in : Colour → List Cell → List Cell
areas_in k c = map (area_cell k) c

-- The area of the point p is an eye: the stones around it are among these, and each of its points is near.
pub record IsEyeArea (n : ℕ) (a : List Cell) (stones : Points) (near : ℕ → Type 0) (p : ℕ) : Type 0 where
  pub walls : (r : ℕ) → r < n * n → IsLibertyOf n a p r → IsTrue (stones r)
  pub beside : (q : ℕ) → q < n * n → Joined n a p q → near q

-- An empty point that is not among the known ones, and whose area, which is s, is an eye.
pub record IsEyeOutside (n : ℕ) (c a : List Cell) (stones chain known : Points) (s : List Place) : Type 0 where
  pub at : ℕ
  pub on : at < n * n
  pub empty : cell_at c at ≡ Empty
  pub unknown : IsFalse (known at)
  pub area : IsChainOf n a at s
  pub eye : IsEyeArea n a stones (IsNear n chain) at

-- The point p is in one of the known ones, or its area is none.
abbrev pub IsNoEye : ℕ → List Cell → Points → Points → Points → ℕ → Type 0
IsNoEye n a stones chain known p = IsFalse (known p) → IsEyeArea n a stones (IsNear n chain) p → ⊥

-- The same of a place, for sets of places.
abbrev pub IsNoEyePlace : ℕ → List Cell → List Place → List Place → List Place → Place → Type 0
IsNoEyePlace n a stones chain known p = IsNoEye n a (these n stones) (these n chain) (these n known) (number_of n p)

-- There is none on the board.
abbrev pub NoEyeOutside : ℕ → List Cell → List Cell → Points → Points → Points → Type 0
NoEyeOutside n c a stones chain known = (p : ℕ) → p < n * n → cell_at c p ≡ Empty → IsNoEye n a stones chain known p

-- Two empty points of different areas, each of which is an eye.
pub record TwoEyeAreas (n : ℕ) (c a : List Cell) (stones : Points) (near : ℕ → Type 0) : Type 0 where
  pub first : ℕ
  pub second : ℕ
  pub first_on : first < n * n
  pub second_on : second < n * n
  pub first_empty : cell_at c first ≡ Empty
  pub second_empty : cell_at c second ≡ Empty
  pub first_eye : IsEyeArea n a stones near first
  pub second_eye : IsEyeArea n a stones near second
  pub apart : Joined n a first second → ⊥

-- The same with the sets of their points, as the code finds them.
pub record TwoEyeSets (n : ℕ) (c a : List Cell) (stones : Points) (near : ℕ → Type 0) : Type 0 where
  pub areas : TwoEyeAreas n c a stones near
  pub first_set : List Place
  pub second_set : List Place
  pub is_first : IsChainOf n a areas.first first_set
  pub is_second : IsChainOf n a areas.second second_set

-- The chain of the stone x has a lasting liberty, or two such areas; and the same with the sets.
abbrev pub MayLive : ℕ → List ℕ → List Cell → List Cell → Points → ℕ → Type 0
MayLive n region c a stones x = Lasting n region c x ⊎ TwoEyeAreas n c a stones (IsBeside n c x)

abbrev pub IsSafe : ℕ → List ℕ → List Cell → List Cell → Points → ℕ → Type 0
IsSafe n region c a stones x = Lasting n region c x ⊎ TwoEyeSets n c a stones (IsBeside n c x)

-- The point is in one of the two sets.
abbrev pub is_due : List Place → List Place → Place → Bool
is_due due late p = holds_place due p || holds_place late p

-- The stones of the colour k that are left: no stone that lives has been taken away, each chain is there or gone as a whole, and a chain
-- of which no stone is due is safe.
pub record AreLeft (n : ℕ) (k : Colour) (region : List Place) (c : List Cell) (stones : List Place) (due : Place → Bool) : Type 0 where
  pub on_board : (p : Place) → IsTrue (holds_place stones p) → IsOn n p
  pub own : (q : ℕ) → IsTrue (these n stones q) → cell_at c q ≡ Stone k
  pub kept : (living : Points) → Live (game_of n [] k region) c living → (q : ℕ) → IsTrue (living q) → IsTrue (these n stones q)
  pub whole : (p q : ℕ) → q < n * n → IsTrue (these n stones p) → Joined n c p q → IsTrue (these n stones q)
  pub among : (p : Place) → IsTrue (due p) → IsTrue (holds_place stones p)
  pub safe : (q : ℕ) → q < n * n → IsTrue (these n stones q) → ((r : ℕ) → r < n * n → Joined n c q r → IsFalse (due (place_of n r)))
      → IsSafe n (map (number_on n) region) c (areas_in k c) (these n stones) q

-- Fewer stones are left, or the same, of which fewer are due, or as many at most, and fewer late.
abbrev pub IsLess : List Place → List Place → List Place → List Place → List Place → List Place → Type 0
IsLess stones due late new_stones new_due new_late =
    (length new_stones < length stones)
    ⊎ ((new_stones ≡ stones) × ((length new_due < length due) ⊎ ((length new_due ≤ length due) × (length new_late < length late))))

-- The set without another set of points.
pub record IsWithout (other old new : List Place) : Type 0 where
  pub within : (p : Place) → IsTrue (holds_place new p) → IsTrue (holds_place old p)
  pub kept : (p : Place) → IsFalse (holds_place other p) → IsTrue (holds_place old p) → IsTrue (holds_place new p)
  pub gone : (p : Place) → IsTrue (holds_place other p) → IsFalse (holds_place new p)
  pub shorter : length new ≤ length old
  pub fewer : (p : Place) → IsTrue (holds_place other p) → IsTrue (holds_place old p) → length new < length old

-- The set with those of these stones that are adjacent to the point p, but for what is in the set late; and the same of all points of
-- a set.
pub record HasStonesAround (n : ℕ) (stones late : List Place) (p : ℕ) (old new : List Place) : Type 0 where
  pub kept : (x : Place) → IsTrue (holds_place old x) → IsTrue (holds_place new x)
  pub added : (q : ℕ) → IsTrue (adjacent n p q) → IsTrue (these n stones q) → IsTrue (is_due new late (place_of n q))
  pub most : (x : Place) → IsTrue (holds_place new x) → IsTrue (holds_place old x) ⊎ IsTrue (holds_place stones x)

pub record HasStonesNear (n : ℕ) (stones late points old new : List Place) : Type 0 where
  pub kept : (x : Place) → IsTrue (holds_place old x) → IsTrue (holds_place new x)
  pub added : (q : ℕ) → IsNear n (these n points) q → IsTrue (these n stones q) → IsTrue (is_due new late (place_of n q))
  pub most : (x : Place) → IsTrue (holds_place new x) → IsTrue (holds_place old x) ⊎ IsTrue (holds_place stones x)

-- The set with the points that are adjacent to the point p, and some others of the board at most.
pub record HasAround (n p : ℕ) (old new : List Place) : Type 0 where
  pub kept : (x : Place) → IsTrue (holds_place old x) → IsTrue (holds_place new x)
  pub on_board : (x : Place) → IsTrue (holds_place new x) → IsTrue (holds_place old x) ⊎ IsOn n x
  pub added : (q : ℕ) → IsTrue (adjacent n p q) → IsTrue (these n new q)

-- Adjacent to an empty point that is not in the set.
abbrev pub IsBesideFree : ℕ → List Cell → Points → ℕ → Type 0
IsBesideFree n c set p = (q : ℕ) × IsTrue (adjacent n p q) × (cell_at c q ≡ Empty) × IsFalse (set q)

-- The place of an empty point of the board.
abbrev pub IsFreePlace : ℕ → List Cell → Place → Type 0
IsFreePlace n c p = IsOn n p × (cell_at c (number_of n p) ≡ Empty)

-- The set with the empty points that are adjacent to the point p, and no more of them.
pub record HasSides (n : ℕ) (c : List Cell) (p : ℕ) (old new : List Place) : Type 0 where
  pub kept : (x : Place) → IsTrue (holds_place old x) → IsTrue (holds_place new x)
  pub free : (x : Place) → IsTrue (holds_place new x) → IsTrue (holds_place old x) ⊎ IsFreePlace n c x
  pub added : (q : ℕ) → IsTrue (adjacent n p q) → cell_at c q ≡ Empty → IsTrue (these n new q)

-- The set of the empty points that are adjacent to the chain.
pub record AreSides (n : ℕ) (c : List Cell) (chain sides : List Place) : Type 0 where
  pub free : (x : Place) → IsTrue (holds_place sides x) → IsFreePlace n c x
  pub all : (q : ℕ) → cell_at c q ≡ Empty → IsNear n (these n chain) q → IsTrue (these n sides q)

-- The points of an area that have been met, and those among them that have still to be looked at: some are met now, each of which is
-- new in the sense given.
pub record HasMet (is_new : Place → Type 0) (old_area old_left area left : List Place) : Type 0 where
  pub kept : (x : Place) → IsTrue (holds_place old_area x) → IsTrue (holds_place area x)
  pub left_kept : (x : Place) → IsTrue (holds_place old_left x) → IsTrue (holds_place left x)
  pub added : (x : Place) → IsTrue (holds_place area x) → IsTrue (holds_place old_area x) ⊎ (IsTrue (holds_place left x) × is_new x)
  pub among : (x : Place) → IsTrue (holds_place left x) → IsTrue (holds_place old_left x) ⊎ IsTrue (holds_place area x)
  pub more : length old_area ≤ length area
  pub as_many : length left + length old_area ≤ length old_left + length area

-- That point of an area.
abbrev pub IsPoint : ℕ → Colour → List Cell → Place → Place → Type 0
IsPoint n k c p x = (x ≡ p) × (cell_at c (number_of n x) ≢ Stone k)

-- A point of an area beside the point p.
abbrev pub IsBesidePoint : ℕ → Colour → List Cell → ℕ → Place → Type 0
IsBesidePoint n k c p x = IsOn n x × IsTrue (adjacent n p (number_of n x)) × (cell_at c (number_of n x) ≢ Stone k)

-- The point r is one of the area, or a stone among these.
abbrev pub IsMetOrWall : ℕ → Colour → List Cell → Points → List Place → ℕ → Type 0
IsMetOrWall n k c stones area r = IsTrue (these n area r) ⊎ ((cell_at c r ≡ Stone k) × IsTrue (stones r))

-- The point r is a stone that is not among these.
abbrev pub IsGap : Colour → List Cell → Points → ℕ → Type 0
IsGap k c stones r = (cell_at c r ≡ Stone k) × IsFalse (stones r)

-- The area of each point of the set is no eye.
abbrev pub AreNoEyes : ℕ → List Cell → Points → Points → List Place → Type 0
AreNoEyes n a stones chain s = (x : Place) → IsTrue (holds_place s x) → IsOn n x × (IsEyeArea n a stones (IsNear n chain) (number_of n x) → ⊥)

-- Each of the stones is in doubt, or has a lasting liberty.
abbrev pub LastsOutside : ℕ → List ℕ → List Cell → Points → Points → Type 0
LastsOutside n region c doubtful stones = (q : ℕ) → q < n * n → IsTrue (stones q) → IsTrue (doubtful q) ⊎ Lasting n region c q
