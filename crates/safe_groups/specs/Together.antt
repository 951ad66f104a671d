-- Several areas of one board that serve at the same time, so that a stone that has no liberty of its own in one may lean on a stone
-- that stands by another.
--     RepliesTogether n k A W      with these states each area's stones stand, and the stones that they lean on do
--     HoldsAt n k A c b history      the board fits one state of each area, and what has occurred bars no answer
use Rattle.std.specs.Prelude.{◌≡◌, ℕ, zero, suc, ◌*◌, ◌<◌, false, ◌||◌, ◌⊎◌, ◌≢◌, IsTrue, List, length}
use Rattle.go_points.specs.declared.Colour.{Colour}
use Rattle.go_points.specs.declared.Cell.{Cell}
use Rattle.go_points.specs.declared.Cell.TheVariants.{Stone}
use Rattle.go_points.specs.Grid.{cell_at}
use Rattle.go_turns.specs.History.{has_occurred}
use Rattle.safe_groups.specs.Areas.{Area, Points, States, Fits, Replies, IsAnswered}

-- So many areas, each by its number. The areas are in groups, and the groups in an order.
pub record Areas : Type 0 where
  pub count : ℕ
  pub group : ℕ → ℕ
  pub kept : ℕ → Points
  pub region : ℕ → Points
  pub answers : ℕ → Points
  pub held : ℕ → Points
  pub earlier : ℕ → Points
  pub gives : ℕ → Points

-- one of them, on a board of n rows, where k keeps
abbrev pub area_at : ℕ → Colour → Areas → ℕ → Area
area_at n k A i = record { size = n; keeper = k; kept = A.kept i; region = A.region i; answers = A.answers i; held = A.held i; earlier = A.earlier i; gives = A.gives i }

-- Does one of the first so many sets hold the point?
abbrev pub in_one : ℕ → (ℕ → Points) → Points
in_one zero sets p = false
in_one (suc m) sets p = sets m p || in_one m sets p

-- Stones that are kept earlier are kept by an area of an earlier group. A stone that is held is one of these, or another area of the
-- same group gives it a liberty; and an area gives one only to what it keeps. The regions share no point.
pub record AreInOrder (A : Areas) : Type 0 where
  pub earlier : (i p : ℕ) → i < A.count → IsTrue (A.earlier i p) → (j : ℕ) × (j < A.count) × (A.group j < A.group i) × IsTrue (A.kept j p)
  pub held : (i p : ℕ) → i < A.count → IsTrue (A.held i p) → IsTrue (A.earlier i p) ⊎ ((j : ℕ) × (j < A.count) × (j ≢ i) × (A.group j ≡ A.group i) × IsTrue (A.gives j p))
  pub given : (i p : ℕ) → i < A.count → IsTrue (A.gives i p) → IsTrue (A.kept i p)
  pub apart : (i j p : ℕ) → i < A.count → j < A.count → IsTrue (A.region i p) → IsTrue (A.region j p) → i ≡ j

-- In each of the areas the keeper has answers.
pub record RepliesTogether (n : ℕ) (k : Colour) (A : Areas) (W : ℕ → States) : Type 0 where
  pub order : AreInOrder A
  pub replies : (i : ℕ) → i < A.count → Replies (area_at n k A i) (W i)

-- A colouring of the past that has the keeper's stones of all areas has him at no further point at which he answers.
abbrev pub PastFits : Colour → Areas → (ℕ → List Cell) → List (List Cell) → Type 0
PastFits k A c history = (q : List Cell) → IsTrue (has_occurred history q) → ((i p : ℕ) → i < A.count → cell_at (c i) p ≡ Stone k → cell_at q p ≡ Stone k)
    → (i p : ℕ) → i < A.count → IsTrue (A.answers i p) → cell_at q p ≡ Stone k → cell_at (c i) p ≡ Stone k

-- The board fits these states, one of each area, and the past does.
pub record HoldsAt (n : ℕ) (k : Colour) (A : Areas) (c : ℕ → List Cell) (b : List Cell) (history : List (List Cell)) : Type 0 where
  pub full : length b ≡ n * n
  pub fits : (i : ℕ) → i < A.count → Fits (area_at n k A i) b (c i)
  pub past : PastFits k A c history

-- These are states of the areas, one of each.
abbrev pub AreListed : Areas → (ℕ → States) → (ℕ → List Cell) → Type 0
AreListed A W c = (i : ℕ) → i < A.count → IsTrue (W i (c i))

-- All but one of them are, and in that one the keeper may pass, or has an answer.
pub record IsOwed (n : ℕ) (k : Colour) (A : Areas) (W : ℕ → States) (c : ℕ → List Cell) : Type 0 where
  pub place : ℕ
  pub within : place < A.count
  pub others : (i : ℕ) → i < A.count → i ≢ place → IsTrue (W i (c i))
  pub answered : IsAnswered (area_at n k A place) (W place) (c place)

-- the point holds one of the keeper's stones in one of the states
abbrev pub IsKept : Colour → Areas → (ℕ → List Cell) → ℕ → Type 0
IsKept k A c p = (i : ℕ) × (i < A.count) × (cell_at (c i) p ≡ Stone k)
