-- Whether a stone keeps a liberty.
use Rattle.std.specs.Prelude.{◌≡◌, ℕ, ◌⊎◌, IsTrue, List}
use Rattle.go_points.specs.declared.Cell.{Cell}
use Rattle.go_points.specs.declared.Cell.TheVariants.{Empty}
use Rattle.go_points.specs.Grid.{adjacent, cell_at}
use Rattle.go_points.specs.Place.{Place, IsOn, number_of}
use Rattle.go_points.specs.Points.{holds_place}
use Rattle.go_points.specs.Reach.{Reaches}
use Rattle.go_chains.specs.Joined.{Joined}
use Rattle.safe_groups.specs.Areas.{Area, own, theirs, is_outside}

-- The stone needs no liberty: it is one of the keeper's that are held, or one of the other side's outside.
pub record NeedsNone (a : Area) (c : List Cell) (q : ℕ) : Type 0 where
  pub own : cell_at c q ≡ own a → IsTrue (a.held q)
  pub theirs : cell_at c q ≡ theirs a → IsTrue (is_outside a q)

-- The stone p reaches empty, or is joined to one that needs no liberty.
abbrev pub Lasts : Area → List Cell → ℕ → Type 0
Lasts a c p = Reaches a.size c p Empty ⊎ ((q : ℕ) × NeedsNone a c q × Joined a.size c p q)

-- Each stone beside the point x that holds this does.
abbrev pub LastBeside : Area → List Cell → ℕ → Cell → Type 0
LastBeside a c x k = (q : ℕ) → IsTrue (adjacent a.size x q) → cell_at c q ≡ k → Lasts a c q

-- a stone of the same colour beside the stone p
abbrev pub IsNext : ℕ → List Cell → ℕ → Place → Type 0
IsNext n c p q = IsOn n q × IsTrue (adjacent n p (number_of n q)) × (cell_at c (number_of n q) ≡ cell_at c p)

-- each place of the set holds a stone that the stone p is joined with
abbrev pub AreJoined : ℕ → List Cell → ℕ → List Place → Type 0
AreJoined n c p set = (q : Place) → IsTrue (holds_place set q) → IsOn n q × Joined n c p (number_of n q)
