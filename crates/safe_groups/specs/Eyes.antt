-- States in which nothing is to be answered: whatever the other side plays, each chain of the keeper's has an eye left, or leans on
-- stones that are held.
use Rattle.std.specs.Prelude.{◌≡◌, ◌≢◌, ℕ, ◌*◌, ◌<◌, ◌⊎◌, IsTrue, IsFalse, List}
use Rattle.go_points.specs.declared.Cell.{Cell}
use Rattle.go_points.specs.Grid.{adjacent, cell_at}
use Rattle.go_chains.specs.Joined.{Joined}
use Rattle.safe_groups.specs.Areas.{Area, Points, own, is_outside, clear_loose, IsWalled}

-- An eye of the chain of the stone p: points within the region, none of them the keeper's, with nothing but stones of the keeper's
-- round them, and each of them, not its empty points alone, beside the chain.
pub record IsEye (a : Area) (c : List Cell) (p : ℕ) (eye : Points) : Type 0 where
  pub some : (q : ℕ) × IsTrue (eye q)
  pub on_board : (q : ℕ) → IsTrue (eye q) → q < a.size * a.size
  pub inside : (q : ℕ) → IsTrue (eye q) → IsFalse (is_outside a q)
  pub not_own : (q : ℕ) → IsTrue (eye q) → cell_at c q ≢ own a
  pub enclosed : (q r : ℕ) → IsTrue (eye q) → IsTrue (adjacent a.size q r) → IsTrue (eye r) ⊎ (cell_at c r ≡ own a)
  pub beside : (q : ℕ) → IsTrue (eye q) → (r : ℕ) × IsTrue (adjacent a.size q r) × Joined a.size c p r

-- Two eyes of that chain that share no point.
pub record TwoEyes (a : Area) (c : List Cell) (p : ℕ) : Type 0 where
  pub first : Points
  pub second : Points
  pub is_first : IsEye a c p first
  pub is_second : IsEye a c p second
  pub apart : (q : ℕ) → IsTrue (first q) → IsFalse (second q)

-- No stone of the other side's is loose; each stone of the keeper's has two eyes, or is joined to a held one; and those that are given
-- a liberty have an eye, or are joined to an earlier one.
pub record IsResting (a : Area) (c : List Cell) : Type 0 where
  pub walled : IsWalled a c
  pub clear : clear_loose a c ≡ c
  pub own : (p : ℕ) → cell_at c p ≡ own a → TwoEyes a c p ⊎ ((q : ℕ) × IsTrue (a.held q) × Joined a.size c p q)
  pub given : (p : ℕ) → IsTrue (a.gives p) → ((eye : Points) × IsEye a c p eye) ⊎ ((q : ℕ) × IsTrue (a.earlier q) × Joined a.size c p q)
