-- Groups that live by their shape: no play of the attacker takes them, even if their owner passes for ever. It is Benson's condition,
-- over all points of an eye in place of its empty points alone, since here a move may take several stones of its own colour.
use Rattle.std.specs.Prelude.{◌≡◌, ◌≢◌, ℕ, Bool, ◌⊎◌, IsTrue, IsFalse, List}
use Rattle.std.specs.List.{list_all}
use Rattle.go_points.specs.declared.Colour.{Colour}
use Rattle.go_points.specs.declared.Cell.{Cell}
use Rattle.go_points.specs.declared.Cell.TheVariants.{Empty, Stone}
use Rattle.go_points.specs.Grid.{adjacent, cell_at}
use Rattle.go_chains.specs.Joined.{Joined}
use Rattle.target_game.specs.State.{Game}
use Rattle.target_game.specs.Legal.{holds_point}

-- A set of points, by the test that they pass.
abbrev pub Points : Type 0
Points = ℕ → Bool

-- An empty point at which nobody may play.
pub record Fixed (region : List ℕ) (c : List Cell) (q : ℕ) : Type 0 where
  pub empty : cell_at c q ≡ Empty
  pub outside : IsFalse (holds_point region q)

-- The point q is beside the chain of the stone p: adjacent to a stone that p is joined with.
abbrev pub IsBeside : ℕ → List Cell → ℕ → ℕ → Type 0
IsBeside n c p q = (r : ℕ) × IsTrue (adjacent n q r) × Joined n c p r

-- The chain of the stone p has a liberty that nobody can fill.
abbrev pub Lasting : ℕ → List ℕ → List Cell → ℕ → Type 0
Lasting n region c p = (q : ℕ) × Fixed region c q × IsBeside n c p q

-- An eye space of some stones of the colour k: points without a stone of that colour, one of them empty; and whatever is adjacent to
-- one of them is one of them too, or one of the stones.
pub record EyeSpace (n : ℕ) (k : Colour) (c : List Cell) (stones eye : Points) : Type 0 where
  pub not_own : (q : ℕ) → IsTrue (eye q) → cell_at c q ≢ Stone k
  pub some_empty : (q : ℕ) × IsTrue (eye q) × (cell_at c q ≡ Empty)
  pub enclosed : (q r : ℕ) → IsTrue (eye q) → IsTrue (adjacent n q r) → IsTrue (eye r) ⊎ IsTrue (stones r)

-- An eye of the chain of the stone p: all its points, and not its empty points alone, are beside the chain.
pub record EyeOf (n : ℕ) (k : Colour) (c : List Cell) (stones : Points) (p : ℕ) (eye : Points) : Type 0 where
  pub space : EyeSpace n k c stones eye
  pub beside : (q : ℕ) → IsTrue (eye q) → IsBeside n c p q

-- Two eyes of that chain that share no point.
pub record TwoEyes (n : ℕ) (k : Colour) (c : List Cell) (stones : Points) (p : ℕ) : Type 0 where
  pub first : Points
  pub second : Points
  pub is_first : EyeOf n k c stones p first
  pub is_second : EyeOf n k c stones p second
  pub apart : (q : ℕ) → IsTrue (first q) → IsFalse (second q)

-- These stones are the defender's, and the chain of each has such a liberty, or two eyes that these stones enclose.
pub record Live (g : Game) (c : List Cell) (stones : Points) : Type 0 where
  pub own : (p : ℕ) → IsTrue (stones p) → cell_at c p ≡ Stone g.defender
  pub safe : (p : ℕ) → IsTrue (stones p) → Lasting g.size g.region c p ⊎ TwoEyes g.size g.defender c stones p

-- There are such stones, and every target is one of them.
pub record PassAlive (g : Game) (c : List Cell) : Type 0 where
  pub stones : Points
  pub live : Live g c stones
  pub targets : IsTrue (list_all stones g.targets)
