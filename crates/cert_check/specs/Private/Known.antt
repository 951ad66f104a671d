-- The colourings that are known at a state of a body, in a list of the program.
--     SameMembers      two lists hold the same colourings
--     AreKnown      the list is what is known at the state, and with one fewer each time, what is known at the states before it
--     HasStart      this many at its front ascend, and stay there however many turns are taken back
--     IsKept      both, of the list that a body keeps, the latest last
use Rattle.std.specs.Prelude.{◌≡◌, ◌≤◌, ◌+◌, ℕ, List, [], ◌∷◌, IsTrue, length, reverse, take}
use Rattle.go_points.specs.declared.Cell.{Cell}
use Rattle.go_turns.specs.History.{has_occurred}
use Rattle.target_game.specs.State.{GameState, Line}
use Rattle.cert_check.specs.Private.Ascending.{Ascends}

abbrev pub SameMembers : List (List Cell) → List (List Cell) → Type 0
SameMembers cs ds = (c : List Cell) → has_occurred cs c ≡ has_occurred ds c

-- the list is what is known at a state, and the present colouring is in it
pub record IsKnownAt (cs : List (List Cell)) (s : GameState) : Type 0 where
  pub same : SameMembers cs s.history
  pub present : IsTrue (has_occurred s.history s.colouring)

-- both lists latest first: a turn's result comes before what was known
abbrev pub AreKnown : List (List Cell) → GameState → List GameState → Type 0
AreKnown cs s [] = IsKnownAt cs s
AreKnown [] s (p ∷ before) = ⊥
AreKnown (c ∷ cs) s (p ∷ before) = IsKnownAt (c ∷ cs) s × AreKnown cs p before

pub record HasStart (known : List (List Cell)) (fixed turns : ℕ) : Type 0 where
  pub ascends : Ascends (take fixed known)
  pub room : fixed + turns ≤ length known

abbrev pub IsKept : List (List Cell) → ℕ → Line → Type 0
IsKept known fixed l = AreKnown (reverse known) l.state l.before × HasStart known fixed (length l.before)
