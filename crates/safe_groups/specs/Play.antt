-- Stones that stand as long as their owner answers, in words of plain play on the whole board, without targets or passes.
use Rattle.std.specs.Prelude.{◌≡◌, ℕ, zero, suc, ◌*◌, ◌<◌, ◌⊎◌, IsTrue, IsFalse, List, [], ◌∷◌, ◌++◌}
use Rattle.go_points.specs.declared.Colour.{Colour}
use Rattle.go_points.specs.declared.Cell.{Cell}
use Rattle.go_points.specs.declared.Cell.TheVariants.{Empty, Stone}
use Rattle.go_points.specs.Grid.{opponent_of, cell_at}
use Rattle.go_points.specs.Move.{after_move}
use Rattle.go_turns.specs.History.{has_occurred}
use Rattle.safe_groups.specs.Areas.{Points}

-- These stones of the colour k are on the board.
abbrev pub AreThere : Colour → Points → List Cell → Type 0
AreThere k stones b = (p : ℕ) → IsTrue (stones p) → cell_at b p ≡ Stone k

-- An empty point of the board.
pub record IsFree (n : ℕ) (b : List Cell) (p : ℕ) : Type 0 where
  pub on_board : p < n * n
  pub empty : cell_at b p ≡ Empty

-- The stones stand through this many exchanges: after each move of the other side, at any empty point, whether the past allows it or
-- not, they stand, and their owner may go on in one of two ways. Nothing is needed, and he may play at any empty point outside the
-- region, or not at all; or there is an answer in the region, which the past never bars. The past is b with what is in `history`.
abbrev pub StandThrough : ℕ → Colour → Points → Points → ℕ → List Cell → List (List Cell) → Type 0
StandThrough n k region stones zero b history = AreThere k stones b
StandThrough n k region stones (suc m) b history =
    AreThere k stones b × ((x : ℕ) → IsFree n b x → let after = after_move n b (opponent_of k) x in
    AreThere k stones after
    × (
    (StandThrough n k region stones m after (history ++ after ∷ [])
    × ((y : ℕ) → IsFree n after y → IsFalse (region y) → StandThrough n k region stones m (after_move n after k y) ((history ++ after ∷ []) ++ after_move n after k y ∷ [])))
    ⊎ ((r : ℕ) × IsFree n after r × IsTrue (region r) × IsFalse (has_occurred (history ++ after ∷ []) (after_move n after k r))
    × StandThrough n k region stones m (after_move n after k r) ((history ++ after ∷ []) ++ after_move n after k r ∷ []))
    ))
