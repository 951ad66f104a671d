-- Cells that are read one by one into a colouring without stones.
use Rattle.proof_cert.proofs.Common.{◌≡◌, ℕ, ◌≤◌, List, get_or, Cell, Empty, ReadSoFar}

-- the first k bytes of the text are read, and there is no stone after them
pub record StonesSoFar (n : ℕ) (text : List ℕ) (c : List Cell) (k : ℕ) : Type 0 where
  pub so_far : ReadSoFar n text c k
  pub free : (i : ℕ) → k ≤ i → get_or c i Empty ≡ Empty
