-- Colourings of boards of at most 19 rows, in fewer words. These are tools for the list of colourings, and a reader may skip them.
use Rattle.std.specs.Prelude.{◌≡◌, ℕ, ◌+◌, ◌*◌, ◌/◌, ◌≤◌, false, List, map, slice_index}
use Rattle.std.specs.List.{range_with_len}
use Rattle.go_points.specs.declared.point_bits.TheConstants.{NARROW_SIZE}
use Rattle.go_points.specs.Points.{has_bit}
use Rattle.go_points.specs.Private.Words.{IsWords}

-- The words that such a board needs.
abbrev pub narrow_count : ℕ
narrow_count = (NARROW_SIZE * NARROW_SIZE + 63) / 64

-- The first `count` words of a list, with zeros after it if it is shorter.
unfoldable pub first_words : ℕ → List ℕ → List ℕ
first_words count words = map (λ j. slice_index words j) (range_with_len 0 count)

-- The words stand for points of a board of n rows, at most 19, and what is black is a stone.
pub record IsNarrow (n : ℕ) (stones blacks : List ℕ) : Type 0 where
  pub least : 1 ≤ n
  pub most : n ≤ NARROW_SIZE
  pub of_stones : IsWords stones narrow_count (n * n)
  pub of_blacks : IsWords blacks narrow_count (n * n)
  pub within : (i : ℕ) → has_bit stones i ≡ false → has_bit blacks i ≡ false
