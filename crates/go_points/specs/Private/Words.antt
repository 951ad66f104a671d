-- The words that stand for a set of points, and what is true of them.
use Rattle.std.specs.Prelude.{◌≡◌, ℕ, ◌+◌, ◌*◌, ◌/◌, ◌^◌, ◌<◌, ◌≤◌, Bool, false, List, map, length, slice_index}
use Rattle.std.specs.List.{range_with_len}
use Rattle.std.specs.Simd.Lanes.{mask_l}
use Rattle.go_points.specs.declared.TheConstants.{MAX_SIZE, MAX_POINTS}
use Rattle.go_points.specs.Place.{Place, place_of}
use Rattle.go_points.specs.Points.{holds_place, has_bit}

-- The number that some bits make, from bit a on, with the first as the lowest; and the words of 64 bits.
unfoldable pub word_that : (ℕ → Bool) → ℕ → ℕ → ℕ
word_that test bits a = mask_l (map test (range_with_len a bits))

unfoldable pub words_that : (ℕ → Bool) → ℕ → List ℕ
words_that test count = map (λ j. word_that test 64 (j * 64)) (range_with_len 0 count)

-- The number of words of a set: as many as the widest board needs. Then those words.
abbrev pub word_count : ℕ
word_count = (MAX_POINTS + 63) / 64

abbrev pub words_of : List Place → List ℕ
words_of ps = words_that (λ i. holds_place ps (place_of MAX_SIZE i)) word_count

-- There are `count` words of 64 bits, and they stand only for points of a board of `area` points.
pub record IsWords (words : List ℕ) (count area : ℕ) : Type 0 where
  pub long : length words ≡ count
  pub fits : (j : ℕ) → slice_index words j < 2 ^ 64
  pub rest : (i : ℕ) → area ≤ i → has_bit words i ≡ false

-- Two sets of words say the same of a point, and two others too.
pub record AreAlike (bits others more more_others : List ℕ) (i : ℕ) : Type 0 where
  pub first : has_bit bits i ≡ has_bit others i
  pub second : has_bit more i ≡ has_bit more_others i
