-- Colourings in two bits a cell. These are tools and proofs for the type `Colouring`. They stand here because its impls cite them,
-- and a reader may skip them.
use Rattle.std.proofs.Common.{◌≡◌, ℕ, ◌+◌, ◌*◌, ◌<◌, ◌≤◌, inl, inr, Bool, true, false, List, map, length, get_or, refl, sym, ◌∙◌, ap, subst, arith}
use Rattle.std.proofs.lemmas.Bool.{cases_lt}
use Rattle.std.proofs.lemmas.List.{get_or_past}
use Rattle.std.proofs.lemmas.List.FromFn.{fill_by_all, get_or-map-range_with_len, length-map-range_with_len}
use Rattle.go_points.specs.declared.TheConstants.{MAX_SIZE}
use Rattle.go_points.specs.declared.Colour.TheVariants.{Black, White}
use Rattle.go_points.specs.declared.Cell.{Cell}
use Rattle.go_points.specs.declared.Cell.TheVariants.{Empty, Stone}
use Rattle.go_points.specs.Grid.{points, cell_at, side_of}
use Rattle.go_points.specs.Points.{has_bit}
use Rattle.go_points.specs.Private.Words.{word_count, words_that, IsWords}
use Rattle.go_points.specs.Private.Inverses.{word_back, bit_there}
use Rattle.go_points.specs.Private.Sides.{side_of-whole}

-- A cell by its two bits: is there a stone, and is it black?
abbrev pub cell_of_bits : Bool → Bool → Cell
cell_of_bits false black = Empty
cell_of_bits true false = Stone White
cell_of_bits true true = Stone Black

abbrev pub is_stone : Cell → Bool
is_stone Empty = false
is_stone (Stone k) = true

abbrev pub is_black : Cell → Bool
is_black (Stone Black) = true
is_black _ = false

-- What the words say of a point, and of each point of a board of n rows.
abbrev pub packed_cell : List ℕ → List ℕ → ℕ → Cell
packed_cell stones blacks i = cell_of_bits (has_bit stones i) (has_bit blacks i)

unfoldable pub packed_cells : ℕ → List ℕ → List ℕ → List Cell
packed_cells n stones blacks = map (packed_cell stones blacks) (points n)

-- The words of a colouring.
abbrev pub stone_words : List Cell → List ℕ
stone_words c = words_that (λ i. is_stone (cell_at c i)) word_count

abbrev pub black_words : List Cell → List ℕ
black_words c = words_that (λ i. is_black (cell_at c i)) word_count

-- The words stand for points of a board of n rows, and what is black is a stone.
pub record IsPacked (n : ℕ) (stones blacks : List ℕ) : Type 0 where
  pub least : 1 ≤ n
  pub most : n ≤ MAX_SIZE
  pub of_stones : IsWords stones word_count (n * n)
  pub of_blacks : IsWords blacks word_count (n * n)
  pub within : (i : ℕ) → has_bit stones i ≡ false → has_bit blacks i ≡ false

pub packed_length : (n : ℕ) (stones blacks : List ℕ) → length (packed_cells n stones blacks) ≡ n * n
unfolding packed_cells
packed_length n stones blacks = length-map-range_with_len (packed_cell stones blacks) 0 (n * n)

pub packed_side : (n : ℕ) (stones blacks : List ℕ) → side_of (packed_cells n stones blacks) ≡ n
packed_side n stones blacks = side_of-whole (packed_cells n stones blacks) n (packed_length n stones blacks)

pub packed_at : (n : ℕ) (stones blacks : List ℕ) (i : ℕ) → i < n * n → cell_at (packed_cells n stones blacks) i ≡ packed_cell stones blacks i
unfolding packed_cells
packed_at n stones blacks i low = get_or-map-range_with_len (packed_cell stones blacks) 0 (n * n) i i Empty low (omega arith)

pub packed_past : (n : ℕ) (stones blacks : List ℕ) (i : ℕ) → n * n ≤ i → cell_at (packed_cells n stones blacks) i ≡ Empty
packed_past n stones blacks i past = get_or_past (packed_cells n stones blacks) i Empty (subst (λ m. m ≤ i) (sym (packed_length n stones blacks)) past)

-- the bits of a cell of two bits
stone_bit : (s b : Bool) → is_stone (cell_of_bits s b) ≡ s
stone_bit false b = refl
stone_bit true false = refl
stone_bit true true = refl

black_bit : (s b : Bool) → (s ≡ false → b ≡ false) → is_black (cell_of_bits s b) ≡ b
black_bit false b h = sym (h refl)
black_bit true false h = refl
black_bit true true h = refl

-- words are known by their bits
words_again : (test : ℕ → Bool) (words : List ℕ) (count area : ℕ) → IsWords words count area → ((i : ℕ) → test i ≡ has_bit words i) → words_that test count ≡ words
unfolding words_that
words_again test words count area is same =
    sym (fill_by_all _ words count 0 is.long (λ j low. sym (word_back test 64 (j * 64) (get_or words j 0) (is.fits j) (λ i small. same (j * 64 + i) ∙ bit_there words j i small))))

module _ (n : ℕ) (stones blacks : List ℕ) (is : IsPacked n stones blacks) where
  stone_test : (i : ℕ) → is_stone (cell_at (packed_cells n stones blacks) i) ≡ has_bit stones i
  stone_test i = elim (cases_lt i (n * n)) [
    | inl on ↦ ap is_stone (packed_at n stones blacks i on) ∙ stone_bit (has_bit stones i) (has_bit blacks i)
    | inr off ↦ ap is_stone (packed_past n stones blacks i off) ∙ sym (is.of_stones.rest i off)
  ]

  black_test : (i : ℕ) → is_black (cell_at (packed_cells n stones blacks) i) ≡ has_bit blacks i
  black_test i = elim (cases_lt i (n * n)) [
    | inl on ↦ ap is_black (packed_at n stones blacks i on) ∙ black_bit (has_bit stones i) (has_bit blacks i) (is.within i)
    | inr off ↦ ap is_black (packed_past n stones blacks i off) ∙ sym (is.of_blacks.rest i off)
  ]

  pub stones_back : stone_words (packed_cells n stones blacks) ≡ stones
  stones_back = words_again (λ i. is_stone (cell_at (packed_cells n stones blacks) i)) stones word_count (n * n) is.of_stones stone_test

  pub blacks_back : black_words (packed_cells n stones blacks) ≡ blacks
  blacks_back = words_again (λ i. is_black (cell_at (packed_cells n stones blacks) i)) blacks word_count (n * n) is.of_blacks black_test
