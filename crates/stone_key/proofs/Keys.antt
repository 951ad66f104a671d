-- The key of the points so far.
use Rattle.std.proofs.Common.{◌≡◌, ℕ, ◌+◌, ◌*◌, List, [], ◌∷◌, map, bit_xor, refl, ap, ◌∙◌, arith}
use Rattle.std.specs.List.{fold, range_with_len}
use Rattle.std.proofs.lemmas.List.Sums.{fold-append}
use Rattle.std.proofs.lemmas.List.FromFn.{map-range_with_len_more}
use Rattle.go_points.specs.declared.Cell.{Cell}
use Rattle.go_points.specs.Grid.{side_of}
use Rattle.stone_key.specs.Key.{point_word, key_of}

-- The words of the points below i.
unfoldable pub key_below : List Cell → ℕ → ℕ
key_below c i = fold bit_xor 0 (map (point_word c) (range_with_len 0 i))

pub key_of_none : (c : List Cell) → key_below c 0 ≡ 0
unfolding key_below
key_of_none c = refl

pub key_of_more : (c : List Cell) (i : ℕ) → key_below c (i + 1) ≡ bit_xor (key_below c i) (point_word c i)
unfolding key_below
key_of_more c i = ap (fold bit_xor 0) (map-range_with_len_more (point_word c) 0 i i (omega arith)) ∙ fold-append bit_xor 0 (map (point_word c) (range_with_len 0 i)) (point_word c i ∷ [])

pub key_of_all : (c : List Cell) → key_below c (side_of c * side_of c) ≡ key_of c
unfolding key_below key_of
key_of_all c = refl
