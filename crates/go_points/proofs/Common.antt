-- The names that several proofs of this crate cite, passed on from one place. Declares nothing.
pub use Rattle.std.proofs.Common.{◌∙◌, sym, ℕ, arith, ◌≡◌, ap, ◌*◌, List, refl, ◌<◌, false, true, Bool, ◌≤◌, subst, ap₂, length, inl, inr, ◌+◌, ◌∷◌, [], suc, zero, nat_eq, get_or, not, ◌&&◌, cond, set, ◌%◌, ◌/◌, ◌⊎◌, ◌≢◌, Some, ◌-◌, ◌^◌, None, eq-eqb, eqb-true, ◌||◌, map, replicate, filter, nat_lt, IsTrue, Option, bit_or, length-set, mul-le-mul, ◌++◌, Equal, Greater, Less, bit_and, find, is_none, ltb-true, take, ◌↔◌}
pub use Rattle.std.proofs.lemmas.Bool.{cases_lt, cases_eq, false_from_ne_true, lt-ltb, true≢false}
pub use Rattle.std.proofs.lemmas.List.{ext_get_or, get_or-set_other, get_or-set_same, get_or_past, length-replicate, length-map, map-id}
pub use Rattle.std.proofs.lemmas.List.Elements.{All-head, All-tail}
pub use Rattle.std.proofs.lemmas.List.FromFn.{get_or-map-range_with_len, length-map-range_with_len, length-range_with_len}
pub use Rattle.std.proofs.lemmas.Nat.{div-add-mod', mod_below, div-mul-add, mod-mul-add, div_below, mul-add-lt, shr-shr, shr_le}
pub use Rattle.std.proofs.lemmas.Nat.Bits.{bit_at-zero, bit_at-trailing_zeros, bit_at_above}
pub use Rattle.std.specs.Cmp.Lexicographic.{pointwise, pointwise_decides}
pub use Rattle.std.specs.Int.{bit_at, w64, trailing_zeros}
pub use Rattle.std.specs.List.{range_with_len, All, count_by, list_all, list_any}
pub use Rattle.std.specs.Ordering.{nat_cmp}
pub use Rattle.go_points.specs.Clear.{is_captured}
unfoldable pub use Rattle.go_points.specs.Clear.{clear}
pub use Rattle.go_points.specs.Equal.{same_place_decides}
pub use Rattle.go_points.specs.Grid.{cell_at, points, same_cell, opponent_of, adjacent, differ_by_one, same_cells}
unfoldable pub use Rattle.go_points.specs.Grid.{neighbours, side_of}
pub use Rattle.go_points.specs.Liberty.{all_reach_empty, lacks_liberty}
unfoldable pub use Rattle.go_points.specs.Liberty.{first_without_liberty}
unfoldable pub use Rattle.go_points.specs.Move.{after_move, taken_by_move}
pub use Rattle.go_points.specs.Packed.{IsPacked, packed_side, cell_of_bits, packed_at, black_words, blacks_back, is_black, is_stone, packed_length, stone_words, stones_back}
unfoldable pub use Rattle.go_points.specs.Packed.{packed_cells}
pub use Rattle.go_points.specs.Place.{Place, IsOn, place_of, number_of}
pub use Rattle.go_points.specs.Points.{IsFirstFrom, first_place, holds_place, is_before, same_place, with_place, without_place, IsFirstAfter, places_of}
unfoldable pub use Rattle.go_points.specs.Points.{has_bit, places_that}
pub use Rattle.go_points.specs.Private.Inverses.{bit_there, holds_that}
pub use Rattle.go_points.specs.Private.Narrow.{narrow_count, IsNarrow}
unfoldable pub use Rattle.go_points.specs.Private.Narrow.{first_words}
pub use Rattle.go_points.specs.Private.Stones.{stone_count}
pub use Rattle.go_points.specs.Private.Words.{word_count, IsWords, AreAlike}
pub use Rattle.go_points.specs.Reach.{Reaches, IsPath}
unfoldable pub use Rattle.go_points.specs.Reach.{reaches, reaches_within}
pub use Rattle.go_points.specs.Text.{cell_code, text_of}
pub use Rattle.go_points.specs.declared.Cell.{Cell}
pub use Rattle.go_points.specs.declared.Cell.TheVariants.{Empty, Stone}
pub use Rattle.go_points.specs.declared.Colour.{Colour}
pub use Rattle.go_points.specs.declared.Colour.TheVariants.{Black, White}
pub use Rattle.go_points.specs.declared.TheConstants.{MAX_SIZE, MAX_POINTS}
pub use Rattle.go_points.specs.declared.point_bits.TheConstants.{NARROW_SIZE}
