-- The names that several proofs of this crate cite, passed on from one place. Declares nothing.
pub use Rattle.std.proofs.Common.{◌≡◌, ◌∙◌, ap, sym, List, ℕ, length, ◌<◌, [], arith, subst, None, ◌∷◌, false, take, true, ◌*◌, Some, map, ◌++◌, refl, Err, get_or, inl, inr, rules, ◌+◌, ◌≤◌, Ok, Bool, set, Option, cond, reverse, Result, ap₂, nat_lt, not, suc, ◌-◌, if◌then◌else◌, zero, ◌&&◌, ◌⊎◌, bit_xor, length-append, length-set, slice_index, ◌%◌}
pub use Rattle.std.proofs.lemmas.Bool.{cases_eq, both_ways, cases_lt, lt-ltb, le-ltb}
pub use Rattle.std.proofs.lemmas.List.{get_or-set_other, get_or-set_same, get_or_append_left, get_or_default, get_or_push, length-take-le, map-append, take_all, take_at, take_more}
pub use Rattle.std.proofs.lemmas.List.Sums.{sum_by-set}
pub use Rattle.std.proofs.lemmas.Option.{get_or_from_slice_get}
pub use Rattle.std.specs.List.{list_any, list_all, position_or_len}
pub use Rattle.std.specs.Option.{IsSome}
pub use Rattle.go_points.proofs.Cells.{same_cell_eq, eq_same_cell}
pub use Rattle.go_points.proofs.Lists.{true_or_false}
pub use Rattle.go_points.proofs.Sides.{number_below}
unfoldable pub use Rattle.go_points.specs.Clear.{clear}
pub use Rattle.go_points.specs.Equal.{same_cells_eq}
pub use Rattle.go_points.specs.Grid.{cell_at, same_cell, same_cells}
unfoldable pub use Rattle.go_points.specs.Grid.{side_of, neighbours}
pub use Rattle.go_points.specs.Liberty.{lacks_liberty}
unfoldable pub use Rattle.go_points.specs.Liberty.{first_without_liberty}
unfoldable pub use Rattle.go_points.specs.Move.{after_move}
pub use Rattle.go_points.specs.Place.{number_of, IsOn, Place, on_board}
pub use Rattle.go_points.specs.Ply.{move, Ply}
unfoldable pub use Rattle.go_points.specs.Reach.{reaches}
pub use Rattle.go_points.specs.declared.Cell.{Cell}
pub use Rattle.go_points.specs.declared.Cell.TheVariants.{Empty, Stone}
pub use Rattle.go_points.specs.declared.Colour.{Colour}
pub use Rattle.go_points.specs.declared.Colour.TheVariants.{Black, White}
pub use Rattle.stone_key.specs.Key.{word_after, word_for}
unfoldable pub use Rattle.stone_key.specs.Key.{key_of}
pub use Rattle.go_turns.specs.History.{place_in, repeats, HasNoneOf}
pub use Rattle.go_turns.specs.Private.Buckets.{bucket_count}
pub use Rattle.go_turns.specs.Private.Marks.{is_marked, AreFree, HasSeeds, IsSound, mark_count}
pub use Rattle.go_turns.specs.Private.Steps.{CanStand, IsAt, StepsFit, IsNotAdded}
pub use Rattle.go_turns.specs.Record.{GameRecord, Moment, Did, colouring_of, assigned, numbered, play_of, stepped, undo_of, with_liberties, DidWithoutMemory, Opens, after_play, reopened, set_up, setup_of}
pub use Rattle.go_turns.specs.declared.fault.TurnFault.{TurnFault}
pub use Rattle.go_turns.specs.declared.fault.TurnFault.TheVariants.{NoLiberty, OffBoard, Occupied}
pub use Rattle.go_turns.specs.declared.record.Step.{Step}
