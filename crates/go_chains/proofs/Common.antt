-- The names that several proofs of this crate cite, passed on from one place. Declares nothing.
pub use Rattle.std.proofs.Common.{◌≡◌, ℕ, ◌∙◌, ap, sym, subst, ◌*◌, ◌<◌, List, slice_index, ◌≤◌, arith, ◌≢◌, ◌+◌, inr, inl, length, map, true, refl, take, Bool, false, ◌⊎◌, rules, cond, nat_eq, [], eq-eqb, ◌∷◌, set, ◌&&◌, eqb-true, slice_set, None, not, ◌-◌, IsTrue, ap₂, ◌++◌, nat_lt, drop, filter, get_or, is_none, ltb-true, take-append-drop, ◌↔◌}
pub use Rattle.std.proofs.lemmas.Bool.{cases_eq, cases_lt}
pub use Rattle.std.proofs.lemmas.Grind.{take_at_read}
pub use Rattle.std.proofs.lemmas.List.{get_or-set_other, get_or-set_same, take_all, length-map, get_or_past, length-set, ext_get_or, get_or-replicate, length-replicate, length-take-le, map-append}
pub use Rattle.std.specs.List.{list_any}
pub use Rattle.go_points.proofs.Cells.{adjacent_on_board, eq_same_cell, neighbours_member, same_cell_eq, adjacent_back, member_neighbours, points_member, opponent_ne, same_cell_false}
pub use Rattle.go_points.proofs.Clearing.{one_or_other}
pub use Rattle.go_points.proofs.Liberties.{first_none, lacks_empty}
pub use Rattle.go_points.proofs.Lists.{any_to, Member, and_both, and_left, and_right, none_found, not_false, or_cases, or_left, or_right}
pub use Rattle.go_points.proofs.Paths.{reaches_path}
pub use Rattle.go_points.proofs.Quiet.{clear_none}
unfoldable pub use Rattle.go_points.specs.Clear.{clear}
pub use Rattle.go_points.specs.Grid.{cell_at, same_cell, adjacent, points, opponent_of}
unfoldable pub use Rattle.go_points.specs.Grid.{side_of, neighbours}
pub use Rattle.go_points.specs.Liberty.{lacks_liberty}
unfoldable pub use Rattle.go_points.specs.Liberty.{first_without_liberty}
unfoldable pub use Rattle.go_points.specs.Move.{after_move}
pub use Rattle.go_points.specs.Place.{number_of, Place, IsOn, place_of}
pub use Rattle.go_points.specs.Points.{with_place}
pub use Rattle.go_points.specs.Private.Stones.{stone_count}
pub use Rattle.go_points.specs.Reach.{Reaches, IsPath}
unfoldable pub use Rattle.go_points.specs.Reach.{reaches}
pub use Rattle.go_points.specs.declared.Cell.{Cell}
pub use Rattle.go_points.specs.declared.Cell.TheVariants.{Empty, Stone}
pub use Rattle.go_points.specs.declared.Colour.{Colour}
pub use Rattle.go_points.specs.declared.TheConstants.{MAX_POINTS}
pub use Rattle.go_chains.specs.Joined.{Joined, IsWay, HoldsThose, AreLibertiesOf, IsChainOf}
pub use Rattle.go_chains.specs.Private.Chains.{nowhere, IsIn, IsSettled, total, HasCircles, IsClosed, HasCounts, KeepsOthers, LacksLiberties, HasCircle, IsBoard, LeavesLiberties, Lists, empties_beside, IsRenamed, KeepsTogether, Meet, AreFull, Follows, LivesAround, TellsLiberties}
unfoldable pub use Rattle.go_chains.specs.Private.Chains.{touches, liberty_count}
pub use Rattle.go_chains.specs.Private.Quiet.{is_liberty, lets_stay, loses_last, has_more}
