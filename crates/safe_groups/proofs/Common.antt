-- The names that several proofs of this crate cite, passed on from one place. Declares nothing.
pub use Rattle.std.proofs.Common.{◌≡◌, ◌<◌, sym, ◌∙◌, ap, ℕ, subst, ◌*◌, arith, inr, inl, IsTrue, ◌⊎◌, List, length, true, [], refl, ◌∷◌, Bool, false, not, ◌≢◌, ◌&&◌, get_or, set, cond, IsFalse, map, suc, zero, ◌≤◌, nat_lt, eqb-true, ◌++◌, ltb-true, nat_eq, eq-eqb, None, Some, ◌+◌}
pub use Rattle.std.proofs.lemmas.Bool.{lt-ltb}
pub use Rattle.std.proofs.lemmas.List.{get_or_past, length-set, get_or-set_other, get_or-set_same}
pub use Rattle.std.proofs.lemmas.List.Elements.{All-tail}
pub use Rattle.std.specs.List.{All, list_all}
pub use Rattle.go_points.proofs.Cells.{same_cell_eq, eq_same_cell, adjacent_on_board, same_cells_eq, adjacent_back, opponent_twice}
pub use Rattle.go_points.proofs.Clearing.{on_or_off, cell_at-clear, length-clear, stone_before}
pub use Rattle.go_points.proofs.Common.{length-map-range_with_len, get_or-map-range_with_len, same_place_decides}
pub use Rattle.go_points.proofs.Lists.{and_right, and_left, or_left, and_both, or_cases, or_right, not_false}
pub use Rattle.go_points.proofs.Membership.{sets_gain}
pub use Rattle.go_points.proofs.Paths.{reaches_path}
pub use Rattle.go_points.specs.Clear.{is_captured}
unfoldable pub use Rattle.go_points.specs.Clear.{clear}
pub use Rattle.go_points.specs.Equal.{same_cells_refl}
pub use Rattle.go_points.specs.Grid.{cell_at, same_cell, opponent_of, adjacent, same_cells}
unfoldable pub use Rattle.go_points.specs.Grid.{side_of}
unfoldable pub use Rattle.go_points.specs.Move.{after_move}
pub use Rattle.go_points.specs.Place.{number_of, Place, IsOn, place_of}
pub use Rattle.go_points.specs.Points.{holds_place, same_place, with_place}
pub use Rattle.go_points.specs.Reach.{Reaches, IsPath}
unfoldable pub use Rattle.go_points.specs.Reach.{reaches}
pub use Rattle.go_points.specs.declared.Cell.{Cell}
pub use Rattle.go_points.specs.declared.Cell.TheVariants.{Empty, Stone}
pub use Rattle.go_points.specs.declared.Colour.{Colour}
pub use Rattle.go_chains.proofs.Joins.{joined_self, joined_beside, joined_on, joined_holds, reaches_beside}
pub use Rattle.go_chains.specs.Joined.{IsWay, Joined, IsChainOf}
pub use Rattle.go_turns.specs.History.{has_occurred}
pub use Rattle.target_game.specs.Legal.{holds_point}
pub use Rattle.target_game.specs.State.{start, GameProblem, GameState}
pub use Rattle.safe_groups.specs.Areas.{own, Area, IsWalled, theirs, Fits, States, is_outside, IsAnswered, Leans, IsAnswer, IsAtRest, Replies, after_other, IsKnown, Rooted, after_answer, Points}
unfoldable pub use Rattle.safe_groups.specs.Areas.{clear_loose, opened}
pub use Rattle.safe_groups.specs.Eyes.{IsEye, IsResting, TwoEyes}
pub use Rattle.safe_groups.specs.Ground.{area_of, ground_at, state_at, AreStates, lifted_cell, states_of, FitsAt, HasReplies, IsJudged, IsMoveAnswered, IsOfBoard, IsState, IsWalledAt, marked, shut_cell, AreJudged, BarsNone, IsSettled, IsSized, IsStateAnswered, areas_of, part_cell}
pub use Rattle.safe_groups.specs.Laws.{IsSafe, IsSafeAfter}
pub use Rattle.safe_groups.specs.Play.{StandThrough}
pub use Rattle.safe_groups.specs.Private.Liberties.{LastBeside, Lasts, AreJoined, IsNext}
pub use Rattle.safe_groups.specs.Private.Order.{IsApart, IsInOrder, IsInOrderAt}
pub use Rattle.safe_groups.specs.Private.Spaces.{IsGivenAt, IsSafeAt, alone_cell, space_cell, IsEyePoint, IsOfChain}
pub use Rattle.safe_groups.specs.Private.Verdict.{AreKept, BarsNothing, LacksOne}
pub use Rattle.safe_groups.specs.Together.{Areas, area_at, AreListed, IsOwed, RepliesTogether, HoldsAt, IsKept, AreInOrder, PastFits, in_one}
pub use Rattle.safe_groups.specs.declared.ground.Ground.{Ground}
