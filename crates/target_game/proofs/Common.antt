-- The names that several proofs of this crate cite, passed on from one place. Declares nothing.
pub use Rattle.std.proofs.Common.{◌≡◌, ap, ◌∙◌, sym, ℕ, false, true, None, Some, subst, refl, arith, ◌*◌, List, ◌+◌, [], length, Bool, map, ◌<◌, ◌∷◌, not, suc, ◌≤◌, inr, inl, zero, ◌++◌, cond, ◌&&◌, ◌⊎◌, Option, ap₂, ◌-◌, filter, if◌then◌else◌, nat_eq, nat_lt, ◌||◌, Err, get_or, is_some, Ok, is_none, ltb-true, set, eq-eqb, eqb-true, option_map, rules, IsTrue, ◌%◌, IfNone, IfSome, Result, drop, lt-ltb, ltb-false, replicate, slice_get, take, ◌≢◌}
pub use Rattle.std.proofs.Math.Seq.{drop-cons, drop-length, get_or-append_seam}
pub use Rattle.std.proofs.lemmas.Bool.{cases_lt, true≢false}
pub use Rattle.std.proofs.lemmas.List.{length-map, get_or-set_other, length-append, length-replicate}
pub use Rattle.std.proofs.lemmas.List.Folds.{list_any-append}
pub use Rattle.std.proofs.lemmas.Nat.{mul-add-lt, div-mul-add, mod-mul-add}
pub use Rattle.std.specs.List.{All, list_all, list_any, range_with_len}
pub use Rattle.go_points.proofs.Cells.{same_cell_eq, same_cell_refl}
pub use Rattle.go_points.proofs.Lists.{and_right, and_left, not_true, Member, all_at, and_both, any_from, true_or_false, all_from, any_to, map_member, member_filter, member_map}
pub use Rattle.go_points.proofs.PlaceSets.{before, not_before}
unfoldable pub use Rattle.go_points.specs.Clear.{clear}
pub use Rattle.go_points.specs.Grid.{cell_at, same_cell, opponent_of, same_cells, same_colour, points}
unfoldable pub use Rattle.go_points.specs.Grid.{side_of}
pub use Rattle.go_points.specs.Liberty.{all_reach_empty}
unfoldable pub use Rattle.go_points.specs.Move.{after_move}
pub use Rattle.go_points.specs.Place.{number_of, IsOn, Place, on_board, place_of}
pub use Rattle.go_points.specs.Ply.{pass, move, ply_of, Ply, holds_ply}
pub use Rattle.go_points.specs.Points.{IsFirstFrom, holds_place, is_before, same_place}
pub use Rattle.go_points.specs.Private.Sides.{side_of-whole}
pub use Rattle.go_points.specs.declared.Cell.{Cell}
pub use Rattle.go_points.specs.declared.Cell.TheVariants.{Empty, Stone}
pub use Rattle.go_points.specs.declared.Colour.{Colour}
pub use Rattle.go_points.specs.declared.Colour.TheVariants.{Black, White}
pub use Rattle.go_points.specs.declared.TheConstants.{MAX_SIZE}
pub use Rattle.go_points.specs.declared.Turn.TheVariants.{At}
unfoldable pub use Rattle.stone_key.specs.Key.{key_of}
pub use Rattle.go_turns.proofs.Repeats.{no_element, no_position}
pub use Rattle.go_turns.specs.History.{has_occurred, repeats, place_in, HasNoneOf}
pub use Rattle.go_turns.specs.Record.{colouring_of, Did, play_of}
pub use Rattle.target_game.specs.Answers.{leaf, none, replies, reply, turn, AnswerTree, ReplyTrees, all_answer, each_once, same_plies, turns_of}
pub use Rattle.target_game.specs.Kept.{kept_game, kept_state, kept_line}
unfoldable pub use Rattle.target_game.specs.Kept.{turn_from}
pub use Rattle.target_game.specs.Left.{turns_due, NoneLegal, Takes, line_after, IsNextMove}
pub use Rattle.target_game.specs.Legal.{legal, holds_point}
unfoldable pub use Rattle.target_game.specs.Legal.{legal_turns}
pub use Rattle.target_game.specs.Next.{next}
pub use Rattle.target_game.specs.Over.{over, targets_stand}
pub use Rattle.target_game.specs.Private.Buckets.{bucket_count, AreChained, history_most}
unfoldable pub use Rattle.target_game.specs.Private.Buckets.{bucket_at}
pub use Rattle.target_game.specs.Private.Tally.{before_turns, with_below}
unfoldable pub use Rattle.target_game.specs.Private.Tally.{with_turns, tally_of}
pub use Rattle.target_game.specs.Problem.{one_colour, problem_on}
unfoldable pub use Rattle.target_game.specs.Problem.{problem_of}
pub use Rattle.target_game.specs.State.{GameState, Line, Game}
pub use Rattle.target_game.specs.Wins.{some_or_each, Wins, is_winner}
unfoldable pub use Rattle.target_game.specs.Wins.{wins, nodes}
pub use Rattle.target_game.specs.declared.TheConstants.{MAX_HISTORY}
pub use Rattle.target_game.specs.declared.bad_problem.BadProblem.TheVariants.{BadPlace}
pub use Rattle.target_game.specs.declared.child.Child.{Child}
