-- The names that several proofs of this crate cite, passed on from one place. Declares nothing.
pub use Rattle.std.proofs.Common.{◌≡◌, ap, ◌∙◌, sym, arith, ℕ, ◌<◌, refl, rules, ◌+◌, subst, ◌*◌, length, Some, ◌≤◌, true, [], ◌∷◌, List, None, map, Option, false, suc, Bool, Ok, get_or, ap₂, cond, Err, drop, ◌&&◌, ◌++◌, Result, option_and_then, zero, ◌-◌, option_map, take, ◌||◌, ◌≢◌, ltb-true, nat_le, ◌%◌, ◌/◌, is_none, position, eqb-true, if◌then◌else◌, is_some, map-id, mul-le-mul, slice_get, ◌^◌}
pub use Rattle.std.proofs.Math.Seq.{drop-cons}
pub use Rattle.std.proofs.lemmas.Bool.{and_parts, and_from, not-true, or_parts, false_from_ne_true, lt-ltb, not-false}
pub use Rattle.std.proofs.lemmas.Bool.Decides.{nat_tests}
pub use Rattle.std.proofs.lemmas.List.{append-nil, append_assoc, length-map, take_rest}
pub use Rattle.std.proofs.lemmas.List.Folds.{list_any-append}
pub use Rattle.std.proofs.lemmas.List.FromFn.{fill_by_all}
pub use Rattle.std.proofs.lemmas.List.Quantifiers.{position-Some}
pub use Rattle.std.proofs.lemmas.Nat.{div-mul-add, mod-mul-add, mul-add-lt}
pub use Rattle.std.specs.List.{list_all, range_with_len, All, list_any, prefix_len}
pub use Rattle.std.specs.Prelude.{codes, unwrap_or, not, filter, nat_lt, slice_index_or, ◌==◌, decimal, nat_eq}
pub use Rattle.std.specs.Str.{bytes_eq}
pub use Rattle.go_points.proofs.Cells.{same_cell_refl}
pub use Rattle.go_points.proofs.Lists.{and_left, and_right}
pub use Rattle.go_points.specs.Equal.{same_cells_eq, same_cells_refl}
pub use Rattle.go_points.specs.Grid.{points, cell_at, same_cell, same_cells, column_of, opponent_of, row_of}
unfoldable pub use Rattle.go_points.specs.Grid.{side_of}
pub use Rattle.go_points.specs.Liberty.{all_reach_empty}
unfoldable pub use Rattle.go_points.specs.Liberty.{first_without_liberty}
unfoldable pub use Rattle.go_points.specs.Move.{after_move}
pub use Rattle.go_points.specs.Place.{number_of, IsOn, Place, place_of, on_board}
pub use Rattle.go_points.specs.Ply.{move, pass, Ply}
pub use Rattle.go_points.specs.Points.{holds_place, with_place}
pub use Rattle.go_points.specs.declared.Cell.{Cell}
pub use Rattle.go_points.specs.declared.Cell.TheVariants.{Empty, Stone}
pub use Rattle.go_points.specs.declared.Colour.{Colour}
pub use Rattle.go_points.specs.declared.Colour.TheVariants.{Black, White}
pub use Rattle.go_points.specs.declared.TheConstants.{MAX_SIZE}
pub use Rattle.go_turns.proofs.Repeats.{no_element, no_position}
pub use Rattle.go_turns.specs.History.{place_in, has_occurred, repeats}
pub use Rattle.go_turns.specs.Record.{GameRecord, colouring_of, Did, Opens, opened, set_up}
pub use Rattle.target_game.proofs.Loops.{left_on}
pub use Rattle.target_game.proofs.Playing.{holds_numbered}
pub use Rattle.target_game.specs.Answers.{AnswerTree, leaf, none, replies, reply, turn}
pub use Rattle.target_game.specs.Legal.{holds_point}
pub use Rattle.target_game.specs.Next.{next}
pub use Rattle.target_game.specs.Problem.{first_refusal, refusals}
unfoldable pub use Rattle.target_game.specs.Problem.{problem_of}
pub use Rattle.target_game.specs.State.{GameProblem, Game, GameState, start}
pub use Rattle.sgf_text.specs.Nodes.{values_at, is_node, is_named}
pub use Rattle.sgf_text.specs.Trees.{Node, GameTree, Forest, no_tree, tree_count}
pub use Rattle.tsumego_problem.specs.Below.{below_in, below_line, children_of}
pub use Rattle.tsumego_problem.specs.Canonical.{point_values, property, changes, marks, point_value, root_node, changed_to, canonical, changes_along, colour_name, history_nodes, past_nodes, solution, turn_node, verdict_text}
pub use Rattle.tsumego_problem.specs.Laws.{IsProblem, each_new}
pub use Rattle.tsumego_problem.specs.Private.Named.{Adds, points_in}
pub use Rattle.tsumego_problem.specs.Values.{points_of, points_named, inside, point_at, points_of_each, trim, turn_in, digits_value, equal, number_named, rectangle, size_in, size_named, skip_white}
pub use Rattle.tsumego_problem.specs.Walk.{is_marked, walk_node, Walk, assigned, main_line, has_no_liberty, node_fault, ◌>>=◌, are_targets, history_limit, points_at, problem_at, has_setup, is_empty, late_fault, opening, set_to, share_point, targets_at, turn_at, board_size, changed, is_go, joined_by, line_below, player_at, problem_node, region_at, root_of, unless, board_of, changed_by, first_fault, has, problem_on, problem_within, walk, when, colour_of, has_turn, is_bad, moved_to, turned}
pub use Rattle.tsumego_problem.specs.Walked.{walk_of, walk_to_mark, HasReached, IsHistory}
pub use Rattle.tsumego_problem.specs.declared.fault.ProblemFault.{ProblemFault}
