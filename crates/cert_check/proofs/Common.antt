-- The names that several proofs of this crate cite, passed on from one place. Declares nothing.
pub use Rattle.std.proofs.Common.{◌≡◌, sym, ◌∙◌, List, ap, [], length, ℕ, ◌∷◌, refl, subst, arith, ◌++◌, Some, Bool, true, false, Option, suc, None, ◌+◌, ◌≤◌, rules, ◌&&◌, IsTrue, zero, ◌<◌, not, inl, inr, nat_lt, nat_eq, map, ◌⊎◌, ◌||◌, ◌*◌, append_assoc, option_map, filter, if◌then◌else◌, reverse, Ok, append-nil, length-append, nat_le, ◌-◌, eq-eqb, eqb-true, lt-ltb, ltb-true, Err, Greater, IfSome, Less, cond, drop, Equal, Ordering, Result, get_or, sum_by, OnSome, le-leb, take, Bor, Box, Global, IfErr, IfOk, IsSome, Vec, ap₂, is_some, leb-true, set, slice_index_or, ◌^◌}
pub use Rattle.std.proofs.Math.Seq.{drop-length}
pub use Rattle.std.proofs.lemmas.List.{map-append, reverse-append}
pub use Rattle.std.proofs.lemmas.List.Elements.{All-push}
pub use Rattle.std.proofs.lemmas.List.Sums.{sum_by-cons}
pub use Rattle.std.proofs.lemmas.Option.{get_or_from_slice_get, slice_get_within}
pub use Rattle.std.specs.List.{list_all, range_with_len, Contains, list_any}
pub use Rattle.std.specs.Ordering.{is_lt, ordering_reverse}
pub use Rattle.std.specs.Prelude.{slice_get, is_none}
pub use Rattle.go_points.proofs.Lists.{or_left}
pub use Rattle.go_points.specs.Equal.{same_cells_eq, same_cells_symm}
pub use Rattle.go_points.specs.Grid.{same_cells, opponent_of, same_colour, cell_at, points, same_cell}
pub use Rattle.go_points.specs.Liberty.{all_reach_empty}
unfoldable pub use Rattle.go_points.specs.Move.{after_move}
pub use Rattle.go_points.specs.Order.{text_order, same_cells_ties}
pub use Rattle.go_points.specs.Place.{Place}
pub use Rattle.go_points.specs.Ply.{Ply, move, pass, ply_of, same_ply}
pub use Rattle.go_points.specs.Private.Sides.{side_of-whole}
pub use Rattle.go_points.specs.declared.Cell.{Cell}
pub use Rattle.go_points.specs.declared.Cell.TheVariants.{Empty}
pub use Rattle.go_points.specs.declared.Colour.{Colour}
pub use Rattle.go_points.specs.declared.Colour.TheVariants.{Black, White}
pub use Rattle.go_points.specs.declared.TheConstants.{MAX_SIZE}
pub use Rattle.go_points.specs.declared.Turn.{Turn}
pub use Rattle.go_points.specs.declared.Turn.TheVariants.{At, Pass}
pub use Rattle.go_turns.specs.History.{has_occurred, repeats}
pub use Rattle.target_game.proofs.Due.{turns_begun}
pub use Rattle.target_game.proofs.Loops.{AllAfter, all_more, all_no, all_yes}
pub use Rattle.target_game.proofs.Tallies.{if_ok_map}
pub use Rattle.target_game.proofs.Winning.{same_ply_eq}
pub use Rattle.target_game.specs.Answers.{AnswerTree, leaf, all_answer, each_once, replies, same_plies, turn, turns_of}
pub use Rattle.target_game.specs.Laws.{IsProblem}
pub use Rattle.target_game.specs.Left.{turns_due}
pub use Rattle.target_game.specs.Legal.{legal, holds_point}
unfoldable pub use Rattle.target_game.specs.Legal.{legal_turns}
pub use Rattle.target_game.specs.Next.{next}
pub use Rattle.target_game.specs.Over.{over}
pub use Rattle.target_game.specs.State.{GameState, GameProblem, start, Game, state_alone, state_with}
pub use Rattle.target_game.specs.Wins.{Wins, is_winner}
unfoldable pub use Rattle.target_game.specs.Wins.{wins}
pub use Rattle.proof_cert.proofs.Certificates.{node_of_all, node_of_play, node_of_use, node_of_won}
pub use Rattle.proof_cert.proofs.Unique.{Writes, AllWrite}
pub use Rattle.proof_cert.specs.Certificate.{claim_of, lemma_of, replies_of}
unfoldable pub use Rattle.proof_cert.specs.Certificate.{node_of}
pub use Rattle.proof_cert.specs.Claim.{Head, Claim, Node, by_lemma, won, Branches, all, branch, max_nodes, no_branch, play, node_count, Lemma, heads_of, max_listed, branch_turns, max_depth, IsWithinLimits, depth_of, cells_before, is_ascending, node_count_below, depth_below, listed_count, max_lemmas, AreShallow}
pub use Rattle.proof_cert.specs.Given.{line_answer}
pub use Rattle.proof_cert.specs.Held.{Held, held_gives}
pub use Rattle.proof_cert.specs.Lines.{Line, end_line, main_line, not_line, lemma_line, use_line, all_line, header_line, play_line, won_line, had_line, reply_line, had_of, lines_of, node_lines, not_of, fitting, line_fits, branch_lines, had_spelled, lemmas_lines, lemma_lines, turn_fits}
pub use Rattle.proof_cert.specs.Stage.{line_value}
pub use Rattle.proof_cert.specs.Text.{is_spelled, lines, numbers_spelled, text, text_of_lines}
pub use Rattle.proof_cert.specs.declared.certificate.Certificate.{Certificate}
pub use Rattle.proof_cert.specs.declared.certificate.Node.TheVariants.{Use}
pub use Rattle.proof_cert.specs.declared.source.SourceFault.{SourceFault}
pub use Rattle.cert_check.specs.Body.{Why, Body, lemma_start, is_known, due_replies, ask, result_of, limit, list_order, main_body, is_open, is_to_move, nowhere, all_fault, lemma_body, is_listed, lemma_body_by, play_fault, reply_fault, use_fault, lemma_at, lives, main_body_by, malformed, size_differs, won_fault, head_fault, replies_differ, same_state, lemma_not_lower, listed_not_passed_on, listed_occurred, needed_not_occurred, not_listed, not_won, root_without_liberty, state_differs}
pub use Rattle.cert_check.specs.Checked.{IsChecked, CheckedClaim, verdict_on}
pub use Rattle.cert_check.specs.Checks.{Accepts, AcceptsBy, Answers, RejectsAt, AsksTo, FailsAt}
pub use Rattle.cert_check.specs.Expand.{answers_behind, expand_node, first_turn_of, answer_at, first_turn}
pub use Rattle.cert_check.specs.Laws.{LiftedClaimsAreRight}
pub use Rattle.cert_check.specs.Lift.{play_results, reply_results, IsLifted, IsLiftedHead, play_results_below, reply_results_below}
pub use Rattle.cert_check.specs.Meaning.{height_of, IsSpokenOf, KeepsPromises, height_by, heights_behind, root_after}
pub use Rattle.cert_check.specs.Parts.{line_values, node_value, head_of}
pub use Rattle.cert_check.specs.Private.Ascending.{Ascends, apart, is_it}
pub use Rattle.cert_check.specs.Private.Heard.{Heard}
pub use Rattle.cert_check.specs.Private.Inside.{node_fault, owed_by, Follows, Inside, node_next, phase_of}
pub use Rattle.cert_check.specs.Private.Judging.{machine_of, heading_of, answering, AwaitsNode, IsReady, IsReadyFor, IsToldBy, had_more, listed_more, phase_held}
pub use Rattle.cert_check.specs.Private.Known.{AreKnown, HasStart, IsKept, SameMembers}
pub use Rattle.cert_check.specs.Private.Places.{ArePlaced}
pub use Rattle.cert_check.specs.Private.Results.{is_past, gathered, joined, node_at, reversed, AreOpen, IsPlayable, of_node, ArePlayable, Gathered, claim_with, due_at, left_at, nothing, version_for}
pub use Rattle.cert_check.specs.Stage.{why_value, Rejects}
pub use Rattle.cert_check.specs.Validity.{FitsNode, AreValidLemmas, FitsBranches, MayPlay, Serves, IsValidLemma, IsValid}
pub use Rattle.cert_check.specs.Verdict.{Machine, goes_on, stops, taken, Heading, last_of, node_taken, Owed, Phase, body_of, goes_if, had_taken, listing_had, listing_not, not_taken, phase_taken, AfterLine, after_step, begun, reply_due, verdict_from, counted, done, end_taken, ended, ended_at, header, header_taken, listed_taken, node_due, opening, opening_taken, owing, reply_taken, there, accepted, is_after, verdict, rejected, lemma_fault, Verdict, verdict_by}
pub use Rattle.cert_check.specs.declared.judge.Judge.{Judge}
pub use Rattle.cert_check.specs.declared.lines.NodeLine.{NodeLine}
pub use Rattle.cert_check.specs.declared.lines.NodeLine.TheVariants.{All, Play, Won}
pub use Rattle.cert_check.specs.declared.results.Later.{Later}
