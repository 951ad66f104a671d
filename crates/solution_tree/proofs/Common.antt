-- The names that several proofs of this crate cite, passed on from one place. Declares nothing.
pub use Rattle.std.proofs.Common.{◌≡◌, ◌+◌, ap, arith, ℕ, List, ◌∙◌, [], subst, sym, length, ◌∷◌, IsTrue, refl, ◌≤◌, rules, true, ◌++◌, false, Bool, Option, suc, ◌&&◌, ◌*◌, ◌<◌, None, Some, Bor, Box, Global, Result, Vec, drop, get_or, inl, nat_eq, nat_lt, not, zero, ◌||◌, Err, Ok, eq-eqb, inr}
pub use Rattle.std.proofs.lemmas.Bool.Decides.{nat_tests}
pub use Rattle.std.proofs.lemmas.List.{append-nil, append_assoc}
pub use Rattle.std.proofs.lemmas.List.Folds.{list_any-append}
pub use Rattle.std.specs.List.{list_all}
pub use Rattle.std.specs.Option.{option_or}
pub use Rattle.std.specs.Prelude.{is_none, cond, find, option_map, unwrap_or}
pub use Rattle.go_points.proofs.Lists.{and_right, and_left, and_both, all_at, all_from, not_true, or_right}
pub use Rattle.go_points.specs.Grid.{same_colour, opponent_of}
pub use Rattle.go_points.specs.Ply.{Ply, ply_of, holds_ply, pass, move, same_ply}
pub use Rattle.go_points.specs.declared.Colour.{Colour}
pub use Rattle.go_points.specs.declared.Turn.{Turn}
pub use Rattle.target_game.proofs.Winning.{lists_the_legal, same_ply_eq}
pub use Rattle.target_game.specs.Answers.{AnswerTree, reply_sizes, replies, reply, turn, ReplyTrees, none, leaf, each_once, same_plies, turns_of}
pub use Rattle.target_game.specs.Left.{turns_due}
pub use Rattle.target_game.specs.Legal.{legal}
unfoldable pub use Rattle.target_game.specs.Legal.{legal_turns}
pub use Rattle.target_game.specs.Next.{next}
pub use Rattle.target_game.specs.Over.{over}
pub use Rattle.target_game.specs.State.{GameState, Line, start, GameProblem, Game}
pub use Rattle.target_game.specs.Wins.{is_winner}
pub use Rattle.sgf_text.specs.Text.{is_forest, are_nodes}
pub use Rattle.sgf_text.specs.Trees.{forest_of, Node, tree_then, GameTree, Forest, no_tree, forest_count}
pub use Rattle.tsumego_problem.specs.Below.{Carries, Shows, ShowsEach, children_of}
pub use Rattle.tsumego_problem.specs.Canonical.{rest_of, forest_of_replies}
pub use Rattle.tsumego_problem.specs.Walk.{problem_node}
pub use Rattle.proof_cert.proofs.Certificates.{node_of_play}
pub use Rattle.proof_cert.specs.Certificate.{claim_of}
unfoldable pub use Rattle.proof_cert.specs.Certificate.{node_of}
pub use Rattle.proof_cert.specs.Claim.{play, Branches, all, branch, Head, Lemma, by_lemma, heads_of, no_branch, won}
pub use Rattle.cert_check.specs.Body.{Body, lemma_body, main_body}
pub use Rattle.cert_check.specs.Checked.{CheckedClaim, IsChecked}
pub use Rattle.cert_check.specs.Expand.{expand_branches, expand_node, answer_at, answers_behind}
pub use Rattle.cert_check.specs.Validity.{AreValidLemmas, FitsBranches, FitsNode}
pub use Rattle.solution_tree.specs.Answer.{replies_of}
unfoldable pub use Rattle.solution_tree.specs.Answer.{answer_of}
pub use Rattle.solution_tree.specs.Audit.{faults_below, faults_of, first_line, missing, rest_fault, Fault, Why, at_or, audit, has_children, has_several, reply_missing, reply_twice, turns_in, with_turn, after_turn, ask, is_new, not_won, reply_fault, several_answers, then_all, turn_fault, unless_fault}
pub use Rattle.solution_tree.specs.Below.{nodes_of, node_then, Nodes, count_nodes, no_node, carried, sequence, nodes_below, nodes_in}
pub use Rattle.solution_tree.specs.Private.Asked.{Tells, IsFound}
pub use Rattle.solution_tree.specs.Questions.{follows, Leads}
pub use Rattle.solution_tree.specs.Private.Opened.{lemma_count, uses_below, tree_at, all_below, branches_at, expanded, lemma_answers, AreOpen, CanGoOn, CanOpen, Goes, closed, due, later_of, replies_then, whole}
pub use Rattle.solution_tree.specs.Private.Written.{is_single}
pub use Rattle.solution_tree.specs.declared.answer.Answer.{Answer}
pub use Rattle.solution_tree.specs.declared.opened.OpenTurn.{OpenTurn}
pub use Rattle.solution_tree.specs.declared.opened.OpenTurn.TheVariants.{Made, Reply}
