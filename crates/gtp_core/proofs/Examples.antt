-- Lines and sessions of GTP, computed by the definitions.
use Rattle.gtp_core.proofs.Common.{◌≡◌, [], ◌∷◌, ◌++◌, codes, Some, Ok, Err, refl, raw_lines, request_of, bad_line, success, failure, size_of, answers, refuses, first_session}
use Rattle.go_points.specs.declared.Colour.TheVariants.{Black}
use Rattle.go_points.specs.declared.vertex.Vertex.TheVariants as vertex
use Rattle.gtp_core.specs.declared.command.Command.TheVariants as command
use Rattle.gtp_core.specs.declared.refusal.Refusal.TheVariants as refusal
use Rattle.gtp_core.specs.Lines.{number_named, nothing, asks}
use Rattle.gtp_core.specs.Commands.{order_of}
use Rattle.gtp_core.specs.Serving.{due_of, ends}

lines_end_with_line_feeds : raw_lines (codes "name" ++ 10 ∷ codes "quit" ++ 10 ∷ []) ≡ codes "name" ∷ codes "quit" ∷ [] ∷ []
lines_end_with_line_feeds = refl

words_with_an_id : request_of (codes "12 play b c3") ≡ asks (codes "12") (codes "play" ∷ codes "b" ∷ codes "c3" ∷ [])
words_with_an_id = refl

comments_count_for_nothing : request_of (codes "  # play b c3") ≡ nothing
comments_count_for_nothing = refl

greatest_id : (number_named (codes "2147483647") ≡ Some 2147483647) × (request_of (codes "2147483648 name") ≡ bad_line)
greatest_id = (refl, refl)

largest_board : (order_of 19 (codes "boardsize" ∷ codes "25" ∷ []) ≡ Ok (command.NewBoard 25)) × (order_of 19 (codes "boardsize" ∷ codes "26" ∷ []) ≡ Err refusal.UnacceptableSize)
largest_board = (refl, refl)

columns_leave_out_i : order_of 19 (codes "play" ∷ codes "B" ∷ codes "J1" ∷ []) ≡ Ok (command.Play Black (vertex.At 8 0))
columns_leave_out_i = refl

unknown_words : (order_of 19 (codes "plai" ∷ []) ≡ Err refusal.UnknownCommand) × (order_of 19 (codes "play" ∷ codes "b" ∷ []) ≡ Err refusal.SyntaxError)
unknown_words = (refl, refl)

first_board : size_of first_session ≡ 19
first_board = refl

first_answers : (due_of first_session (order_of 19 (codes "name" ∷ [])) ≡ answers (codes "tsumego") first_session) × (due_of first_session (order_of 19 (codes "quit" ∷ [])) ≡ ends) × (due_of first_session (order_of 19 (codes "undo" ∷ [])) ≡ refuses refusal.CannotUndo)
first_answers = (refl, refl, refl)

replies : (success (codes "4") (codes "B3") ≡ codes "=4 B3" ++ 10 ∷ 10 ∷ []) × (failure [] (codes "syntax error") ≡ codes "? syntax error" ++ 10 ∷ 10 ∷ [])
replies = (refl, refl)
