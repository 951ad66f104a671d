-- What the program's faults of an audit say, on a board of n rows and n columns.
--     why_value n w      why a node is refused; None if memory was refused
--     IsFault n r e      the fault is that of the audit's result r; if memory was refused, nothing is said of the tree
use Rattle.std.specs.Prelude.{◌≡◌, ℕ, Option, Some, None, Result, Err}
use Rattle.go_points.specs.declared.Colour.{Colour}
use Rattle.go_points.specs.Ply.{ply_of}
use Rattle.solution_tree.specs.declared.fault.AuditWhy as code
use Rattle.solution_tree.specs.declared.fault.AuditWhy.TheVariants.{NoTurn, WrongColour, TurnBarred, ReplyMissing, ReplyTwice, NotWon, AfterTheEnd, SeveralAnswers, Memory}
use Rattle.solution_tree.specs.declared.fault.AuditFault.{AuditFault}
use Rattle.solution_tree.specs.Audit.{Why, Fault, no_turn, wrong_colour, turn_barred, reply_missing, reply_twice, not_won, after_the_end, several_answers}

abbrev pub why_value : ℕ → code.AuditWhy → Option Why
why_value n NoTurn = Some no_turn
why_value n WrongColour = Some wrong_colour
why_value n TurnBarred = Some turn_barred
why_value n (ReplyMissing due) = Some (reply_missing (ply_of n due))
why_value n ReplyTwice = Some reply_twice
why_value n NotWon = Some not_won
why_value n AfterTheEnd = Some after_the_end
why_value n SeveralAnswers = Some several_answers
why_value n Memory = None

abbrev pub IsFaultOf : Result Colour Fault → ℕ → Option Why → Type 0
IsFaultOf r node None = Unit {0}
IsFaultOf r node (Some why) = r ≡ Err (record { node = node; why = why })

abbrev pub IsFault : ℕ → Result Colour Fault → AuditFault → Type 0
IsFault n r e = IsFaultOf r e.node (why_value n e.why)
