-- The audit as the program makes it. These definitions are for private calls.
--     IsFound n o e      the program's fault is the one that is due; if memory was refused, nothing is said
--     Tells n given turns      the set holds exactly these turns
use Rattle.std.specs.Prelude.{◌≡◌, ℕ, Bool, List, Option, Some, None}
use Rattle.go_points.specs.declared.Turn.{Turn}
use Rattle.go_points.specs.declared.Turn.TheVariants.{Pass, At}
use Rattle.go_points.specs.Ply.{Ply, ply_of, holds_ply}
use Rattle.go_points.specs.Points.{holds_place}
use Rattle.tsumego_problem.specs.Walked.{StandsOn}
use Rattle.solution_tree.specs.declared.fault.AuditFault.{AuditFault}
use Rattle.solution_tree.specs.declared.given.Given.{Given}
use Rattle.solution_tree.specs.Audit.{Why, Fault}
use Rattle.solution_tree.specs.Faults.{why_value}

abbrev pub IsFoundOf : Option Fault → ℕ → Option Why → Type 0
IsFoundOf o node None = Unit {0}
IsFoundOf o node (Some why) = o ≡ Some (record { node = node; why = why })

abbrev pub IsFound : ℕ → Option Fault → AuditFault → Type 0
IsFound n o e = IsFoundOf o e.node (why_value n e.why)

-- Is the turn in the set?
abbrev pub given_has : Given → Turn → Bool
given_has given Pass = given.pass
given_has given (At p) = holds_place given.points p

abbrev pub Tells : ℕ → Given → List Ply → Type 0
Tells n given turns = (t : Turn) → StandsOn n (ply_of n t) → given_has given t ≡ holds_ply turns (ply_of n t)
