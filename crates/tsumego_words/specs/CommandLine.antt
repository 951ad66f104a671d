-- The command line: what the words ask for, by the grammar that `clap` is given.
use Rattle.std.specs.Prelude.{◌≡◌, ◌≤◌, ℕ, Bool, true, false, List, [], ◌∷◌, codes, Option, Some, None, option_and_then, if◌then◌else◌}
use Rattle.std.specs.Option.{option_map_or}
use Rattle.std.specs.Str.{bytes_eq}
use Rattle.std.specs.Str.Parse.{digits_value, without_leading_plus}
use Rattle.clap.specs.Words.{App, Kinds, Row, Rule, Shape, Text, fault_of, new_rule, one_of, subcommand_of}
use Rattle.clap.specs.Simple.{new_shape}
use Rattle.clap.specs.ValueTests.{is_unsigned_in}
use Rattle.clap.specs.declared.builder.action.ArgAction.TheVariants.{SetTrue}
use Rattle.clap.specs.declared.builder.value_parser.ValueParser.TheVariants.{Unsigned}
use Rattle.tsumego_words.specs.declared.command_line.Command.{Command}
use Rattle.tsumego_words.specs.declared.command_line.Command.TheVariants.{Check, Within, Audit, Solve, Gtp}
use Rattle.tsumego_words.specs.declared.command_line.NoCommand.{NoCommand}
use Rattle.tsumego_words.specs.declared.command_line.NoCommand.TheVariants.{Words, Memory}

-- The greatest number of turns, and of states, that may be asked for.
abbrev pub most_turns : ℕ
most_turns = 200

abbrev pub most_nodes : ℕ
most_nodes = 4294967295

-- The greatest number of steps, and of table entries, that may be asked for. The least is one of each.
abbrev pub most_steps : ℕ
most_steps = 10000000

abbrev pub most_entries : ℕ
most_entries = 1000000

-- `within` has the number of turns, which is required, and an option for the number of states.
abbrev pub turns_rule : Rule
turns_rule = record (new_rule (codes "K")) { required = true; parser = Some (Unsigned 0 most_turns) }

-- an option for a number, with the text that stands for it if it is not given
abbrev pub number_rule : Text → Text → ℕ → ℕ → Rule
number_rule name default least most =
    record (new_rule name) { long = Some name; value_names = 1; defaults = default ∷ []; parser = Some (Unsigned least most) }

abbrev pub nodes_rule : Rule
nodes_rule = number_rule (codes "nodes") (codes "1000000") 0 most_nodes

-- `solve` has an option for the number of steps, one for the entries of the table, a flag that asks for the claim, and one that asks for it as one lemma.
abbrev pub steps_rule : Rule
steps_rule = number_rule (codes "steps") (codes "1000000") 1 most_steps

abbrev pub table_rule : Rule
table_rule = number_rule (codes "table") (codes "100000") 1 most_entries

abbrev pub flag_rule : Text → Rule
flag_rule name = record (new_rule name) { long = Some name; action = Some SetTrue }

abbrev pub proof_rule : Rule
proof_rule = flag_rule (codes "proof")

abbrev pub lift_rule : Rule
lift_rule = flag_rule (codes "lift")

abbrev pub within_shape : Shape
within_shape = record (new_shape (codes "within")) { rules = turns_rule ∷ nodes_rule ∷ [] }

abbrev pub solve_shape : Shape
solve_shape = record (new_shape (codes "solve")) { rules = steps_rule ∷ table_rule ∷ proof_rule ∷ lift_rule ∷ [] }

-- The program. It has a version, and one of its subcommands has to be named.
abbrev pub grammar : App
grammar = record {
  top = record (new_shape (codes "tsumego")) { is_leaf = false; subcommand_required = true; has_version = true };
  subs = new_shape (codes "check") ∷ within_shape ∷ new_shape (codes "audit") ∷ solve_shape ∷ new_shape (codes "gtp") ∷ [];
}

-- The number that the first value of an argument writes, if it is within these bounds.
abbrev pub number_in : ℕ → ℕ → Text → Option ℕ
number_in least most text =
    (if is_unsigned_in least most text then Some (digits_value 10 (without_leading_plus text)) else None)

abbrev pub number_of : Text → ℕ → ℕ → List Row → Option ℕ
number_of id least most rows = option_and_then (number_in least most) (one_of id rows)

-- A flag is on if its value is `true`.
abbrev pub flag_of : Text → List Row → Bool
flag_of id rows = option_map_or (λ text. bytes_eq text (codes "true")) (one_of id rows) false

abbrev pub within_of : Option ℕ → Option ℕ → Option Command
within_of (Some turns) (Some nodes) = Some (Within turns nodes)
within_of _ _ = None

abbrev pub solve_of : Option ℕ → Option ℕ → Bool → Bool → Option Command
solve_of (Some steps) (Some table) proof lift = Some (Solve steps table proof lift)
solve_of _ _ proof lift = None

-- The command that a subcommand and its matches name.
abbrev pub command_named : Text → List Row → Option Command
command_named name rows =
    (if bytes_eq name (codes "check") then Some Check
    else (if bytes_eq name (codes "within") then within_of (number_of (codes "K") 0 most_turns rows) (number_of (codes "nodes") 0 most_nodes rows)
    else (if bytes_eq name (codes "audit") then Some Audit
    else (if bytes_eq name (codes "solve") then solve_of (number_of (codes "steps") 1 most_steps rows) (number_of (codes "table") 1 most_entries rows) (flag_of (codes "proof") rows) (flag_of (codes "lift") rows)
    else (if bytes_eq name (codes "gtp") then Some Gtp
    else None)))))

-- No command if there is a fault.
abbrev pub unless_faulty : Kinds → Option Command → Option Command
unless_faulty [] command = command
unless_faulty (_ ∷ _) command = None

-- The command that the words give. The first word is the program's name. It is the command of the subcommand that `clap` finds in
-- the words, if it finds no fault.
unfoldable pub command_of : List Text → Option Command
command_of words = unless_faulty (fault_of grammar words) (option_and_then (λ p. command_named p.0 p.1) (subcommand_of grammar words))

-- `clap` finds a fault in the words, or a request for help or the version.
abbrev pub HasFault : List Text → Type 0
HasFault words = fault_of grammar words ≡ [] → ⊥

-- The numbers of a command are within their ranges.
abbrev pub FitsRanges : Command → Type 0
FitsRanges Check = Unit {0}
FitsRanges (Within turns nodes) = (turns ≤ most_turns) × (nodes ≤ most_nodes)
FitsRanges Audit = Unit {0}
FitsRanges (Solve steps table proof lift) = (1 ≤ steps) × (steps ≤ most_steps) × (1 ≤ table) × (table ≤ most_entries)
FitsRanges Gtp = Unit {0}

-- The command serves a session, which answers each line by itself.
abbrev pub is_session : Command → Bool
is_session Gtp = true
is_session other = false

-- The words are at fault; memory was not refused.
abbrev pub IsWordsFault : NoCommand → Type 0
IsWordsFault (Words text) = Unit {0}
IsWordsFault Memory = ⊥
