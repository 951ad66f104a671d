-- The commands (those of GTP 2, and this project's own, whose names begin with `tsu-`): their names, and what the words of a line ask for.
--     name_of word      the command with this name
--     order_of n words      what the words ask for on a board of n rows, or why they are refused
use Rattle.std.specs.Prelude.{ℕ, Bool, true, false, ◌&&◌, nat_le, List, [], ◌∷◌, ◌++◌, map, drop, codes, Option, Some, None, is_some, Result, Ok, Err, if◌then◌else◌}
use Rattle.std.specs.Option.{option_map_or}
use Rattle.std.specs.Str.{bytes_eq}
use Rattle.go_points.specs.declared.TheConstants.{MAX_SIZE}
use Rattle.go_points.specs.declared.vertex.Vertex.{Vertex}
use Rattle.go_points.specs.declared.vertex.Vertex.TheVariants as vertex
use Rattle.go_points.specs.Grid.{points}
use Rattle.go_points.specs.Gtp.{vertex_named}
use Rattle.go_points.specs.Place.{Place, place_of}
use Rattle.go_points.specs.Points.{with_place}
use Rattle.gtp_core.specs.declared.name.CommandName.{CommandName}
use Rattle.gtp_core.specs.declared.name.CommandName.TheVariants as name
use Rattle.gtp_core.specs.declared.command.Command.{Command}
use Rattle.gtp_core.specs.declared.command.Command.TheVariants as command
use Rattle.gtp_core.specs.declared.command.Saying.{Saying}
use Rattle.gtp_core.specs.declared.command.Saying.TheVariants as say
use Rattle.gtp_core.specs.declared.refusal.Refusal.{Refusal}
use Rattle.gtp_core.specs.declared.refusal.Refusal.TheVariants as refusal
use Rattle.gtp_core.specs.Lines.{number_named}
use Rattle.gtp_core.specs.Words.{colour_named, place_at}

-- The names, in the order in which they are listed.
abbrev pub table : List (List ℕ × CommandName)
table =
    (codes "protocol_version", name.ProtocolVersion) ∷ (codes "name", name.Name) ∷ (codes "version", name.Version)
    ∷ (codes "known_command", name.KnownCommand) ∷ (codes "list_commands", name.ListCommands) ∷ (codes "quit", name.Quit)
    ∷ (codes "boardsize", name.Boardsize) ∷ (codes "clear_board", name.ClearBoard) ∷ (codes "komi", name.Komi)
    ∷ (codes "play", name.Play) ∷ (codes "genmove", name.Genmove) ∷ (codes "undo", name.Undo) ∷ (codes "showboard", name.Showboard)
    ∷ (codes "tsu-target", name.TsuTarget) ∷ (codes "tsu-region", name.TsuRegion) ∷ (codes "tsu-solve", name.TsuSolve)
    ∷ (codes "tsu-within", name.TsuWithin) ∷ []

abbrev pub named_in : List (List ℕ × CommandName) → List ℕ → Option CommandName
named_in [] word = None
named_in (entry ∷ entries) word = (if bytes_eq word entry.0 then Some entry.1 else named_in entries word)

abbrev pub name_of : List ℕ → Option CommandName
name_of word = named_in table word

-- Lines with line feeds between them.
abbrev pub joined_lines : List (List ℕ) → List ℕ
joined_lines [] = []
joined_lines (l ∷ []) = l
joined_lines (l ∷ m ∷ ms) = l ++ 10 ∷ joined_lines (m ∷ ms)

-- The texts that some commands answer whatever the session is.
abbrev pub said : Saying → List ℕ
said say.Nothing = []
said say.ProtocolVersion = codes "2"
said say.Name = codes "tsumego"
said say.Version = codes "1"
said say.Yes = codes "true"
said say.No = codes "false"
said say.Names = joined_lines (map (λ entry. entry.0) table)

abbrev pub truth : Bool → Saying
truth true = say.Yes
truth false = say.No

-- The texts of the refusals.
abbrev pub refusal_text : Refusal → List ℕ
refusal_text refusal.SyntaxError = codes "syntax error"
refusal_text refusal.UnknownCommand = codes "unknown command"
refusal_text refusal.UnacceptableSize = codes "unacceptable size"
refusal_text refusal.IllegalMove = codes "illegal move"
refusal_text refusal.CannotUndo = codes "cannot undo"
refusal_text refusal.BadTargets = codes "bad targets"
refusal_text refusal.NoProblem = codes "no problem"

abbrev pub Order : Type 0
Order = Result Command Refusal

abbrev pub syntax_error : Order
syntax_error = Err refusal.SyntaxError

-- The order that a value gives; no value is a syntax error.
abbrev pub with_value : {A : Type 0} → Option A → (A → Order) → Order
with_value value order = option_map_or order value syntax_error

-- The order by the first word, as it is read. Too few words are a syntax error; further words are ignored.
abbrev pub with_first_word : {A : Type 0} → (List ℕ → Option A) → List (List ℕ) → (A → Order) → Order
with_first_word read [] order = syntax_error
with_first_word read (word ∷ words) order = with_value (read word) order

abbrev pub size_order : ℕ → Order
size_order n = (if nat_le 1 n && nat_le n MAX_SIZE then Ok (command.NewBoard n) else Err refusal.UnacceptableSize)

abbrev pub max_turns : ℕ
max_turns = 200

abbrev pub within_order : ℕ → Order
within_order k = (if nat_le k max_turns then Ok (command.Within k) else syntax_error)

-- The point at a vertex; `None` for a pass and off the board.
abbrev pub point_at : ℕ → Option Vertex → Option Place
point_at n (Some (vertex.At column row)) = place_at n column row
point_at n _ = None

-- A set with the points of all the words; `None` if one of them names no point of the board.
abbrev pub with_points : ℕ → List Place → List (List ℕ) → Option (List Place)
with_points n set [] = Some set
with_points n set (word ∷ words) = elim (point_at n (vertex_named word)) [ None ↦ None | Some p ↦ with_points n (with_place set p) words ]

-- All points of a board.
abbrev pub whole_board : ℕ → List Place
whole_board n = map (place_of n) (points n)

-- If there are no words, they name the whole board.
abbrev pub region_named : ℕ → List (List ℕ) → Option (List Place)
region_named n [] = Some (whole_board n)
region_named n (word ∷ words) = with_points n [] (word ∷ words)

-- What the further words ask of a command.
abbrev pub order_named : ℕ → CommandName → List (List ℕ) → Order
order_named n name.ProtocolVersion words = Ok (command.Say say.ProtocolVersion)
order_named n name.Name words = Ok (command.Say say.Name)
order_named n name.Version words = Ok (command.Say say.Version)
order_named n name.KnownCommand words = with_first_word Some words (λ word. Ok (command.Say (truth (is_some (name_of word)))))
order_named n name.ListCommands words = Ok (command.Say say.Names)
order_named n name.Quit words = Ok command.Quit
order_named n name.Boardsize words = with_first_word number_named words size_order
order_named n name.ClearBoard words = Ok command.ClearBoard
order_named n name.Komi words = with_first_word Some words (λ word. Ok (command.Say say.Nothing))
order_named n name.Play words = with_first_word colour_named words (λ k. with_first_word vertex_named (drop 1 words) (λ v. Ok (command.Play k v)))
order_named n name.Genmove words = with_first_word colour_named words (λ k. Ok (command.Genmove k))
order_named n name.Undo words = Ok command.Undo
order_named n name.Showboard words = Ok command.Showboard
order_named n name.TsuTarget words = with_value (with_points n [] words) (λ set. Ok (command.SetTargets set))
order_named n name.TsuRegion words = with_value (region_named n words) (λ set. Ok (command.SetRegion set))
order_named n name.TsuSolve words = with_first_word colour_named words (λ k. Ok (command.Solve k))
order_named n name.TsuWithin words = with_first_word number_named words within_order

-- An id without any other words is too few words.
abbrev pub order_of : ℕ → List (List ℕ) → Order
order_of n [] = syntax_error
order_of n (word ∷ words) = option_map_or (λ c. order_named n c words) (name_of word) (Err refusal.UnknownCommand)
