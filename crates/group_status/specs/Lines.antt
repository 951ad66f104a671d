-- What is written of a proved group: the first line, and the same in the data.
--     proved_text, won_text      the line with its name, its word or winner, and its condition
--     status_fields, winner_fields      what stands for it in the data
use Rattle.std.specs.Prelude.{◌≡◌, ℕ, List, [], Option, Some, None, ◌++◌, codes}
use Rattle.go_points.specs.declared.Colour.{Colour}
use Rattle.go_points.specs.Place.{Place}
use Rattle.group_words.specs.declared.side.Side.{Side}
use Rattle.group_words.specs.Sides.{colour_of}
use Rattle.tool_parts.specs.Says.{colour_text, letter_text}
use Rattle.proved_groups.specs.Proven.{problem_of, problem_by_move, supposed_of, supposed_by_move, SaysEnd, SaysStatus, SaysWinner, SaysWinnerByMove}
use Rattle.proved_groups.specs.Shape.{LivesAnywhere}
use Rattle.proved_groups.specs.declared.first_moves.Unsettled.{Unsettled}
use Rattle.proved_groups.specs.declared.proven.Accepted.{Accepted}
use Rattle.proved_groups.specs.declared.proven.AcceptedByMove.{AcceptedByMove}
use Rattle.proved_groups.specs.declared.proven.ProvenByMove.{ProvenByMove}
use Rattle.group_status.specs.Names.{condition_text, name_text}
use Rattle.group_status.specs.declared.move_proof.Decided.{Decided}
use Rattle.group_status.specs.declared.move_proof.Decided.TheVariants as decided
use Rattle.group_status.specs.declared.proof.Proof.{Proof}
use Rattle.group_status.specs.declared.proof.Proof.TheVariants.{Shape, Answers}

-- The word says what was accepted, or that the stone lives by its shape.
abbrev pub SaysFate : Proof → List ℕ → Type 0
SaysFate (Shape shape proven) word = (word ≡ codes "alive") × ∥ LivesAnywhere shape.colouring shape.stone shape.owner ∥₁
SaysFate (Answers proven) word = SaysStatus proven.claim word

-- So does the side that is said to win.
abbrev pub SaysWhoWins : Proof → Colour → Type 0
SaysWhoWins (Shape shape proven) x = (x ≡ shape.owner) × ∥ LivesAnywhere shape.colouring shape.stone x ∥₁
SaysWhoWins (Answers proven) x = SaysWinner proven.claim x

-- on what a claim depends, on a board of n rows
abbrev pub condition_of_claim : ℕ → Accepted → List ℕ
condition_of_claim n a = condition_text n (problem_of a).game.defender (supposed_of a)

abbrev pub condition_by_move : ℕ → AcceptedByMove → List ℕ
condition_by_move n a = condition_text n (problem_by_move a).game.defender (supposed_by_move a)

abbrev pub condition_of : ℕ → Proof → List ℕ
condition_of n (Shape shape proven) = []
condition_of n (Answers proven) = condition_of_claim n proven.claim

-- the name, the word, that it is proved, and on what condition
abbrev pub proved_text : ℕ → Place → List ℕ → List ℕ → List ℕ
proved_text n target word condition =
    name_text n target ++ (codes ": " ++ (word ++ (codes " (proved" ++ (condition ++ codes ")\n"))))

abbrev pub IsProvedLine : ℕ → Place → Proof → List ℕ → Type 0
IsProvedLine n target proof text =
    (word : List ℕ) × SaysFate proof word × (text ≡ proved_text n target word (condition_of n proof))

-- the same of who wins
abbrev pub won_text : ℕ → Place → Colour → List ℕ → List ℕ
won_text n target x condition =
    name_text n target ++ (codes ": " ++ (colour_text x ++ (codes " wins (proved" ++ (condition ++ codes ")\n"))))

abbrev pub IsWinnerLine : ℕ → Place → Proof → List ℕ → Type 0
IsWinnerLine n target proof text = (x : Colour) × SaysWhoWins proof x × (text ≡ won_text n target x (condition_of n proof))

abbrev pub IsWinnerByMoveLine : ℕ → Place → ProvenByMove → List ℕ → Type 0
IsWinnerByMoveLine n target proven text =
    (x : Colour) × SaysWinnerByMove proven.claim x × (text ≡ won_text n target x (condition_by_move n proven.claim))

-- the first line: who wins, if one side is asked about
abbrev pub IsFirstLine : ℕ → Place → Option Side → Proof → List ℕ → Type 0
IsFirstLine n target None proof text = IsProvedLine n target proof text
IsFirstLine n target (Some side) proof text = IsWinnerLine n target proof text

-- That each side decides by moving first. Only the attack can depend on something.
abbrev pub unsettled_text : ℕ → Place → Unsettled → List ℕ
unsettled_text n target both = proved_text n target (codes "unsettled") (condition_by_move n both.attack.now.claim)

abbrev pub IsDecidedLine : ℕ → Place → Decided → List ℕ → Type 0
IsDecidedLine n target (decided.Unsettled both) text = text ≡ unsettled_text n target both
IsDecidedLine n target (decided.Wins proven) text = IsWinnerByMoveLine n target proven.now text

-- by which move, if one is known
abbrev pub by_text : ℕ → Option Place → List ℕ
by_text n None = []
by_text n (Some first) = codes ", by " ++ name_text n first

-- who moves first, and what happens then
abbrev pub move_text : Colour → List ℕ → List ℕ → List ℕ
move_text mover word by_which = codes "  " ++ (colour_text mover ++ (codes " first: " ++ (word ++ (by_which ++ codes " (proved)\n"))))

abbrev pub IsMoveLine : ℕ → ProvenByMove → List ℕ → Type 0
IsMoveLine n proven text =
    (first : Option Place) × (word : List ℕ) × SaysEnd proven.claim first word
    × (text ≡ move_text (problem_by_move proven.claim).mover word (by_text n first))

-- the same in the data
abbrev pub status_fields : List ℕ → List ℕ
status_fields word = codes ",\"status\":\"" ++ (word ++ codes "\",\"word\":\"proved\"")

abbrev pub IsStatusFields : Proof → List ℕ → Type 0
IsStatusFields proof text = (word : List ℕ) × SaysFate proof word × (text ≡ status_fields word)

-- who moves first, and who wins then
abbrev pub winner_fields : Colour → Colour → List ℕ
winner_fields mover x =
    codes ",\"first\":\"" ++ (letter_text mover ++ (codes "\",\"word\":\"proved\",\"winner\":\"" ++ (letter_text x ++ codes "\"")))

abbrev pub IsWinnerFields : Colour → Proof → List ℕ → Type 0
IsWinnerFields mover proof text = (x : Colour) × SaysWhoWins proof x × (text ≡ winner_fields mover x)

abbrev pub IsWinnerByMoveFields : ProvenByMove → List ℕ → Type 0
IsWinnerByMoveFields proven text =
    (x : Colour) × SaysWinnerByMove proven.claim x × (text ≡ winner_fields (problem_by_move proven.claim).mover x)

-- what a proof says, of the group or of who wins where this side moves first
abbrev pub IsFields : Colour → Option Side → Proof → List ℕ → Type 0
IsFields defender None proof text = IsStatusFields proof text
IsFields defender (Some side) proof text = IsWinnerFields (colour_of side defender) proof text

abbrev pub IsDecidedFields : Decided → List ℕ → Type 0
IsDecidedFields (decided.Unsettled both) text = text ≡ status_fields (codes "unsettled")
IsDecidedFields (decided.Wins proven) text = IsWinnerByMoveFields proven.now text

-- an object begins with its target, and goes on with these fields
abbrev pub begun_text : ℕ → Place → List ℕ
begun_text n target = codes "{\"target\":\"" ++ (name_text n target ++ codes "\"")

abbrev pub HasFields : ℕ → Place → (List ℕ → Type 0) → List ℕ → Type 0
HasFields n target IsSaid text = (fields rest : List ℕ) × IsSaid fields × (text ≡ begun_text n target ++ (fields ++ rest))

-- lines begin with this one
abbrev pub BeginsWith : (List ℕ → Type 0) → List ℕ → Type 0
BeginsWith IsLine text = (line rest : List ℕ) × IsLine line × (text ≡ line ++ rest)
