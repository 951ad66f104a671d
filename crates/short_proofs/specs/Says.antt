-- What a run says, for what is asked for and the problem of the record that it has read.
--     SaysWinner x node      the comment of the node begins with this side's win
--     IsAccepted q claim x      the judge of short claims accepts the bytes of a claim, for this side
--     IsProof whole q text      the record of the problem, and a claim that its judge accepts
--     Says request q output      what is said is true of the problem
use Rattle.std.specs.Prelude.{◌≡◌, ◌≢◌, ℕ, zero, suc, ◌*◌, Bool, true, false, List, [], ◌∷◌, ◌++◌, codes, Option, None, Some, Ok, ◌⊎◌, IsTrue, if◌then◌else◌}
use Rattle.go_points.specs.declared.Cell.{Cell}
use Rattle.go_points.specs.declared.Cell.TheVariants.{Stone}
use Rattle.go_points.specs.declared.Colour.{Colour}
use Rattle.go_points.specs.Grid.{cell_at, opponent_of, same_cell}
use Rattle.go_points.specs.Place.{Place, place_of}
use Rattle.go_points.specs.Sgf.{sgf_text}
use Rattle.sgf_text.specs.Trees.{GameTree, Node}
use Rattle.sgf_text.specs.Text.{tree_text}
use Rattle.target_game.specs.State.{GameProblem, start}
use Rattle.target_game.specs.Legal.{holds_point}
use Rattle.target_game.specs.Wins.{Wins}
use Rattle.tsumego_problem.specs.Walk.{problem_within, history_limit}
use Rattle.tsumego_problem.specs.Canonical.{canonical}
use Rattle.tsumego_replies.specs.Texts.{line, wins_text}
use Rattle.pass_alive.specs.Told.{Tells}
use Rattle.proof_cert.specs.Streamed.{reader_gives, short_streamed_of}
use Rattle.cert_check.specs.Checks.{AcceptsBy}
use Rattle.safe_groups.specs.Ground.{AllSafe, IsSafeAs}
use Rattle.dead_groups.specs.Claims.{AreDead}
use Rattle.tool_parts.specs.Says.{colour_text, winner_text}
use Rattle.tool_parts.specs.Written.{bytes_of, end_of}
use Rattle.tool_parts.specs.declared.output.Output.{Output}
use Rattle.tool_parts.specs.declared.output.Output.TheVariants.{Record}
use Rattle.run_parts.specs.declared.status.Status.TheVariants.{Answered, Unanswered, Refused}
use Rattle.short_proofs.specs.Sound.{IsReading}
use Rattle.short_proofs.specs.declared.words.Request.{Request}
use Rattle.short_proofs.specs.declared.words.Request.TheVariants as asks

-- The comment of the node, its last property, begins with who wins.
abbrev pub SaysWinner : Colour → Node → Type 0
SaysWinner x node = (front : Node) × (rest : List ℕ) × (node ≡ front ++ record { ident = codes "C"; values = (winner_text x ++ rest) ∷ [] } ∷ [])

-- the node, some more properties, and a comment
abbrev pub IsNoted : Node → List ℕ → Node → Type 0
IsNoted node text made = (more : Node) × (made ≡ (node ++ more) ++ record { ident = codes "C"; values = text ∷ [] } ∷ [])

-- one of the nodes of the record's main sequence does
abbrev pub HasVerdict : Colour → GameTree → Type 0
HasVerdict x tree = (before after : List Node) × (node : Node) × (tree.nodes ≡ before ++ node ∷ after) × SaysWinner x node

-- It is not answered, and what is rejected is said to be.
abbrev pub IsRejection : Output → Type 0
IsRejection o = (end_of o ≢ Answered) × (end_of o ≡ Unanswered → (rest : List ℕ) × (bytes_of o ≡ codes "rejected line " ++ rest))

-- What is said of stones that stand: their colour, by which first move, if it takes one, and all of them, row by row.
abbrev pub spaced : Place → List ℕ
spaced p = 32 ∷ sgf_text p

abbrev pub first_text : Option Place → List ℕ
first_text None = []
first_text (Some p) = codes " by" ++ spaced p

-- the stones of the colour k among the first m points of a board of n rows
abbrev pub stones_text : ℕ → Colour → List Cell → ℕ → List ℕ
stones_text n k stones zero = []
stones_text n k stones (suc m) = stones_text n k stones m ++ (if same_cell (cell_at stones m) (Stone k) then spaced (place_of n m) else [])

abbrev pub stands_text : ℕ → Colour → Option Place → List Cell → List ℕ
stands_text n k first stones = line (codes "stands " ++ (colour_text k ++ (first_text first ++ stones_text n k stones (n * n))))

-- What is said of targets that die: their colour, all of them, and the stones that are only supposed to have liberties elsewhere.
abbrev pub while_text : List ℕ → List ℕ
while_text [] = []
while_text (x ∷ xs) = codes " while" ++ (x ∷ xs)

abbrev pub dead_text : ℕ → Colour → List Cell → List Cell → List ℕ
dead_text n k targets supposed = line (codes "dead " ++ (colour_text k ++ (stones_text n k targets (n * n) ++ while_text (stones_text n (opponent_of k) supposed (n * n)))))

-- The text names a side that wins; or stones of the defender's that are safe by answers, as the targets are, at once or by a first move;
-- or targets that are dead by answers, as long as the stones that it names after them stand.
abbrev pub NamesWinner : GameProblem → List ℕ → Type 0
NamesWinner q text = (x : Colour) × (text ≡ wins_text x) × Wins x (start q)

abbrev pub NamesSafe : GameProblem → List ℕ → Type 0
NamesSafe q text = (first : Option Place) × (stones : List Cell) × (text ≡ stands_text q.game.size q.game.defender first stones) × IsSafeAs first (start q) × AllSafe first (start q) stones

abbrev pub NamesDead : GameProblem → List ℕ → Type 0
NamesDead q text = (targets supposed : List Cell) × (text ≡ dead_text q.game.size q.game.defender targets supposed)
    × ((p : ℕ) → cell_at targets p ≡ Stone q.game.defender → IsTrue (holds_point q.game.targets p)) × AreDead (start q) targets supposed

-- What is answered is one of these, and what is rejected is said to be.
pub record SaysVerdict (q : GameProblem) (o : Output) : Type 0 where
  pub answer : end_of o ≡ Answered → NamesWinner q (bytes_of o) ⊎ (NamesSafe q (bytes_of o) ⊎ NamesDead q (bytes_of o))
  pub rejection : end_of o ≡ Unanswered → (rest : List ℕ) × (bytes_of o ≡ codes "rejected line " ++ rest)

-- The judge of short claims accepts these bytes, and nothing after them, for this side: by each test that tells what lives by its shape.
abbrev pub IsAccepted : GameProblem → List ℕ → Colour → Type 0
IsAccepted q claim x = (shape : List Cell → Bool) → Tells q.game shape
    → AcceptsBy shape reader_gives q.game.size q (short_streamed_of q.game.size claim (Some [])) x

-- What a claim by answers shows: the targets are safe, at once or by a first move; or these of them are dead, as long as stones stand.
abbrev pub IsSafeOrDead : GameProblem → Type 0
IsSafeOrDead q = ((first : Option Place) × IsSafeAs first (start q))
    ⊎ ((targets supposed : List Cell) × ((p : ℕ) → cell_at targets p ≡ Stone q.game.defender → IsTrue (holds_point q.game.targets p))
    × AreDead (start q) targets supposed)

-- The text is the canonical record of the problem, a line feed and the claim.
abbrev pub IsRecordWith : GameProblem → List ℕ → List ℕ → Type 0
IsRecordWith q claim text = text ≡ line (tree_text (canonical q)) ++ claim

-- A short claim that is accepted for a side, which wins; or, of the whole board, a claim of what is so.
abbrev pub IsProof : Bool → GameProblem → List ℕ → Type 0
IsProof false q text = (x : Colour) × (claim : List ℕ) × IsRecordWith q claim text × IsAccepted q claim x × Wins x (start q)
IsProof true q text = (claim : List ℕ) × IsRecordWith q claim text × IsSafeOrDead q

-- What is said is true: by `check`, of a short claim or of one by answers; by the record that `tree` writes, which names who wins and
-- whose nodes say what is so; and by the claim that `prove` writes.
abbrev pub Says : Request → GameProblem → Output → Type 0
Says asks.Check q o = SaysVerdict q o
Says (asks.Tree steps) q o = end_of o ≡ Answered → (x : Colour) × (tree : GameTree) × (o ≡ Record tree) × HasVerdict x tree × Wins x (start q)
    × IsReading x (start q) tree
Says (asks.Prove steps whole) q o = end_of o ≡ Answered → IsProof whole q (bytes_of o)

-- What is said for a record: it is refused, or it has a problem, of which what is said is true.
abbrev pub IsSaidOf : Request → GameTree → Output → Type 0
IsSaidOf request tree o = (end_of o ≡ Refused) ⊎ ((q : GameProblem) × (problem_within (Some history_limit) tree ≡ Ok q) × Says request q o)
