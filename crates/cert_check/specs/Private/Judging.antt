-- What the judge holds, as the machine that takes lines.
--     machine_of j      the machine
--     IsReady j      what the judge keeps from line to line
--     Takes old new step r      a call that returned r did what the machine does with a line: GoesOn, or StopsFor a fault
--     TakesNodeIn      the same of a call for the line of a node
--     IsToldBy kind g shape      where a claim of this kind may say that the targets live by their shape
--     answering b      the shape that gives this answer everywhere; a line asks at one colouring at most
use Rattle.std.specs.Prelude.{◌≡◌, ◌≤◌, suc, ◌*◌, Bool, false, List, [], ◌∷◌, ◌++◌, length, reverse, Option, Some, None, IfSome, Result, Ok, Err}
use Rattle.std.specs.List.{All}
use Rattle.go_points.specs.declared.Cell.{Cell}
use Rattle.go_points.specs.Grid.{side_of}
use Rattle.go_points.specs.Ply.{ply_of}
use Rattle.go_points.specs.declared.Turn.{Turn}
use Rattle.target_game.specs.Left.{turns_due}
use Rattle.target_game.specs.State.{Game, state_alone}
use Rattle.target_game.specs.declared.turns_left.TurnsLeft.{TurnsLeft}
use Rattle.pass_alive.specs.Told.{Tells}
use Rattle.proof_cert.specs.Lines as Read
use Rattle.proof_cert.specs.Claim.{Head}
use Rattle.proof_cert.specs.Stage.{version_number}
use Rattle.proof_cert.specs.Lines.{had_of, not_of}
use Rattle.cert_check.specs.declared.reject.Why as stop
use Rattle.cert_check.specs.declared.kind.Kind.{Kind}
use Rattle.cert_check.specs.declared.kind.Kind.TheVariants.{Ordinary, Short}
use Rattle.cert_check.specs.declared.judge.Judge.{Judge}
use Rattle.cert_check.specs.declared.judge.Phase.{Phase}
use Rattle.cert_check.specs.declared.judge.Phase.TheVariants.{Header, Opening, ListingHad, Listing, Body, Done}
use Rattle.cert_check.specs.declared.judge.Within.{Within}
use Rattle.cert_check.specs.declared.judge.Within.TheVariants.{Lemma, Main}
use Rattle.cert_check.specs.declared.open_nodes.Due.{Due}
use Rattle.cert_check.specs.Body.{Why, malformed, text_after_end, lemma_body, lemma_start}
use Rattle.cert_check.specs.Stage.{why_value}
use Rattle.cert_check.specs.Verdict.{Machine, Heading, header, opening, listing_had, listing_not, done, last_of, AfterLine, goes_on, stops, had_taken, not_taken, node_taken, reply_taken, body_of}
use Rattle.cert_check.specs.Verdict as machine
use Rattle.cert_check.specs.Private.Ascending.{Ascends}
use Rattle.cert_check.specs.Private.Inside.{Follows, MayBeMade, Inside, inside_of, phase_of, owed_by, node_fault, node_next}
use Rattle.cert_check.specs.Parts.{PassesOn, head_of, IsJudged}

abbrev pub heading_of : Judge → Heading
heading_of j = record { version = version_number j.version; winner = j.winner; heads = j.heads.items }

abbrev pub lemma_of : Judge → Head
lemma_of j = head_of j.mover j.passes j.root j.had.items j.list

-- which lemma's body it is, or main
abbrev pub within_of : Judge → Within → Option Head
within_of j Lemma = Some (lemma_of j)
within_of j Main = None

abbrev pub inside_now : Judge → Due → Inside
inside_now j due = inside_of due j.state.state j.state.before (reverse j.open_nodes.items)

abbrev pub phase_held : Judge → Phase → machine.Phase
phase_held j Header = header
phase_held j Opening = opening (heading_of j)
phase_held j ListingHad = listing_had (heading_of j) (lemma_of j)
phase_held j Listing = listing_not (heading_of j) (lemma_of j)
phase_held j (Body within due) = phase_of (heading_of j) (within_of j within) (inside_now j due)
phase_held j Done = done j.winner

abbrev pub machine_of : Judge → Machine
machine_of j = record { phase = phase_held j j.phase; place = j.place; nodes = j.node_count; listed = j.listed_count }

-- Before and after a body: no colouring of a lemma was listed, no earlier lemma's list was compared with it, and the state is of
-- the problem's game.
pub record IsBetweenBodies (j : Judge) : Type 0 where
  pub had : j.had.items ≡ []
  pub list : j.list ≡ []
  pub passed : j.passed ≡ []
  pub game : j.state.state.game ≡ j.problem.now.game

-- before the first line nothing is known
pub record AwaitsHeader (j : Judge) : Type 0 where
  pub first : j.place ≡ 1
  pub heads : j.heads.items ≡ []
  pub between : IsBetweenBodies j

-- among the `had` lines: the state is only the lemma's root, no other colouring was listed, and those that were listed are of the
-- board
pub record AwaitsHad (j : Judge) : Type 0 where
  pub state : j.state ≡ record { state = state_alone j.problem.now.game j.root j.mover j.passes; before = [] }
  pub root : side_of j.root ≡ j.problem.now.game.size
  pub few : j.passes ≤ 1
  pub closed : j.open_nodes.items ≡ []
  pub list : j.list ≡ []
  pub passed : j.passed ≡ []
  pub fits : IfSome (last_of j.had.items) (λ c. length c ≡ j.problem.now.game.size * j.problem.now.game.size)
  pub sizes : All (λ c. side_of c ≡ j.problem.now.game.size) j.had.items
  pub ascends : Ascends j.had.items

-- between the `had` lines and the body: the state is where the body begins, and the colouring listed last is of the board
pub record AwaitsList (j : Judge) : Type 0 where
  pub state : j.state ≡ record { state = lemma_start j.problem.now.game (lemma_of j); before = [] }
  pub closed : j.open_nodes.items ≡ []
  pub passed : j.passed ≡ []
  pub fits : IfSome (last_of j.list) (λ c. length c ≡ j.problem.now.game.size * j.problem.now.game.size)
  pub ascends : Ascends j.list

-- in a body: the lists of the lemmas that are remembered are contained in the present lemma's list
pub record AwaitsNode (j : Judge) (due : Due) : Type 0 where
  pub game : j.state.state.game ≡ j.problem.now.game
  pub follows : Follows j.problem.now.game j.state.before (reverse j.open_nodes.items)
  pub made : MayBeMade due j.state.state (length j.open_nodes.items)
  pub ascends : Ascends j.list
  pub passed : All (PassesOn (lemma_body j.winner j.heads.items (lemma_of j))) j.passed

abbrev pub IsReadyFor : Judge → Phase → Type 0
IsReadyFor j Header = AwaitsHeader j
IsReadyFor j Opening = IsBetweenBodies j
IsReadyFor j ListingHad = AwaitsHad j
IsReadyFor j Listing = AwaitsList j
IsReadyFor j (Body within due) = AwaitsNode j due
IsReadyFor j Done = Unit {0}

abbrev pub IsReady : Judge → Type 0
IsReady j = IsReadyFor j j.phase

-- what the judge keeps after a line, when the first line is no longer the one that is due
abbrev pub IsBehindFor : Judge → Phase → Type 0
IsBehindFor j Header = ⊥
IsBehindFor j Opening = IsReadyFor j Opening
IsBehindFor j ListingHad = IsReadyFor j ListingHad
IsBehindFor j Listing = IsReadyFor j Listing
IsBehindFor j (Body within due) = IsReadyFor j (Body within due)
IsBehindFor j Done = IsReadyFor j Done

abbrev pub IsBehind : Judge → Type 0
IsBehind j = IsBehindFor j j.phase

-- The line is not counted yet: its number is that of the judge before and after the call.
abbrev pub GoesOn : Judge → Judge → AfterLine → Type 0
GoesOn old new step = step ≡ goes_on (record (machine_of new) { place = suc old.place })

abbrev pub StopsFor : Judge → AfterLine → stop.Why → Type 0
StopsFor j step why = ((p : Why) → why_value j.problem.now.game.size why ≡ Some p → step ≡ stops j.place p) × IsJudged why

-- by what a call for a line returned
abbrev pub GoesOnOrStops : {A : Type 0} → Judge → Judge → AfterLine → Result A stop.Why → Type 0
GoesOnOrStops old new step (Ok _) = IsBehind new × GoesOn old new step
GoesOnOrStops old new step (Err why) = StopsFor old step why

-- A call did with a line what the machine does with it, which is this step.
abbrev pub Takes : {A : Type 0} → Judge → Judge → AfterLine → Result A stop.Why → Type 0
Takes old new step r = (new.place ≡ old.place) × (new.problem ≡ old.problem) × GoesOnOrStops old new step r

-- a call that changes no more than a node in a body may
abbrev pub ChangesBody : Judge → Judge → Type 0
ChangesBody old new = new ≡ record old { state = new.state; open_nodes = new.open_nodes; passed = new.passed }

-- A call for the line of a node in a body: the node has no fault there and this line is due after it, or the fault is the node's.
pub record NodeGoesOn (old : Judge) (within : Within) (shape : List Cell → Bool) (l : Read.Line) (new : Judge) (due : Due) : Type 0 where
  pub ready : AwaitsNode new due
  pub none : node_fault (body_of shape (heading_of old) (within_of old within)) old.state.state l ≡ None
  pub behind : inside_now new due ≡ node_next (suc (length old.state.before)) old.state.state (owed_by old.state.before (reverse old.open_nodes.items)) l

abbrev pub TakesNodeIn : Judge → Within → (List Cell → Bool) → Read.Line → Judge → Result Due stop.Why → Type 0
TakesNodeIn old within shape l new (Ok due) = NodeGoesOn old within shape l new due
TakesNodeIn old within shape l new (Err why) =
    ((p : Why) → why_value old.state.state.game.size why ≡ Some p → node_fault (body_of shape (heading_of old) (within_of old within)) old.state.state l ≡ Some p) × IsJudged why

abbrev pub IsToldBy : Kind → Game → (List Cell → Bool) → Type 0
IsToldBy Ordinary g shape = (c : List Cell) → shape c ≡ false
IsToldBy Short g shape = Tells g shape

abbrev pub answering : Bool → List Cell → Bool
answering b c = b

-- What the machine does with a line that fits the board: a line of one of the lists or after it, of a body's node, of a reply, and
-- of a body.
abbrev pub had_here : Bool → Judge → Read.Line → AfterLine
had_here b j l = had_taken (answering b) j.problem.now (machine_of j) (heading_of j) (lemma_of j) (Some l) (had_of (Some l))

abbrev pub list_here : Bool → Judge → Read.Line → AfterLine
list_here b j l = not_taken (answering b) j.problem.now (machine_of j) (heading_of j) (lemma_of j) (Some l) (not_of (Some l))

abbrev pub node_here : Bool → Judge → Within → Read.Line → AfterLine
node_here b j within l = node_taken (answering b) (machine_of j) (heading_of j) (within_of j within) (suc (length j.state.before)) j.state.state (owed_by j.state.before (reverse j.open_nodes.items)) l

abbrev pub reply_here : Judge → Within → Turn → TurnsLeft → Read.Line → AfterLine
reply_here j within due left l =
    reply_taken (machine_of j) (heading_of j) (within_of j within)
    (record { depth = suc (length j.state.before); state = j.state.state; due = ply_of j.state.state.game.size due; others = turns_due j.state.state left.next })
    (owed_by j.state.before (reverse j.open_nodes.items)) l

abbrev pub had_more : Head → List Cell → Head
had_more h c = record h { had = h.had ++ c ∷ [] }

abbrev pub listed_more : Head → List Cell → Head
listed_more h c = record h { absent = h.absent ++ c ∷ [] }

-- why a malformed line is refused
abbrev pub bad_line : machine.Phase → Why
bad_line (done x) = text_after_end
bad_line _ = malformed
