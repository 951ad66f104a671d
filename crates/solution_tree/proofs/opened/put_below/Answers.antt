use Rattle.std.proofs.Common.{IfOk}
use Rattle.solution_tree.proofs.Common.{◌+◌, ℕ, true, List, refl, sym, ap, ◌∙◌, subst, Line, AnswerTree, turn, replies, ReplyTrees, none, reply_sizes, ply_of, CheckedClaim, answer_of, replies_of, CanGoOn, Goes, OpenTurn, branches_at, closed, due, later_of, replies_then, whole}
use Rattle.proof_cert.specs.Certificate as claim
use Rattle.solution_tree.specs.declared.opened.Part.TheVariants.{Finished}
use Rattle.solution_tree.proofs.Expanding.{finished, goes_as, reply_added, size_of_none}
use Rattle.solution_tree.proofs.opened.put_below.Goals as goal
use Rattle.target_game.proofs.Tallies.{if_ok_map}

pub returns-in_ok-with_turn-in-Made-clause-goes : goal.returns-in_ok-with_turn-in-Made-clause-goes
returns-in_ok-with_turn-in-Made-clause-goes c =
    let k : CheckedClaim = c.args.checked.now in
    let n : ℕ = k.certificate.size in
    let line : Line = c.args.state.now in
    let os : List OpenTurn = c.args.opened.now.items in
    let a : AnswerTree = answer_of n c.args.tree in
    subst (λ (o : OpenTurn). Goes c.args.keep k (whole k os line (closed k o line.state a)) (reply_sizes (branches_at k (later_of k o) line.state) + due k os line) (Finished c.in_ok-with_turn-in-Made.field-0) os line) (sym c.in-Made.is)
    (finished k os line c.args.keep (turn (ply_of n c.in-Made.turn) a) (reply_sizes none) c.in_ok-with_turn-in-Made.field-0 line refl c.requires.turns (λ h. c.in_ok-with_turn-in-Made.ensures h n) size_of_none)

pub go_on-requires-clause-later : goal.go_on-requires-clause-later
go_on-requires-clause-later c = subst (λ (o : OpenTurn). CanGoOn c.args.checked.now c.args.state.now.state (later_of c.args.checked.now o)) c.in-Reply.is c.requires.last

pub returns-in_ok-add_reply-in-Reply-clause-goes : goal.returns-in_ok-add_reply-in-Reply-clause-goes
returns-in_ok-add_reply-in-Reply-clause-goes c =
    let k : CheckedClaim = c.args.checked.now in
    let n : ℕ = k.certificate.size in
    let line : Line = c.args.state.now in
    let os : List OpenTurn = c.args.opened.now.items in
    let rest : ReplyTrees = branches_at k (claim.replies_of n c.in-Reply.later.now) line.state in
    subst (λ (o : OpenTurn). IfOk c.go_on.result (λ p. Goes c.args.keep k (whole k os line (closed k o line.state (answer_of n c.args.tree))) (reply_sizes (branches_at k (later_of k o) line.state) + due k os line) p c.go_on.new.opened.items c.go_on.new.state)) (sym c.in-Reply.is)
    (if_ok_map c.go_on.result _ _
    (λ p. goes_as true c.args.keep k _ _ _ _ p _ _
    (λ h. (refl, ap (λ us. whole k os line (replies us)) (ap (λ ds. replies_then (replies_of n ds) rest) (c.in_ok-add_reply-in-Reply.ensures h) ∙ reply_added n c.in-Reply.done.items c.in-Reply.turn c.args.tree rest))) refl)
    c.go_on.ensures.goes)
