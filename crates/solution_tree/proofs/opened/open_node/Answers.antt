use Rattle.solution_tree.proofs.Common.{◌≡◌, ◌+◌, ℕ, true, List, refl, sym, ap, ◌∙◌, arith, Line, AnswerTree, replies, GameState, next, node_of, ply_of, CheckedClaim, answer_of, replies_of, Made, OpenTurn, branches_at, due, replies_then, tree_at, whole}
use Rattle.target_game.specs.Answers.{answer_size}
use Rattle.proof_cert.specs.Certificate as claim
use Rattle.proof_cert.proofs.Certificates.{node_of_won}
use Rattle.solution_tree.specs.declared.answer.Answer.TheVariants.{Won}
use Rattle.solution_tree.proofs.AnswerTrees.{answer_of_won, size_won}
use Rattle.solution_tree.proofs.Expanding.{finished, goes_as, opened, plays, replies_to, size_of_none, size_of_replies, size_of_turn}
use Rattle.solution_tree.proofs.opened.open_node.Goals as goal
use Rattle.target_game.proofs.Tallies.{if_ok_map}

pub returns-in-Won : goal.returns-in-Won
returns-in-Won c =
    let k : CheckedClaim = c.args.checked.now in
    let n : ℕ = k.certificate.size in
    let a : AnswerTree = tree_at k (node_of n c.args.node.now) c.args.state.now.state in
    let is : a ≡ answer_of n Won = ap (λ m. tree_at k m c.args.state.now.state) (ap (node_of n) c.in-Won.is ∙ node_of_won n) ∙ sym (answer_of_won n) in
    finished k c.args.opened.now.items c.args.state.now true a (answer_size a) Won c.args.state.now refl c.requires.turns (λ h. sym is) (ap answer_size is ∙ size_won n)

pub after-requires-clause-open : goal.after-requires-clause-open
after-requires-clause-open c = (plays c.args.checked.now c.args.state.now.state c.in-Play.turn c.in-Play.below c.args.node.now c.in-Play.below.value c.in-Play.is refl c.requires.node).0

pub after-requires-clause-legal : goal.after-requires-clause-legal
after-requires-clause-legal c = (plays c.args.checked.now c.args.state.now.state c.in-Play.turn c.in-Play.below c.args.node.now c.in-Play.below.value c.in-Play.is refl c.requires.node).1

pub returns-in_ok-after-in-Play : goal.returns-in_ok-after-in-Play
returns-in_ok-after-in-Play c =
    let k : CheckedClaim = c.args.checked.now in
    let n : ℕ = k.certificate.size in
    let s : GameState = c.args.state.now.state in
    let a : AnswerTree = tree_at k (node_of n c.args.node.now) s in
    let (going, may, on, rest, is) = plays k s c.in-Play.turn c.in-Play.below c.args.node.now c.deref.result.now c.in-Play.is c.deref.ensures c.requires.node in
    opened k c.args.opened.now.items c.args.state.now (Made c.in-Play.turn) (ply_of s.game.size c.in-Play.turn) c.deref.result c.push.new.self.items c.after.new.self a (answer_size a)
    c.in_ok-push-in-Play.ensures.items c.in_ok-after-in-Play.ensures.ok c.requires.turns rest on is (omega (arith, ap answer_size is, size_of_turn (ply_of n c.in-Play.turn) (tree_at k (node_of n c.deref.result.now) (next s (ply_of s.game.size c.in-Play.turn))), size_of_none))

pub go_on-requires-clause-later : goal.go_on-requires-clause-later
go_on-requires-clause-later c = (replies_to c.args.checked.now c.args.state.now.state c.in-All.replies c.args.node.now c.as_slice.result.now c.in-All.is c.as_slice.ensures.value c.requires.node).0

pub returns-in-All : goal.returns-in-All
returns-in-All c =
    let k : CheckedClaim = c.args.checked.now in
    let n : ℕ = k.certificate.size in
    let line : Line = c.args.state.now in
    let os : List OpenTurn = c.args.opened.now.items in
    let is = (replies_to k line.state c.in-All.replies c.args.node.now c.as_slice.result.now c.in-All.is c.as_slice.ensures.value c.requires.node).1 in
    if_ok_map c.go_on.result _ _
    (λ p. goes_as true true k _ _ _ _ p _ _
    (λ h. (h, ap (whole k os line) (ap (λ ds. replies (replies_then (replies_of n ds) (branches_at k (claim.replies_of n c.as_slice.result.now) line.state))) c.new.ensures.items ∙ sym is)))
    (ap (λ z. z + due k os line) (sym (ap answer_size is ∙ size_of_replies _))))
    c.go_on.ensures.goes
