use Rattle.solution_tree.proofs.Common.{◌≡◌, ◌+◌, true, List, refl, sym, ap, ◌∙◌, subst, arith, IsTrue, Line, node_of, claim_of, CheckedClaim, Goes, OpenTurn, due, tree_at, whole}
use Rattle.target_game.specs.Answers.{answer_size, answers}
use Rattle.solution_tree.proofs.Expanding.{goes_as}
use Rattle.solution_tree.proofs.opened.step.Goals as goal
use Rattle.target_game.proofs.Tallies.{if_ok_map}

pub open_node-requires-clause-node : goal.open_node-requires-clause-node
open_node-requires-clause-node c =
    let k : CheckedClaim = c.args.checked.now in
    let x = (claim_of k.certificate).winner in
    let s = c.args.state.now.state in
    record { size = c.requires.node.size; lemmas = c.body_of-node.ensures.below; answers = subst (λ a. IsTrue (answers x s a)) (sym (c.body_of-node.ensures.same s)) c.requires.node.answers }

pub returns-in-Finished-clause-goes : goal.returns-in-Finished-clause-goes
returns-in-Finished-clause-goes c =
    let k : CheckedClaim = c.args.checked.now in
    let line : Line = c.args.state.now in
    let os : List OpenTurn = c.args.opened.now.items in
    let same : tree_at k (node_of k.certificate.size c.body_of-node.result.now) line.state ≡ tree_at k (node_of k.certificate.size c.args.node.now) line.state = c.body_of-node.ensures.same line.state in
    let it = subst (λ p. Goes true k (whole k os line (tree_at k (node_of k.certificate.size c.body_of-node.result.now) line.state)) (answer_size (tree_at k (node_of k.certificate.size c.body_of-node.result.now) line.state) + due k os line) p c.open_node.new.opened.items c.open_node.new.state) c.in-Finished.is c.in_ok-part.ensures in
    if_ok_map c.close.result _ _
    (λ p. goes_as c.args.keep c.args.keep k _ _ _ _ p _ _ (λ h. (h, it.is refl ∙ ap (whole k os line) same)) (omega (arith, it.left, ap answer_size same)))
    c.close.ensures.goes

pub returns-in_default-clause-goes : goal.returns-in_default-clause-goes
returns-in_default-clause-goes c =
    let k : CheckedClaim = c.args.checked.now in
    let line : Line = c.args.state.now in
    let os : List OpenTurn = c.args.opened.now.items in
    let same : tree_at k (node_of k.certificate.size c.body_of-node.result.now) line.state ≡ tree_at k (node_of k.certificate.size c.args.node.now) line.state = c.body_of-node.ensures.same line.state in
    goes_as true c.args.keep k _ _ _ _ _ _ _ (λ h. (refl, ap (whole k os line) same)) (ap (λ a. answer_size a + due k os line) same) c.in_ok-part.ensures
