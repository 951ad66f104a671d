use Rattle.solution_tree.proofs.Common.{rules, arith, ◌≡◌, ◌+◌, suc, length, ◌∷◌, None, sym, ap, ◌∙◌, subst, ply_of, Line, next, no_node, node_then, rest_fault, faults_of, follows}
use Rattle.solution_tree.proofs.Found.{went_on}
use Rattle.solution_tree.proofs.Going.{leads_more, went_size}
use Rattle.solution_tree.proofs.tree_audit.audit_nodes.Goals as goal

pub returns-in_default-checked_add-clause-err : goal.returns-in_default-checked_add-clause-err
returns-in_default-checked_add-clause-err c = c.no_memory.ensures.found _ _

pub loop-node-preserved : goal.loop-node-preserved
loop-node-preserved c =
    let (made, count, number, leads, size, same) = c.loop-node.invariant in
    let w = c.args.winner in
    let s = c.loop-node.state.state in
    let k = c.loop-node.last in
    let node = c.in-Some.node.now in
    let rest = c.in-Some.rest.now in
    let trees = c.args.children.now in
    let t = ply_of s.game.size c.in_default-take_turn.field-0 in
    let first : c.loop-node.left.now ≡ node ∷ rest = search rules in
    let next_is : c.in-Some-checked_add.next ≡ k + 1 = search rules in
    let went : c.take_turn.new.state ≡ record { state = next s t; before = s ∷ c.loop-node.state.before } = c.in_default-take_turn.ensures.state in
    let fine : rest_fault w s (node_then node (follows rest trees) no_node) ≡ None = subst (λ ns. rest_fault w s (follows ns trees) ≡ None) first c.in_default-ask_rest.ensures.ok in
    let on : faults_of w s k (follows c.loop-node.left.now trees) ≡ faults_of w (next s t) (k + 1) (follows rest trees) =
    ap (λ ns. faults_of w s k (follows ns trees)) first ∙ went_on w s k node (follows rest trees) t fine c.in_default-take_turn.ensures.asked c.in_default-take_turn.ensures.carried in
    let shorter : length c.loop-node.left.now ≡ suc (length rest) = ap length first in (
      suc made,
      omega (arith, count, shorter),
      omega (arith, number, next_is),
      leads_more made c.args.state.now c.loop-node.state c.take_turn.new.state s (ap (λ (l : Line). l.before) went) leads,
      ap (λ (l : Line). l.state.game.size) went ∙ went_size s t ∙ size,
      ap (λ (l : Line). faults_of w l.state c.in-Some-checked_add.next (follows rest trees)) went ∙ ap (λ j. faults_of w (next s t) j (follows rest trees)) next_is ∙ sym on ∙ same,
    )
