use Rattle.solution_tree.proofs.Common.{rules, arith, ◌≡◌, ◌+◌, ℕ, length, List, [], ◌∷◌, ◌++◌, true, not, ◌||◌, ◌&&◌, inl, inr, None, option_or, sym, ap, ◌∙◌, subst, same_colour, Ply, ply_of, holds_ply, and_right, Line, next, are_nodes, is_forest, tree_then, forest_of, forest_count, node_then, nodes_of, count_nodes, faults_of, faults_below, follows, IsFound, Tells, Forest}
use Rattle.solution_tree.proofs.Found.{new_turn, found_first, opened_child, child_new, sequence_count}
use Rattle.solution_tree.proofs.Going.{went_size}
use Rattle.solution_tree.proofs.tree_audit.+audit.Goals as goal
use Rattle.solution_tree.proofs.tree_audit.+audit.Goals.{audit_child-After-audit_sequence, audit_child-else-not-is_own-via-then-not-is_own+else-has, audit_child-else-not-is_own-via-else-not-is_own}

pub audit_child-returns-in_default-clause-err : goal.audit_child-returns-in_default-clause-err
audit_child-returns-in_default-clause-err t c earlier others told = c.no_memory.ensures.found _ _

-- the faults of the child and its siblings: those below its first node, and then those of the siblings
child_faults : (t : ℕ) (c : audit_child-After-audit_sequence t) (earlier : List Ply) (others : Forest) → Tells c.args.state.now.state.game.size c.args.given.now earlier
    → faults_below c.args.winner c.args.state.now.state earlier (c.args.number + 1) (nodes_of (tree_then c.args.child.now.nodes c.args.child.now.children others))
    ≡ option_or (faults_of c.args.winner (next c.args.state.now.state (ply_of c.args.state.now.state.game.size c.in-Ok.turn)) c.in-Some.next (follows c.in-Some-split_first.rest.now c.children.result.now))
    (faults_below c.args.winner c.args.state.now.state (earlier ++ ply_of c.args.state.now.state.game.size c.in-Ok.turn ∷ []) (c.in-Some.next + 1 + count_nodes (follows c.in-Some-split_first.rest.now c.children.result.now)) (nodes_of others))
child_faults t c earlier others told =
    let x = c.args.winner in
    let s = c.args.state.now.state in
    let child = c.args.child.now in
    let node = c.in-Some-split_first.node.now in
    let rest = c.in-Some-split_first.rest.now in
    let below = follows rest c.children.result.now in
    let turn = ply_of s.game.size c.in-Ok.turn in
    let first : c.nodes.result.now ≡ node ∷ rest = search rules in
    let next_is : c.in-Some.next ≡ c.args.number + 1 = search rules in
    let opened : nodes_of (tree_then child.nodes child.children others) ≡ node_then node below (nodes_of others) = opened_child child c.nodes.result.now node rest c.children.result.now others c.nodes.ensures.nodes first c.children.ensures in
    let new : (same_colour s.mover x || not (holds_ply earlier turn)) ≡ true = elim c.else-not-is_own.branch [
      | audit_child-else-not-is_own-via-then-not-is_own+else-has w ↦ new_turn (same_colour s.mover x) (holds_ply earlier turn) (inr (sym (told c.in-Ok.turn c.in-Ok.ensures.on_board) ∙ sym w.has.ensures ∙ w.if-has.false))
      | audit_child-else-not-is_own-via-else-not-is_own w ↦ new_turn (same_colour s.mover x) (holds_ply earlier turn) (inl (sym c.is_to_move-is_own.ensures ∙ w.if-not-is_own.false))
    ] in
    ap (faults_below x s earlier (c.args.number + 1)) opened ∙ ap (λ j. faults_below x s earlier j (node_then node below (nodes_of others))) (sym next_is)
    ∙ child_new x s earlier c.in-Some.next node below (nodes_of others) turn c.in-Ok.ensures.asked c.in-Ok.ensures.carried new

pub audit_child-returns-in-Err-audit_sequence-clause-err : goal.audit_child-returns-in-Err-audit_sequence-clause-err
audit_child-returns-in-Err-audit_sequence-clause-err t c earlier others told =
    let x = c.args.winner in
    let s = c.args.state.now.state in
    let n = s.game.size in
    let k = c.in-Some.next in
    let below = follows c.in-Some-split_first.rest.now c.children.result.now in
    let turn = ply_of n c.in-Ok.turn in
    let e = c.in-Err-audit_sequence.fault in
    let bad : IsFound (next s turn).game.size (faults_of x (next s turn) k below) e = subst (λ (v : Line). IsFound v.state.game.size (faults_of x v.state k below) e) c.in-Ok.ensures.state c.in-Err-audit_sequence.ensures.err in
    let same : IsFound n (faults_of x (next s turn) k below) e = subst (λ (m : ℕ). IsFound m (faults_of x (next s turn) k below) e) (went_size s turn) bad in
    subst (λ o. IsFound n o e) (sym (child_faults t (goal.at.audit_child-returns-in-Err-audit_sequence-clause-err t c).After-audit_sequence earlier others told))
    (found_first n (faults_of x (next s turn) k below) (faults_below x s (earlier ++ turn ∷ []) (k + 1 + count_nodes below) (nodes_of others)) e same)

pub audit_child-returns-clause-ok : goal.audit_child-returns-clause-ok
audit_child-returns-clause-ok t c earlier others told =
    let x = c.args.winner in
    let s = c.args.state.now.state in
    let k = c.in-Some.next in
    let below = follows c.in-Some-split_first.rest.now c.children.result.now in
    let turn = ply_of s.game.size c.in-Ok.turn in
    let later = faults_below x s (earlier ++ turn ∷ []) (k + 1 + count_nodes below) (nodes_of others) in
    let fine : faults_of x (next s turn) k below ≡ None = subst (λ (v : Line). faults_of x v.state k below ≡ None) c.in-Ok.ensures.state c.in-Ok-audit_sequence.ensures.ok in
    let end : c.in-Ok-audit_sequence.last + 1 ≡ k + 1 + count_nodes below = omega (arith, c.in-Ok-audit_sequence.ensures.number) in (
      earlier ++ turn ∷ [],
      c.insert.ensures s.game.size earlier c.in-Ok.ensures.on_board told,
      ap (λ m. faults_below x s (earlier ++ turn ∷ []) m (nodes_of others)) end
          ∙ sym (child_faults t (goal.at.audit_child-returns-clause-ok t c).After-audit_sequence earlier others told ∙ ap (λ o. option_or o later) fine),
    )

pub audit_children-returns-in-Err-clause-err : goal.audit_children-returns-in-Err-clause-err
audit_children-returns-in-Err-clause-err t c =
    let (same, good, few, count, (earlier, told, closed)) = c.loop-child.invariant in
    let w = c.args.winner in
    let child = c.in-Some.child.now in
    let first : c.loop-child.left.now ≡ child ∷ c.in-Some.others.now = search rules in
    let others = forest_of c.in-Some.others.now in
    let left = nodes_of (tree_then child.nodes child.children others) in
    let n = c.args.state.now.state.game.size in
    let bad : IsFound n (faults_below w c.args.state.now.state earlier (c.loop-child.last + 1) left) c.in-Err.fault =
    subst (λ (v : Line). Tells v.state.game.size c.loop-child.given earlier → IsFound v.state.game.size (faults_below w v.state earlier (c.loop-child.last + 1) left) c.in-Err.fault) same
    (λ h. c.in-Err.ensures.err earlier others h) told in
    subst (λ o. IsFound n o c.in-Err.fault) (ap (λ ts. faults_below w c.args.state.now.state earlier (c.loop-child.last + 1) (nodes_of (forest_of ts))) (sym first) ∙ closed) bad

pub audit_children-loop-child-preserved : goal.audit_children-loop-child-preserved
audit_children-loop-child-preserved t c =
    let (same, good, few, count, (earlier, told, closed)) = c.loop-child.invariant in
    let w = c.args.winner in
    let child = c.in-Some.child.now in
    let first : c.loop-child.left.now ≡ child ∷ c.in-Some.others.now = search rules in
    let others = forest_of c.in-Some.others.now in
    let left = nodes_of (tree_then child.nodes child.children others) in
    let s = c.args.state.now.state in
    let k = c.loop-child.last in
    let end = c.in-Ok.end in
    let on : (later : List Ply) × Tells s.game.size c.audit_child.new.given later × (faults_below w s later (end + 1) (nodes_of others) ≡ faults_below w s earlier (k + 1) left) =
    subst (λ (v : Line). Tells v.state.game.size c.loop-child.given earlier → (later : List Ply) × Tells v.state.game.size c.audit_child.new.given later × (faults_below w v.state later (end + 1) (nodes_of others) ≡ faults_below w v.state earlier (k + 1) left)) same
    (λ h. c.in-Ok.ensures.ok earlier others h) told in
    let counted : end + count_nodes (nodes_of others) ≡ k + count_nodes left = c.in-Ok.ensures.number others in
    let fewer : forest_count (forest_of c.loop-child.left.now) ≡ forest_count (tree_then child.nodes child.children others) = ap (λ ts. forest_count (forest_of ts)) first in (
      c.in-Ok.ensures.state ∙ same,
      and_right (are_nodes child.nodes && is_forest child.children) (is_forest others) (sym (ap (λ ts. is_forest (forest_of ts)) first) ∙ good),
      omega (arith, few, fewer),
      counted ∙ ap (λ ts. k + count_nodes (nodes_of (forest_of ts))) (sym first) ∙ count,
      (on.0, on.1, on.2 ∙ ap (λ ts. faults_below w s earlier (k + 1) (nodes_of (forest_of ts))) (sym first) ∙ closed),
    )

pub audit_sequence-returns-clause-number : goal.audit_sequence-returns-clause-number
audit_sequence-returns-clause-number t c =
    let below = nodes_of (forest_of c.args.children.now) in
    let all : count_nodes (follows c.args.nodes.now c.args.children.now) ≡ length c.args.nodes.now + count_nodes below = sequence_count c.args.nodes.now below in
    let end : c.in-Ok.end ≡ c.args.number + length c.args.nodes.now = c.in-Ok.ensures.number in
    let last : c.in-Ok-audit_children.last ≡ c.in-Ok.end + count_nodes below = c.in-Ok-audit_children.ensures.number in
    omega (arith, all, end, last)
