use Rattle.solution_tree.proofs.Common.{◌≡◌, ◌+◌, ◌<◌, [], length, subst, ap, ◌∙◌, arith, GameProblem, Line, start, node_of, claim_of, CheckedClaim, Goes, due, tree_at, whole}
use Rattle.target_game.specs.Answers.{answer_size}
use Rattle.solution_tree.proofs.Expanding.{begins}
use Rattle.solution_tree.proofs.expansion.walk.Goals as goal

abbrev line_at : GameProblem → Line
line_at q = record { state = start q; before = [] }

pub loop-opened-init : goal.loop-opened-init
loop-opened-init c =
    let k : CheckedClaim = c.args.checked.now in
    let same : c.problem-problem.result.now ≡ k.problem = c.problem-problem.ensures in
    let placed : k.problem.place < length k.problem.history = subst (λ (q : GameProblem). q.place < length q.history) same c.history.ensures.problem.present in
    begins c.args.keep k c.new-opened.result.items c.in-Ok.state c.certificate.result.now c.args.limit c.certificate.ensures c.new-opened.ensures.items (c.in-Ok.ensures ∙ ap line_at same) c.winner-winner.ensures.checked
    (c.valid_claims_answer.ensures k.problem (claim_of k.certificate) placed c.winner-winner.ensures.checked.valid)

pub loop-opened-preserved : goal.loop-opened-preserved
loop-opened-preserved c =
    let k : CheckedClaim = c.args.checked.now in
    let it = subst (λ p. Goes c.args.keep k (whole k c.loop-opened.opened.items c.loop-opened.state (tree_at k (node_of k.certificate.size c.loop-opened.node.now) c.loop-opened.state.state))
    (answer_size (tree_at k (node_of k.certificate.size c.loop-opened.node.now) c.loop-opened.state.state) + due k c.loop-opened.opened.items c.loop-opened.state) p c.step.new.opened.items c.step.new.state) c.in-Ok-Claimed.field-0-is c.in-Ok-Claimed.ensures.goes in
    let (turns, stands, is, left) = c.loop-opened.invariant in
    (it.turns, it.stands, (λ h. it.is h ∙ is h), omega (arith, it.left, left))

pub returns-then-left-eq0-clause-large : goal.returns-then-left-eq0-clause-large
returns-then-left-eq0-clause-large c =
    let k : CheckedClaim = c.args.checked.now in
    let it = subst (λ p. Goes c.args.keep k (whole k c.loop-opened.opened.items c.loop-opened.state (tree_at k (node_of k.certificate.size c.loop-opened.node.now) c.loop-opened.state.state))
    (answer_size (tree_at k (node_of k.certificate.size c.loop-opened.node.now) c.loop-opened.state.state) + due k c.loop-opened.opened.items c.loop-opened.state) p c.step.new.opened.items c.step.new.state) c.in-Ok-Claimed.field-0-is c.in-Ok-Claimed.ensures.goes in
    let none_left : c.loop-opened.left ≡ 0 = c.if-left-eq0.true in
    λ e. omega (arith, it.left, none_left, c.loop-opened.invariant.3)

pub returns-in-Ok-Finished-clause-answers : goal.returns-in-Ok-Finished-clause-answers
returns-in-Ok-Finished-clause-answers c =
    let k : CheckedClaim = c.args.checked.now in
    let placed : k.problem.place < length k.problem.history = subst (λ (q : GameProblem). q.place < length q.history) c.problem-problem.ensures c.history.ensures.problem.present in
    c.valid_claims_answer.ensures k.problem (claim_of k.certificate) placed c.winner-winner.ensures.checked.valid
