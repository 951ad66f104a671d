use Rattle.cert_check.proofs.Common.{◌≡◌, ℕ, ◌+◌, ◌≤◌, List, [], Option, Some, Bor, sym, ap, ◌∙◌, subst, rules, arith, GameProblem, GameState, start, Certificate, Claim, heads_of, max_nodes, claim_of, node_of, Later, main_body, CheckedClaim, Gathered, AreOpen, IsPlayable, gathered, joined, left_at, node_at, of_node, nothing, reversed}
use Rattle.target_game.specs.State.{Line}
use Rattle.proof_cert.specs.declared.certificate.Node.{Node}
use Rattle.cert_check.specs.Private.Results.{IsPlayablePart}
use Rattle.cert_check.proofs.Gathering.{walked, walked_all, walked_less, walk_begins, begins_playable, walk_room}
use Rattle.cert_check.proofs.results.results_of.Goals as goal

-- the whole of what the tree gives
abbrev whole : CheckedClaim → Gathered
whole k = of_node (start k.problem) (start k.problem) (claim_of k.certificate).main

-- the start of the problem, by a state that was made of it
start_is : (k : CheckedClaim) (q : GameProblem) (line : Line) → q ≡ k.problem → line ≡ record { state = start q; before = [] } → line ≡ record { state = start k.problem; before = [] }
start_is k q line same made = made ∙ ap (λ (p : GameProblem). record { state = start p; before = [] }) same

pub loop-barred-init : goal.loop-barred-init
loop-barred-init c =
    let k : CheckedClaim = c.args.checked.now in
    let z : Claim = claim_of k.certificate in
    let n : ℕ = k.certificate.size in
    let checked = c.winner-winner.ensures.checked in
    let line : c.in_ok-state.state ≡ record { state = start k.problem; before = [] } = start_is k c.problem-problem.result.now c.in_ok-state.state c.problem-problem.ensures c.in_ok-state.ensures in
    let main : c.certificate.result.now ≡ k.certificate = c.certificate.ensures in
    let none : c.new-opened.result.items ≡ [] = c.new-opened.ensures.items in
    let few = checked.limits.nodes in (
      subst (λ (d : Certificate). joined (gathered c.new-plays.result.items c.new-barred.result.items 0) (node_at (start k.problem) c.in_ok-state.state c.new-opened.result.items d.main) ≡ whole k) (sym main)
          (walk_begins (start k.problem) c.in_ok-state.state c.new-opened.result.items c.new-plays.result.items c.new-barred.result.items k.certificate.main n line none c.new-plays.ensures.items c.new-barred.ensures.items checked.valid.size),
      subst (λ (d : Certificate). IsPlayable c.in_ok-state.state.state (node_of c.in_ok-state.state.state.game.size d.main)) (sym main)
          (begins_playable (main_body z.winner (heads_of z.lemmas)) (start k.problem) c.in_ok-state.state k.certificate.main n line checked.valid.size checked.valid.main),
      subst (λ (l : Line). AreOpen (reversed c.new-opened.result.items) l.before) (sym line) (subst (λ os. AreOpen (reversed os) []) (sym none) tt),
      omega (arith, few),
    )

pub overflow_add-nodes : goal.overflow_add-nodes
overflow_add-nodes c =
    let k : CheckedClaim = c.args.checked.now in
    let room : c.loop-barred.nodes + 1 ≤ max_nodes = walk_room (start k.problem) c.loop-barred.state c.loop-barred.opened.items c.loop-barred.node.now c.loop-barred.plays.items c.loop-barred.barred.items c.loop-barred.nodes max_nodes (whole k) c.loop-barred.invariant.0 c.loop-barred.invariant.3 in
    search rules

pub step-requires-clause-playable : goal.step-requires-clause-playable
step-requires-clause-playable c = c.loop-barred.invariant.1

pub step-requires-clause-opened : goal.step-requires-clause-opened
step-requires-clause-opened c = c.loop-barred.invariant.2

-- what was gathered in the end
all_gathered : (c : goal.After-drop-past-inside-in_default-6) → gathered c.step.new.plays.items c.step.new.barred.items (c.loop-barred.nodes + 1) ≡ whole c.args.checked.now
all_gathered c =
    let k : CheckedClaim = c.args.checked.now in
    let past : c.in_ok-past.past.state ≡ start k.problem = ap (λ (l : Line). l.state) (start_is k c.problem-problem.result.now c.in_ok-past.past c.problem-problem.ensures c.in_ok-past.ensures) in
    let done : left_at c.in_ok-past.past.state c.step.new.state c.step.new.opened.items c.in_ok-next.next ≡ nothing = ap (left_at c.in_ok-past.past.state c.step.new.state c.step.new.opened.items) c.in_default.is in
    walked_all c.in_ok-past.past.state (start k.problem) c.loop-barred.state c.loop-barred.opened.items c.loop-barred.node.now c.loop-barred.plays.items c.loop-barred.barred.items c.step.new.plays.items c.step.new.barred.items
    (left_at c.in_ok-past.past.state c.step.new.state c.step.new.opened.items c.in_ok-next.next) past c.in_ok-next.ensures.left c.loop-barred.nodes (whole k) done c.loop-barred.invariant.0

pub returns-in_default-clause-plays : goal.returns-in_default-clause-plays
returns-in_default-clause-plays c = ap (λ (g : Gathered). g.plays) (all_gathered c)

pub returns-in_default-clause-barred : goal.returns-in_default-clause-barred
returns-in_default-clause-barred c = ap (λ (g : Gathered). g.barred) (all_gathered c)

pub returns-in_default-clause-nodes : goal.returns-in_default-clause-nodes
returns-in_default-clause-nodes c = ap (λ (g : Gathered). g.nodes) (all_gathered c)

-- the same with the tree that comes next
next_left : (k : CheckedClaim) (past : GameState) (line : Line) (os : List Later) (o : Option (Bor Node)) (below : Bor Node) (a b : Gathered) → past ≡ start k.problem → o ≡ Some below
    → joined a (left_at past line os o) ≡ b → joined a (node_at (start k.problem) line os below.now) ≡ b
next_left k past line os o below a b same is left =
    ap (λ (p : GameState). joined a (node_at p line os below.now)) (sym same) ∙ ap (λ (x : Option (Bor Node)). joined a (left_at past line os x)) (sym is) ∙ left

pub loop-barred-smaller : goal.loop-barred-smaller
loop-barred-smaller c =
    let k : CheckedClaim = c.args.checked.now in
    let past : c.in_ok-past.past.state ≡ start k.problem = ap (λ (l : Line). l.state) (start_is k c.problem-problem.result.now c.in_ok-past.past c.problem-problem.ensures c.in_ok-past.ensures) in
    let left = next_left k c.in_ok-past.past.state c.step.new.state c.step.new.opened.items c.in_ok-next.next c.in-Some.below (gathered c.step.new.plays.items c.step.new.barred.items 1) (joined (gathered c.loop-barred.plays.items c.loop-barred.barred.items 0) (node_at c.in_ok-past.past.state c.loop-barred.state c.loop-barred.opened.items c.loop-barred.node.now)) past c.in-Some.is c.in_ok-next.ensures.left in
    let next : Gathered = node_at (start k.problem) c.step.new.state c.step.new.opened.items c.in-Some.below.now in
    walked_less c.in_ok-past.past.state (start k.problem) c.loop-barred.state c.loop-barred.opened.items c.loop-barred.node.now c.loop-barred.plays.items c.loop-barred.barred.items c.step.new.plays.items c.step.new.barred.items next past left

pub loop-barred-preserved : goal.loop-barred-preserved
loop-barred-preserved c =
    let k : CheckedClaim = c.args.checked.now in
    let past : c.in_ok-past.past.state ≡ start k.problem = ap (λ (l : Line). l.state) (start_is k c.problem-problem.result.now c.in_ok-past.past c.problem-problem.ensures c.in_ok-past.ensures) in
    let left = next_left k c.in_ok-past.past.state c.step.new.state c.step.new.opened.items c.in_ok-next.next c.in-Some.below (gathered c.step.new.plays.items c.step.new.barred.items 1) (joined (gathered c.loop-barred.plays.items c.loop-barred.barred.items 0) (node_at c.in_ok-past.past.state c.loop-barred.state c.loop-barred.opened.items c.loop-barred.node.now)) past c.in-Some.is c.in_ok-next.ensures.left in
    let next : Gathered = node_at (start k.problem) c.step.new.state c.step.new.opened.items c.in-Some.below.now in (
      walked c.in_ok-past.past.state (start k.problem) c.loop-barred.state c.loop-barred.opened.items c.loop-barred.node.now c.loop-barred.plays.items c.loop-barred.barred.items c.step.new.plays.items c.step.new.barred.items next past left c.loop-barred.nodes (whole k) c.loop-barred.invariant.0,
      subst (IsPlayablePart c.step.new.state.state) c.in-Some.is c.in_ok-next.ensures.playable,
      c.in_ok-next.ensures.opened,
      c.loop-barred.invariant.3,
    )
