use Rattle.full_search.proofs.Common.{◌≡◌, ◌+◌, ◌/◌, ◌≤◌, ◌<◌, ◌∙◌, sym, refl, subst, arith, Line, start, over, None, nodes, rest, IsFound}
use Rattle.full_search.proofs.Deepening.{undecided_more, undecided_end, begun_after, begun_more, won_later, out_later, starts_open}
use Rattle.full_search.proofs.search.search_depths.Goals as goal

pub returns-in-OutOfSteps-clause-decided : goal.returns-in-OutOfSteps-clause-decided
returns-in-OutOfSteps-clause-decided c =
    let s = start c.args.problem.now in
    let k = c.loop-turns.turns in
    let room = c.args.left.now / (k + 1) in
    let found = subst (λ (v : Line). IsFound v.state k (rest c.loop-turns.left room) c.in_ok-winner.field-0) c.loop-turns.invariant.0 c.in_ok-winner.ensures.found in
    undecided_end s k c.args.left.now c.loop-turns.left room c.loop-turns.invariant.1.0 refl (subst (λ f. IsFound s k (rest c.loop-turns.left room) f) c.in-OutOfSteps.is found)

pub loop-turns-preserved : goal.loop-turns-preserved
loop-turns-preserved c =
    let s = start c.args.problem.now in
    let k = c.loop-turns.turns in
    let room = c.args.left.now / (k + 1) in
    let found = subst (λ (v : Line). IsFound v.state k (rest c.loop-turns.left room) c.in_ok-winner.field-0) c.loop-turns.invariant.0 c.in_ok-winner.ensures.found in
    let steps = subst (λ (v : Line). c.loop-turns.left ≤ c.search_state.new.left + nodes v.state k) c.loop-turns.invariant.0 c.in_ok-winner.ensures.steps in
    let begun = subst (λ (v : Line). over v.state ≡ None → 1 ≤ k → 1 ≤ rest c.loop-turns.left room → c.search_state.new.left < c.loop-turns.left) c.loop-turns.invariant.0 c.in_ok-winner.ensures.begun (starts_open c.args.problem.now c.history.ensures.problem) in (
      c.in_ok-winner.ensures.state ∙ c.loop-turns.invariant.0,
      (
        undecided_more s k c.args.left.now c.loop-turns.left c.search_state.new.left c.loop-turns.invariant.1.0 (subst (λ f. IsFound s k (rest c.loop-turns.left room) f) c.in-Open.is found) c.in_ok-winner.ensures.fewer steps,
        begun_more s k c.args.left.now c.loop-turns.left c.search_state.new.left room c.loop-turns.invariant.1.1 c.loop-turns.invariant.1.0.fewer c.in_ok-winner.ensures.fewer steps refl begun,
      ),
    )

pub returns-in-Wins-clause-begun : goal.returns-in-Wins-clause-begun
returns-in-Wins-clause-begun c =
    let s = start c.args.problem.now in
    let k = c.loop-turns.turns in
    let room = c.args.left.now / (k + 1) in
    let nobody = starts_open c.args.problem.now c.history.ensures.problem in
    let found = subst (λ (v : Line). IsFound v.state k (rest c.loop-turns.left room) c.in_ok-winner.field-0) c.loop-turns.invariant.0 c.in_ok-winner.ensures.found in
    let shows = subst (λ f. IsFound s k (rest c.loop-turns.left room) f) c.in-Wins.is found in
    let begun = subst (λ (v : Line). over v.state ≡ None → 1 ≤ k → 1 ≤ rest c.loop-turns.left room → c.search_state.new.left < c.loop-turns.left) c.loop-turns.invariant.0 c.in_ok-winner.ensures.begun nobody in
    begun_after k c.args.left.now c.loop-turns.left c.search_state.new.left room c.loop-turns.invariant.1.1 c.loop-turns.invariant.1.0.fewer c.in_ok-winner.ensures.fewer refl begun (won_later c.in-Wins.winner s k nobody shows.wins)

pub returns-in-OutOfSteps-clause-begun : goal.returns-in-OutOfSteps-clause-begun
returns-in-OutOfSteps-clause-begun c two =
    let s = start c.args.problem.now in
    let k = c.loop-turns.turns in
    let room = c.args.left.now / (k + 1) in
    let nobody = starts_open c.args.problem.now c.history.ensures.problem in
    let found = subst (λ (v : Line). IsFound v.state k (rest c.loop-turns.left room) c.in_ok-winner.field-0) c.loop-turns.invariant.0 c.in_ok-winner.ensures.found in
    let out = subst (λ f. IsFound s k (rest c.loop-turns.left room) f) c.in-OutOfSteps.is found in
    let begun = subst (λ (v : Line). over v.state ≡ None → 1 ≤ k → 1 ≤ rest c.loop-turns.left room → c.search_state.new.left < c.loop-turns.left) c.loop-turns.invariant.0 c.in_ok-winner.ensures.begun nobody in
    begun_after k c.args.left.now c.loop-turns.left c.search_state.new.left room c.loop-turns.invariant.1.1 c.loop-turns.invariant.1.0.fewer c.in_ok-winner.ensures.fewer refl begun (out_later s k c.args.left.now c.loop-turns.left room c.loop-turns.invariant.1.1 refl out two) two
