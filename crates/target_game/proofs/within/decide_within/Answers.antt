use Rattle.target_game.proofs.Common.{sym, ap, ◌∙◌, Line, tally_of}
use Rattle.target_game.specs.State.{start}
use Rattle.target_game.proofs.Tallies.{decided, past_decided}
use Rattle.target_game.proofs.within.decide_within.Goals as goal

pub returns-in-Some : goal.returns-in-Some
returns-in-Some c =
    c.decision.ensures ∙ decided (start c.args.problem.now) c.args.turns c.args.nodes c.in-Some.tally
    (sym c.in-Some.is ∙ c.in_ok-tally.ensures.tally ∙ ap (λ (v : Line). tally_of v.state c.args.turns c.args.nodes) c.in_ok-state.ensures)

pub returns : goal.returns
returns c =
    past_decided (start c.args.problem.now) c.args.turns c.args.nodes
    (sym c.in-None.is ∙ c.in_ok-tally.ensures.tally ∙ ap (λ (v : Line). tally_of v.state c.args.turns c.args.nodes) c.in_ok-state.ensures)
