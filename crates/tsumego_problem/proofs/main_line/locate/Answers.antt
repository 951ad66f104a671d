use Rattle.std.proofs.Common.{sym, ◌∙◌, ap, option_copied}
use Rattle.tsumego_problem.proofs.FirstPlace.{found, found_number, found_below, gone_on}
use Rattle.tsumego_problem.proofs.main_line.locate.Goals as goal

pub returns-in-Some-clause-found : goal.returns-in-Some-clause-found
returns-in-Some-clause-found c =
    found _ _ _ _ _ c.loop-at.invariant c.nodes-nodes.ensures.nodes c.children-children.ensures c.in-Some.at (sym c.in-Some.is ∙ c.first_marked.ensures)

pub returns-in-Some-clause-number : goal.returns-in-Some-clause-number
returns-in-Some-clause-number c =
    found_number _ _ _ _ _ c.loop-at.invariant c.nodes-nodes.ensures.nodes c.children-children.ensures c.in-Some.at (sym c.in-Some.is ∙ c.first_marked.ensures) _ c.add-number.ensures

pub returns-in-Some-clause-below : goal.returns-in-Some-clause-below
returns-in-Some-clause-below c =
    found_below _ _ _ _ _ c.loop-at.invariant c.nodes-nodes.ensures.nodes c.children-children.ensures c.in-Some.at (sym c.in-Some.is ∙ c.first_marked.ensures)

pub loop-at-preserved : goal.loop-at-preserved
loop-at-preserved c =
    gone_on _ _ _ _ _ c.loop-at.invariant c.nodes-nodes.ensures.nodes c.children-children.ensures (sym c.in_default.is ∙ c.first_marked.ensures) _ _ (sym c.first.ensures.value ∙ ap option_copied c.in_ok-part.was) c.add-before.ensures
