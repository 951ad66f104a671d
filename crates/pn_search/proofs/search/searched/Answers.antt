use Rattle.std.proofs.Common.{◌≡◌, ℕ, ◌-◌, subst, ap, ◌∙◌, arith}
use Rattle.target_game.specs.State.{start}
use Rattle.full_search.specs.Decided.{IsDecided}
use Rattle.pn_search.specs.Search.{full_steps}
use Rattle.pn_search.proofs.Refused.{if_refused_map, none_within_refused, steps_above_floor, begun_above_floor}
use Rattle.pn_search.proofs.search.searched.Goals as goal

pub returns-in-Ok-Some-clause-begun : goal.returns-in-Ok-Some-clause-begun
returns-in-Ok-Some-clause-begun c =
    if_refused_map c.confirmed.result _ _
    (λ r h not_memory some. c.in-Ok-Some.ensures.begun (begun_above_floor c.args.left.now c.steps_of_full_search.result c.args.budget.steps c.requires c.steps_of_full_search.ensures some))
    c.confirmed.ensures.cause

pub returns-in-Ok-None-clause-begun : goal.returns-in-Ok-None-clause-begun
returns-in-Ok-None-clause-begun c =
    let made = c.in-Ok-None.ensures.begun in
    if_refused_map c.searched_by_numbers.result _ _
    (λ r h not_memory some.
    let less = made (begun_above_floor c.args.left.now c.steps_of_full_search.result c.args.budget.steps c.requires c.steps_of_full_search.ensures some) in
    omega (arith, less, c.searched_by_numbers.ensures.fewer))
    c.searched_by_numbers.ensures.err

pub returns-in-Ok-Some-clause-hard : goal.returns-in-Ok-Some-clause-hard
returns-in-Ok-Some-clause-hard c =
    let q = c.args.problem in
    let steps = c.args.budget.steps in
    let own : c.args.left.now - (c.args.left.now - c.steps_of_full_search.result) ≡ full_steps steps =
    ap (λ (m : ℕ). m - (m - c.steps_of_full_search.result)) c.requires ∙ (ap (λ (m : ℕ). steps - (steps - m)) c.steps_of_full_search.ensures ∙ steps_above_floor steps) in
    let decided = subst (λ r. IsDecided (start q) (full_steps steps) r) c.in-Ok-Some.field-0-is
    (subst (λ (m : ℕ). IsDecided (start q) m c.in-Ok-Some.field-0) own c.in-Ok-Some.ensures.decided) in
    if_refused_map c.confirmed.result _ _
    (λ r h not_memory. none_within_refused q c.in-Ok-Some.winner c.in-Ok-Some.main steps decided (h not_memory))
    c.confirmed.ensures.refused
