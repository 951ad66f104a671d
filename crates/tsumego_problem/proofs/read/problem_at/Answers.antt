use Rattle.tsumego_problem.proofs.Common.{sym, ◌∙◌, ap, ap₂, unwrap_or, side_of, place_in, problem_of}
use Rattle.tsumego_problem.proofs.Making.{problem_made}
use Rattle.tsumego_problem.proofs.Complete.{problem_is_made, not_refused}
use Rattle.tsumego_problem.proofs.read.problem_at.Goals as goal

pub returns-clause-ok : goal.returns-clause-ok
returns-clause-ok c =
    let r = c.args.played.now in
    problem_made c.args.size c.args.node.now r c.args.mover c.unwrap_or-place.result c.points_at-targets.result c.region_at-region.result c.in-Ok-new.problem
    c.colouring.ensures.within
    (ap side_of (sym c.colouring.ensures.value) ∙ c.colouring.ensures.size ∙ c.requires.size)
    (c.unwrap_or-place.ensures ∙ ap (λ o. unwrap_or o 0) (c.holds.ensures ∙ ap₂ place_in c.seen-2.ensures c.colouring.ensures.value))
    c.points_at-targets.ensures.value c.region_at-region.ensures.value
    (sym (ap₂ (λ h p. problem_of h c.unwrap_or-place.result c.args.mover p c.points_at-targets.result c.region_at-region.result) (c.in-Ok.ensures ∙ c.seen.ensures) c.passes.ensures.value)
    ∙ sym c.new.ensures ∙ c.in-Ok-new.is)

pub unreachable-requires : goal.unreachable-requires
unreachable-requires c =
    let r = c.args.played.now in let place = c.unwrap_or-place.result in let targets = c.points_at-targets.result in let region = c.region_at-region.result in
    let (q, made) = problem_is_made c.args.size c.area.ensures.least c.args.node.now r c.args.mover place targets region c.requires.reached
    c.colouring.ensures.within
    (ap side_of (sym c.colouring.ensures.value) ∙ c.colouring.ensures.size ∙ c.requires.size)
    (c.unwrap_or-place.ensures ∙ ap (λ o. unwrap_or o 0) (c.holds.ensures ∙ ap₂ place_in c.seen-2.ensures c.colouring.ensures.value))
    c.points_at-targets.ensures.value c.points_at-targets.ensures.on_board c.region_at-region.ensures.value c.region_at-region.ensures.on_board in
    not_refused q c.in-Err.field-0 (sym made
    ∙ sym (ap₂ (λ h p. problem_of h place c.args.mover p targets region) (c.in-Ok.ensures ∙ c.seen.ensures) c.passes.ensures.value)
    ∙ sym c.new.ensures ∙ c.in-Err.is)
