use Rattle.target_game.proofs.Common.{rules, ◌≡◌, ◌∷◌, [], List, ap, sym, ◌∙◌, subst, filter, All, Cell, side_of, repeats}
use Rattle.std.specs.Prelude.{slice_index_or}
use Rattle.target_game.proofs.Histories.{differs, once_with, all_with}
use Rattle.target_game.proofs.Standing.{stand_kept}
use Rattle.target_game.proofs.state.State.at_with.Goals as goal

pub with_history-requires-clause-sizes : goal.with_history-requires-clause-sizes
with_history-requires-clause-sizes g c =
    let n = c.args.problem.now.game.size in
    let first = c.args.colouring.now in
    let all = first ∷ filter (differs first) c.args.others.now in
    let is : c.as_slice.result.now ≡ all = c.as_slice.ensures.value ∙ c.in-Ok.ensures in
    let here : side_of (slice_index_or all 0 []) ≡ n = c.requires.size in
    subst (λ (xs : List (List Cell)). All (λ d. side_of d ≡ side_of (slice_index_or xs 0 [])) xs) (sym is)
    (all_with (λ d. side_of d ≡ side_of first) first c.args.others.now (λ i. side_of first)
    (λ k d low. c.requires.sizes k d low ∙ sym here))

pub with_history-requires-clause-once : goal.with_history-requires-clause-once
with_history-requires-clause-once g c =
    let first = c.args.colouring.now in
    let is : c.as_slice.result.now ≡ first ∷ filter (differs first) c.args.others.now = c.as_slice.ensures.value ∙ c.in-Ok.ensures in
    ap repeats is ∙ once_with first c.args.others.now c.requires.once

pub invariant_of-result : goal.invariant_of-result
invariant_of-result g c = (
  search rules,
  search rules,
  stand_kept c.args.problem.now.game c.in-Ok-with_history.played.size c.targets.result.now c.region.result.now c.defender.result c.begin.result (search rules) c.targets.ensures.value c.defender.ensures c.begin.ensures,
)
