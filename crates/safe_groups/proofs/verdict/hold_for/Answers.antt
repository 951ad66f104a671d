use Rattle.safe_groups.proofs.Common.{◌≡◌, sym, ◌∙◌, ap, subst, true, map, list_all, cell_at, same_cell, Stone, side_of, number_of, AreKept}
use Rattle.safe_groups.specs.Ground.{HoldsOn}
use Rattle.safe_groups.proofs.Verdicts.{targets_kept}
use Rattle.safe_groups.proofs.verdict.hold_for.Goals as goal

pub returns-clause-holds : goal.returns-clause-holds
returns-clause-holds c =
    let q = c.args.problem.now in let gs = c.args.grounds.now in let begins = c.args.begins.now in let stones = c.in_ok-stones.stones in let points = c.targets.result.now in
    let areas : HoldsOn q q.game.defender gs begins = subst (λ k. HoldsOn q k gs begins) c.defender-keeper.ensures c.in_ok-stones.ensures.holds in
    let kept : AreKept q.game.defender begins stones = subst (λ k. AreKept k begins stones) c.defender-keeper.ensures c.in_ok-stones.ensures.kept in
    let all : list_all (λ x. same_cell (cell_at stones (number_of (side_of stones) x)) (Stone q.game.defender)) points ≡ true =
    subst (λ k. list_all (λ x. same_cell (cell_at stones (number_of (side_of stones) x)) (Stone k)) points ≡ true) c.defender-keeper.ensures (sym c.all_hold.ensures ∙ c.if-not-all_hold.false) in
    record {
      areas = areas;
      targets = targets_kept q gs begins stones points (side_of stones) areas.lengths kept (ap (λ m. map (number_of m) points) c.in_ok-stones.ensures.side ∙ c.targets.ensures.value) all;
    }
