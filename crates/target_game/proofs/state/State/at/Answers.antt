use Rattle.target_game.proofs.Common.{rules}
use Rattle.target_game.proofs.Standing.{stand_kept}
use Rattle.target_game.proofs.state.State.at.Goals as goal

pub invariant_of-result : goal.invariant_of-result
invariant_of-result g c = (
  search rules,
  search rules,
  stand_kept c.args.problem.now.game c.in-Ok.played.size c.targets.result.now c.region.result.now c.defender.result c.begin.result (search rules) c.targets.ensures.value c.defender.ensures c.begin.ensures,
)
