use Rattle.target_game.proofs.Common.{sym, subst}
use Rattle.target_game.specs.Private.Stand.{StandIn}
use Rattle.target_game.proofs.Standing.{begins}
use Rattle.target_game.proofs.problem.Problem.begin.Goals as goal

pub returns : goal.returns
returns c =
    let q = c.args.self.now in
    subst (StandIn q.game) (sym c.colouring.ensures) (begins q c.history-history.ensures.problem)
