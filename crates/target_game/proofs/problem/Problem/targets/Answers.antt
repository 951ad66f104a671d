use Rattle.target_game.proofs.Facts.{facts}
use Rattle.target_game.proofs.problem.Problem.targets.Goals as goal

pub returns-clause-on_board : goal.returns-clause-on_board
returns-clause-on_board c = let f = facts c.self.inside.history.items c.self.inside.place c.self.inside.mover c.self.inside.passes c.self.inside.targets c.self.inside.region _ c.self.invariant in rw (← c.self.view_is) f.targets_on
