use Rattle.target_game.proofs.Facts.{facts}
use Rattle.target_game.proofs.problem.Problem.history.Goals as goal

pub returns-clause-sides : goal.returns-clause-sides
returns-clause-sides c = let f = facts c.self.inside.history.items c.self.inside.place c.self.inside.mover c.self.inside.passes c.self.inside.targets c.self.inside.region _ c.self.invariant in rw (← c.self.view_is, c.as_slice.ensures.value) f.sides

pub returns-clause-problem : goal.returns-clause-problem
returns-clause-problem c = let f = facts c.self.inside.history.items c.self.inside.place c.self.inside.mover c.self.inside.passes c.self.inside.targets c.self.inside.region _ c.self.invariant in rw (← c.self.view_is) f.problem
