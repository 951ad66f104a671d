use Rattle.std.proofs.Common.{arith}
use Rattle.target_game.proofs.Facts.{facts}
use Rattle.target_game.proofs.problem.Problem.passes.Goals as goal

pub returns-clause-few : goal.returns-clause-few
returns-clause-few c = let f = facts c.self.inside.history.items c.self.inside.place c.self.inside.mover c.self.inside.passes c.self.inside.targets c.self.inside.region _ c.self.invariant in (let few = f.problem.passes in omega arith)
