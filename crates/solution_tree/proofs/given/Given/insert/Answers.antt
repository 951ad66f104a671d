use Rattle.solution_tree.proofs.Turns.{move_put}
use Rattle.solution_tree.proofs.given.Given.insert.Goals as goal

pub returns-in-At : goal.returns-in-At
returns-in-At c n turns on had = move_put n c.args.self.now c.args.turn c.in-At.point c.insert.new.self turns c.in-At.is c.insert.ensures on had
