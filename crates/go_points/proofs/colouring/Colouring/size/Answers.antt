use Rattle.std.proofs.Common.{sym}
use Rattle.go_points.proofs.Packing.{side_packed, colouring_packed}
use Rattle.go_points.proofs.colouring.Colouring.size.Goals as goal

pub returns-clause-value : goal.returns-clause-value
returns-clause-value c = sym (side_packed c.self.inside.size c.self.inside.stones c.self.inside.blacks c.args.self.now c.self.invariant c.self.view_is)

pub returns-clause-colouring : goal.returns-clause-colouring
returns-clause-colouring c = colouring_packed c.self.inside.size c.self.inside.stones c.self.inside.blacks c.args.self.now c.self.invariant c.self.view_is
