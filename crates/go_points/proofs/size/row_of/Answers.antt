use Rattle.std.proofs.Common.{arith}
use Rattle.go_points.proofs.Reciprocals.{row_is, row_fits}
use Rattle.go_points.proofs.size.row_of.Goals as goal

-- src/size.rt:104:5
pub overflow_mul-result : goal.overflow_mul-result
overflow_mul-result c = omega (arith, row_fits c.args.rows c.args.number c.requires.least c.requires.most c.requires.within)

pub returns : goal.returns
returns c = row_is c.args.rows c.args.number c.requires.least c.requires.most c.requires.within
