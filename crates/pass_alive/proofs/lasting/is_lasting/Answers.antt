use Rattle.go_points.specs.Grid.{side_of}
use Rattle.pass_alive.proofs.Tests.{lasting_by}
use Rattle.pass_alive.proofs.lasting.is_lasting.Goals as goal

pub returns : goal.returns
returns c = lasting_by (side_of c.args.board.now) c.args.board.now c.args.region.now c.args.chain.now c.requires c.are_beside_free.result c.are_beside_free.ensures
