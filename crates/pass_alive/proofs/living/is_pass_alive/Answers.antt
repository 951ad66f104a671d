use Rattle.go_points.specs.Grid.{side_of}
use Rattle.pass_alive.proofs.Left.{pass_alive_by}
use Rattle.pass_alive.proofs.living.is_pass_alive.Goals as goal

pub returns : goal.returns
returns c = pass_alive_by (side_of c.args.board.now) c.args.defender c.args.targets.now c.args.region.now c.args.board.now c.living_stones.result c.living_stones.ensures c.are_members.result c.are_members.ensures
