use Rattle.go_turns.proofs.Common.{◌*◌, ◌∙◌, ap, side_of, first_without_liberty}
use Rattle.go_points.proofs.Liberties.{no_stones}
use Rattle.go_turns.proofs.plain_board.PlainBoardBoard.new.Goals as goal

pub invariant_of-result : goal.invariant_of-result
invariant_of-result c = ap (first_without_liberty (side_of c.empty.result)) c.empty.ensures.value ∙ no_stones (side_of c.empty.result) (c.args.size * c.args.size)
