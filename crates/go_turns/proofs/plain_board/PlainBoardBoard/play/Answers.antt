-- The cells go through the three steps of a move.
use Rattle.go_turns.proofs.Common.{◌∙◌, ap, side_of, number_of, after_move}
use Rattle.go_points.specs.Move.{taken_by_move}
use Rattle.go_points.proofs.Moves.{move_made, move_leaves, move_takes}
use Rattle.go_turns.proofs.plain_board.PlainBoardBoard.play.Goals as goal

pub invariant_of-self : goal.invariant_of-self
invariant_of-self c =
    let before = c.self.inside.colouring in
    move_leaves before c.set.new.self c.clear_colour-captured.new.colouring c.clear_colour-lost.new.colouring c.args.colour c.opponent.result (number_of (side_of before) c.args.point)
    c.set.ensures.value c.set.ensures.size c.opponent.ensures c.clear_colour-captured.ensures.cleared c.clear_colour-captured.ensures.size c.clear_colour-lost.ensures.cleared c.clear_colour-lost.ensures.size

pub returns-clause-ok : goal.returns-clause-ok
returns-clause-ok c =
    let before = c.self.inside.colouring in
    move_made before c.set.new.self c.clear_colour-captured.new.colouring c.clear_colour-lost.new.colouring c.args.colour c.opponent.result (number_of (side_of before) c.args.point)
    c.set.ensures.value c.set.ensures.size c.opponent.ensures c.clear_colour-captured.ensures.cleared c.clear_colour-captured.ensures.size c.clear_colour-lost.ensures.cleared
    ∙ ap (λ b. after_move (side_of b) b c.args.colour (number_of (side_of b) c.args.point)) c.self.view_is

pub returns-clause-taken : goal.returns-clause-taken
returns-clause-taken c =
    let before = c.self.inside.colouring in
    move_takes before c.set.new.self c.clear_colour-captured.new.colouring c.clear_colour-lost.new.colouring c.args.colour c.opponent.result (number_of (side_of before) c.args.point)
    c.set.ensures.value c.set.ensures.size c.opponent.ensures c.clear_colour-captured.ensures.cleared c.clear_colour-captured.ensures.size c.clear_colour-lost.ensures.cleared
    c.clear_colour-captured.result c.clear_colour-lost.result c.get.ensures.colouring.full c.clear_colour-captured.ensures.count c.clear_colour-lost.ensures.count
    ∙ ap (λ b. taken_by_move (side_of b) b c.args.colour (number_of (side_of b) c.args.point)) c.self.view_is
