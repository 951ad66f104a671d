use Rattle.target_game.proofs.Common.{sym, ◌∙◌, ap, cond, Some, None, cell_at, side_of, Place, number_of}
use Rattle.target_game.proofs.Loops.{colour_is}
use Rattle.target_game.proofs.questions.colour_at.Goals as goal

pub returns-then-all_hold : goal.returns-then-all_hold
returns-then-all_hold c =
    let f = λ (p : Place). cell_at c.args.colouring.now (number_of (side_of c.args.colouring.now) p) in
    sym (colour_is f c.args.points.now c.in_ok-first.first c.in-Stone.colour c.all_hold.result (sym c.first.ensures.value ∙ c.in_ok-first.was) (sym c.get.ensures.value ∙ c.in-Stone.is) c.all_hold.ensures
    ∙ ap (λ b. cond b (Some c.in-Stone.colour) None) c.if-all_hold.true)

pub returns-else-all_hold : goal.returns-else-all_hold
returns-else-all_hold c =
    let f = λ (p : Place). cell_at c.args.colouring.now (number_of (side_of c.args.colouring.now) p) in
    sym (colour_is f c.args.points.now c.in_ok-first.first c.in-Stone.colour c.all_hold.result (sym c.first.ensures.value ∙ c.in_ok-first.was) (sym c.get.ensures.value ∙ c.in-Stone.is) c.all_hold.ensures
    ∙ ap (λ b. cond b (Some c.in-Stone.colour) None) c.if-all_hold.false)
