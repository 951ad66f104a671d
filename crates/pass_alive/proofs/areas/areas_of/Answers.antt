use Rattle.pass_alive.proofs.Common.{◌≡◌, ℕ, Some, subst, side_of, first_without_liberty, number_of}
use Rattle.pass_alive.proofs.Connected.{no_stone}
use Rattle.pass_alive.proofs.areas.areas_of.Goals as goal

pub returns-in-Err-clause-none : goal.returns-in-Err-clause-none
returns-in-Err-clause-none c =
    let cells = c.args.board.now in
    let filled = c.filled_around.result in
    no_stone (side_of cells) c.args.colour cells filled c.filled_around.ensures.cells (number_of (side_of cells) c.in-Err.field-0.point)
    (subst (λ (n : ℕ). first_without_liberty n filled ≡ Some (number_of n c.in-Err.field-0.point)) c.filled_around.ensures.size c.in-Err.ensures.fault)
