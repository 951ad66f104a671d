use Rattle.std.proofs.Common.{subst}
use Rattle.go_points.specs.declared.Cell.TheVariants.{Stone}
use Rattle.go_points.specs.Grid.{cell_at, same_cell, side_of}
use Rattle.go_chains.specs.Joined.{HoldsThose}
use Rattle.proved_groups.proofs.Dying.{taken_now}
use Rattle.proved_groups.proofs.dead.supposed_by.Goals as goal

pub returns-in-Ok : goal.returns-in-Ok
returns-in-Ok c =
    let v = c.in-Ok.verdict in
    taken_now c.args.problem.now v.targets v.supposed c.stones_of.result c.in-Ok.ensures.sides.1 c.stones_of.ensures.colouring
    (subst (λ k. HoldsThose (side_of v.supposed) (λ p. same_cell (cell_at v.supposed p) (Stone k)) c.stones_of.result) c.in-Ok.ensures.killer c.stones_of.ensures.those)
    c.in-Ok.ensures.targets c.in-Ok.ensures.dead
