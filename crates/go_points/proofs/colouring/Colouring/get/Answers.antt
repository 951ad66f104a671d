use Rattle.go_points.proofs.Common.{ℕ, ◌*◌, ◌<◌, ◌∙◌, ap, sym, subst, cell_at}
use Rattle.go_points.proofs.Packing.{side_packed, on_packed, same_number, colouring_packed}
use Rattle.go_points.proofs.colouring.Colouring.get.Goals as goal

pub number-requires : goal.number-requires
number-requires c = on_packed c.self.inside.size c.self.inside.stones c.self.inside.blacks c.args.self.now c.self.invariant c.self.view_is c.args.point c.requires

pub cell-requires : goal.cell-requires
cell-requires c =
    subst (λ (m : ℕ). c.number.result < m * m) (sym (side_packed c.self.inside.size c.self.inside.stones c.self.inside.blacks c.args.self.now c.self.invariant c.self.view_is)) c.number.ensures.within

pub returns-clause-value : goal.returns-clause-value
returns-clause-value c =
    c.cell.ensures
    ∙ ap (cell_at c.args.self.now) (same_number c.self.inside.size c.self.inside.stones c.self.inside.blacks c.args.self.now c.self.invariant c.self.view_is c.args.point c.number.result c.number.ensures.value)

pub returns-clause-colouring : goal.returns-clause-colouring
returns-clause-colouring c = colouring_packed c.self.inside.size c.self.inside.stones c.self.inside.blacks c.args.self.now c.self.invariant c.self.view_is
