use Rattle.go_points.proofs.Common.{◌∙◌, sym, refl, true, false, has_bit}
use Rattle.go_points.proofs.Packing.{room_packed, cell_packed}
use Rattle.go_points.proofs.colouring.Colouring.cell.Goals as goal

pub read_bit-requires : goal.read_bit-requires
read_bit-requires c = record { within = room_packed c.self.inside.size c.self.inside.stones c.self.inside.blacks c.args.self.now c.self.invariant c.self.view_is c.args.number c.requires }

pub read_bit-requires-else-not-read_bit : goal.read_bit-requires-else-not-read_bit
read_bit-requires-else-not-read_bit c = record { within = room_packed c.self.inside.size c.self.inside.stones c.self.inside.blacks c.args.self.now c.self.invariant c.self.view_is c.args.number c.requires }

pub returns-then-not-read_bit : goal.returns-then-not-read_bit
returns-then-not-read_bit c =
    let a = c.self.inside in
    sym (cell_packed a.size a.stones a.blacks c.args.self.now c.self.invariant c.self.view_is c.args.number false (has_bit a.blacks c.args.number) c.requires (sym c.if-not-read_bit.true ∙ c.read_bit.ensures) refl)

pub returns-then-read_bit : goal.returns-then-read_bit
returns-then-read_bit c =
    let a = c.self.inside in
    sym (cell_packed a.size a.stones a.blacks c.args.self.now c.self.invariant c.self.view_is c.args.number true true c.requires (sym c.if-not-read_bit.false ∙ c.read_bit.ensures) (sym c.if-read_bit.true ∙ c.read_bit-else-not-read_bit.ensures))

pub returns-else-read_bit : goal.returns-else-read_bit
returns-else-read_bit c =
    let a = c.self.inside in
    sym (cell_packed a.size a.stones a.blacks c.args.self.now c.self.invariant c.self.view_is c.args.number true false c.requires (sym c.if-not-read_bit.false ∙ c.read_bit.ensures) (sym c.if-read_bit.false ∙ c.read_bit-else-not-read_bit.ensures))
