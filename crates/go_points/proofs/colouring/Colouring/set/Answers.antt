use Rattle.go_points.proofs.Common.{ℕ, ◌*◌, ◌<◌, ◌∙◌, not, List, ap, ap₂, set, sym, Cell, packed_side}
use Rattle.go_points.proofs.Packing.{side_packed, on_packed, same_number, IsWrittenAt, written_packed, written_cells, stone_test, black_test}
use Rattle.go_points.proofs.colouring.Colouring.set.Goals as goal

pub number-number-requires : goal.number-number-requires
number-number-requires c = on_packed c.self.inside.size c.self.inside.stones c.self.inside.blacks c.args.self.now c.self.invariant c.self.view_is c.args.point c.requires

module _ (c : goal.After-write_bit-2) where
  written : IsWrittenAt c.self.inside.size c.number-number.result c.args.cell c.self.inside.stones c.self.inside.blacks c.write_bit.new.bits c.write_bit-2.new.bits
  written =
      let n = c.self.inside.size in
      let on : c.number-number.result < n * n = c.number-number.ensures.within in
      record {
        stone = c.write_bit.ensures.same ∙ ap not c.is_empty.ensures ∙ stone_test c.args.cell;
        black = c.write_bit-2.ensures.same ∙ c.is_stone_of.ensures ∙ black_test c.args.cell;
        other_stones = c.write_bit.ensures.others;
        other_blacks = c.write_bit-2.ensures.others;
        of_stones = c.write_bit.ensures.kept (n * n) on c.self.invariant.of_stones;
        of_blacks = c.write_bit-2.ensures.kept (n * n) on c.self.invariant.of_blacks;
      }

pub invariant_of-self : goal.invariant_of-self
invariant_of-self c =
    written_packed c.self.inside.size c.number-number.result c.args.cell c.self.inside.stones c.self.inside.blacks c.write_bit.new.bits c.write_bit-2.new.bits c.self.invariant (written c)

pub returns-clause-value : goal.returns-clause-value
returns-clause-value c =
    written_cells c.self.inside.size c.number-number.result c.args.cell c.self.inside.stones c.self.inside.blacks c.write_bit.new.bits c.write_bit-2.new.bits c.self.invariant (written c) c.number-number.ensures.within
    ∙ ap₂ (λ (d : List Cell) (k : ℕ). set d k c.args.cell) c.self.view_is
    (same_number c.self.inside.size c.self.inside.stones c.self.inside.blacks c.args.self.now c.self.invariant c.self.view_is c.args.point c.number-number.result c.number-number.ensures.value)

pub returns-clause-size : goal.returns-clause-size
returns-clause-size c =
    packed_side c.self.inside.size c.write_bit.new.bits c.write_bit-2.new.bits
    ∙ sym (side_packed c.self.inside.size c.self.inside.stones c.self.inside.blacks c.args.self.now c.self.invariant c.self.view_is)
