use Rattle.go_turns.proofs.Common.{◌≡◌, ℕ, ◌*◌, ◌<◌, length, arith, rules, Empty, side_of, same_cell, cell_at, is_marked}
use Rattle.go_turns.proofs.Marks.{sound_start, seeds_start, marks_exact}
use Rattle.go_turns.proofs.clearing.mark_free.Goals as goal

pub sweeps-init : goal.sweeps-init
sweeps-init c =
    let cells = c.args.colouring.now in
    let n = side_of cells in
    let marks = c.loop-number.marks in
    let full : length marks ≡ n * n = search rules in
    let same : c.area-number-end.result ≡ n * n = cc in
    let first : (p : ℕ) → p < n * n → is_marked marks p ≡ same_cell (cell_at cells p) Empty = λ p on. c.loop-number.invariant p (omega arith) in
    record {
      sound = sound_start n cells c.args.colour marks full first;
      seeds = seeds_start n cells c.args.colour marks first;
    }

pub returns : goal.returns
returns c = marks_exact (side_of c.args.colouring.now) c.args.colouring.now c.args.colour c.spread.new.marks c.spread.ensures.sound c.spread.ensures.seeds (c.spread.ensures.closed c.sweeps-test.false)
