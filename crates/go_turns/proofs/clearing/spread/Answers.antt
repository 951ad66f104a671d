-- A sweep's step: the point is marked, or it stays as it was for one of three reasons.
use Rattle.go_turns.proofs.Common.{◌≡◌, ◌<◌, true, false, length, rules, list_any, both_ways, Stone, side_of, same_cell, cell_at, neighbours, number_of, same_cell_eq, eq_same_cell, is_marked}
use Rattle.go_turns.proofs.Marks.{spread_hit, spread_miss}
use Rattle.go_turns.proofs.clearing.spread.Goals as goal
use Rattle.go_turns.proofs.clearing.spread.Goals.{then-not-marks-number+then-are_same+then-touches, else-not-marks-number, else-not-marks-number-via-then-not-marks-number+then-are_same+else-touches, else-not-marks-number-via-then-not-marks-number+else-are_same, else-not-marks-number-via-else-not-marks-number}

pub loop-number-preserved : goal.loop-number-preserved
loop-number-preserved c =
    let cells = c.args.colouring.now in
    let n = side_of cells in
    let k = c.args.colour in
    let marks = c.loop-number.marks in
    let i = c.loop-number.number in
    let at : number_of n c.point_at-point.result ≡ i = cc in
    let within : i < length marks = search rules in
    let so_far = c.loop-number.invariant in
    elim c.if-not-marks-number.branch [
      | then-not-marks-number+then-are_same+then-touches w ↦
          (let stone : same_cell (cell_at cells i) (Stone k) ≡ true = cc in
          let touch : list_any (is_marked marks) (neighbours n i) ≡ true = cc in
          rw (w.marks-is, w.has_spread-is) (spread_hit n cells k c.args.marks.now marks c.loop-number.has_spread i within w.if-not-marks-number.true (same_cell_eq (cell_at cells i) (Stone k) stone) touch so_far))
      | else-not-marks-number w ↦ rw (w.marks-is, w.has_spread-is) (elim w.else-not-marks-number.branch [
        | else-not-marks-number-via-then-not-marks-number+then-are_same+else-touches w' ↦
            (let apart : list_any (is_marked marks) (neighbours n i) ≡ false = cc in
            spread_miss n cells k c.args.marks.now marks c.loop-number.has_spread i (λ stone touch. absurd (both_ways _ apart touch)) so_far)
        | else-not-marks-number-via-then-not-marks-number+else-are_same w' ↦
            (let other : same_cell (cell_at cells i) (Stone k) ≡ false = cc in
            spread_miss n cells k c.args.marks.now marks c.loop-number.has_spread i (λ stone touch. absurd (both_ways _ other (eq_same_cell (cell_at cells i) (Stone k) stone))) so_far)
        | else-not-marks-number-via-else-not-marks-number w' ↦
            spread_miss n cells k c.args.marks.now marks c.loop-number.has_spread i (λ stone touch. w'.if-not-marks-number.false) so_far
      ])
    ]
