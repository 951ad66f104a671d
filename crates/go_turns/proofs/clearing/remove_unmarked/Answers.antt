use Rattle.go_turns.proofs.Common.{◌≡◌, ◌*◌, ◌<◌, true, false, ◌∙◌, arith, rules, Stone, side_of, same_cell, cell_at, number_of, same_cell_eq}
use Rattle.go_turns.proofs.Removal.{captured_yes, captured_other, captured_marked, cleared_hit, cleared_miss, cleared_all}
use Rattle.go_turns.proofs.clearing.remove_unmarked.Goals as goal
use Rattle.go_turns.proofs.clearing.remove_unmarked.Goals.{then-not-marks-number+then-are_same, else-not-marks-number, else-not-marks-number-via-then-not-marks-number+else-are_same, else-not-marks-number-via-else-not-marks-number}

pub loop-number-preserved : goal.loop-number-preserved
loop-number-preserved c =
    let old = c.args.colouring.now in
    let n = side_of old in
    let new = c.loop-number.colouring in
    let k = c.args.colour in
    let marks = c.args.marks.now in
    let i = c.loop-number.number in
    let so_far = c.loop-number.invariant.so_far in
    let side = c.loop-number.invariant.side in
    let at : number_of (side_of new) c.point_at-point.result ≡ i = cc in
    let on : i < n * n = search rules in
    let same : cell_at new i ≡ cell_at old i = so_far.rest i (omega arith) in
    elim c.if-not-marks-number.branch [
      | then-not-marks-number+then-are_same w ↦
          (let stone : same_cell (cell_at new i) (Stone k) ≡ true = cc in
          let was : same_cell (cell_at old i) (Stone k) ≡ true = cc in
          let captured = captured_yes n old k marks c.requires.free i on was w.if-not-marks-number.true in
          rw (w.colouring-is, w.removed-is) (record {
            side = w.set.ensures.size ∙ side;
            so_far = rw w.set.ensures.value (rw at (cleared_hit n old k new c.loop-number.removed i on captured (same_cell_eq (cell_at new i) (Stone k) stone) so_far));
          }))
      | else-not-marks-number w ↦ rw (w.colouring-is, w.removed-is) (elim w.else-not-marks-number.branch [
        | else-not-marks-number-via-then-not-marks-number+else-are_same w' ↦
            (let other : same_cell (cell_at old i) (Stone k) ≡ false = cc in
            record { side = side; so_far = cleared_miss n old k new c.loop-number.removed i (captured_other n old k marks c.requires.free i other) so_far })
        | else-not-marks-number-via-else-not-marks-number w' ↦
            record { side = side; so_far = cleared_miss n old k new c.loop-number.removed i (captured_marked n old k marks c.requires.free i on w'.if-not-marks-number.false) so_far }
      ])
    ]

pub returns-clause-cleared : goal.returns-clause-cleared
returns-clause-cleared c =
    let n = side_of c.args.colouring.now in
    let done : c.loop-number.number ≡ n * n = search rules in
    cleared_all n c.args.colouring.now c.args.colour c.loop-number.colouring c.loop-number.removed (rw done at c.loop-number.invariant.so_far)
