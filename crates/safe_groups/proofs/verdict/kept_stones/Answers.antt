use Rattle.safe_groups.proofs.Common.{◌≡◌, sym, ◌∙◌, ◌*◌, ◌<◌, ap, length, set, arith, length-set, side_of, number_of}
use Rattle.safe_groups.proofs.Verdicts.{kept_more}
use Rattle.safe_groups.proofs.verdict.kept_stones.Goals as goal

pub loop-number-preserved : goal.loop-number-preserved
loop-number-preserved c =
    let n = c.args.size in let stones = c.loop-number.stones in
    let on : c.loop-number.number < n * n = omega (arith, c.loop-number-test.true, c.area-number-end.ensures.value) in
    let there : number_of (side_of stones) c.point_at.result ≡ c.loop-number.number = ap (λ m. number_of m c.point_at.result) c.loop-number.invariant.0 ∙ c.point_at.ensures.number_back in (
      c.set.ensures.size ∙ c.loop-number.invariant.0,
      ap length c.set.ensures.value ∙ length-set stones (number_of (side_of stones) c.point_at.result) c.kept_cell-cell.result ∙ c.loop-number.invariant.1,
      kept_more n c.args.keeper c.args.begins.now stones c.set.new.self c.loop-number.number (number_of (side_of stones) c.point_at.result) c.kept_cell-cell.result c.loop-number.invariant.1 on there c.set.ensures.value c.kept_cell-cell.ensures c.loop-number.invariant.2,
    )
