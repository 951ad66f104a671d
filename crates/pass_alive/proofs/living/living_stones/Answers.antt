use Rattle.pass_alive.proofs.Common.{◌≤◌, ℕ, subst, MAX_POINTS, side_of}
use Rattle.pass_alive.specs.Private.Areas.{is_due}
use Rattle.pass_alive.proofs.Spreading.{in_areas}
use Rattle.pass_alive.proofs.Left.{left_first, left_last, less_left}
use Rattle.pass_alive.proofs.living.living_stones.Goals as goal

pub loop-point-init : goal.loop-point-init
loop-point-init c =
    let cells = c.args.board.now in
    left_first (side_of cells) c.args.colour c.args.region.now cells (in_areas c.args.colour cells) c.stones_of-stones.result c.doubtful_stones-due.result c.new-late.result c.stones_of-stones.ensures c.doubtful_stones-due.ensures.among c.doubtful_stones-due.ensures.outside c.new-late.ensures

pub loop-point-smaller : goal.loop-point-smaller
loop-point-smaller c =
    less_left c.loop-point.stones c.loop-point.due c.loop-point.late c.judge.new.stones c.judge.new.due c.judge.new.late MAX_POINTS (subst (λ (m : ℕ). m ≤ MAX_POINTS) c.len.ensures.value c.len.ensures.most)
    (subst (λ (m : ℕ). m ≤ MAX_POINTS) c.len-in-Some.ensures.value c.len-in-Some.ensures.most) c.judge.ensures.less

pub returns : goal.returns
returns c =
    let cells = c.args.board.now in
    left_last (side_of cells) c.args.colour c.args.region.now cells (in_areas c.args.colour cells) c.loop-point.stones (is_due c.loop-point.due c.loop-point.late) c.in_default.ensures.none c.loop-point.invariant
