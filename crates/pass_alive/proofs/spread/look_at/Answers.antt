use Rattle.pass_alive.proofs.Common.{ℕ, sym, ◌∙◌, subst, side_of, number_of, these, IsNear, areas_in}
use Rattle.pass_alive.proofs.Spreading.{in_areas, gap_fails}
use Rattle.pass_alive.proofs.Tests.{eye_here}
use Rattle.pass_alive.proofs.spread.look_at.Goals as goal
use Rattle.pass_alive.proofs.spread.look_at.Goals.{then-has-via-then-has, then-has-via-else-has+then-not-is_near}
use Rattle.go_points.proofs.Sides.{number_below}

pub returns-then-has-clause-fails : goal.returns-then-has-clause-fails
returns-then-has-clause-fails c failed eye =
    let cells = c.args.board.now in
    let n = side_of cells in
    let p = number_of n c.args.point in
    let chain = c.args.chain.now in
    elim c.then-has.branch [
      | then-has-via-then-has w ↦ (c.requires.failed c.args.point (sym c.has.ensures ∙ w.if-has.true)).1 eye
      | then-has-via-else-has+then-not-is_near w ↦
          (let near : IsNear n (these n chain) p = eye_here n (areas_in c.args.colour cells) (these n c.args.stones.now) (these n chain) p (number_below n c.args.point c.requires.on) eye in
          cc (w.is_near.ensures.1 (subst (λ (m : ℕ). IsNear m (these m chain) (number_of m c.args.point)) (sym w.size.ensures) near), w.if-not-is_near.true))
    ]

pub returns-clause-fails : goal.returns-clause-fails
returns-clause-fails c failed =
    let cells = c.args.board.now in
    let n = side_of cells in
    let k = c.args.colour in
    let gap = c.meet_around.ensures.gap failed in
    gap_fails n k cells (areas_in k cells) (in_areas k cells) (these n c.args.stones.now) (these n c.args.chain.now) (number_of n c.args.point) gap.0 gap.1 gap.2
