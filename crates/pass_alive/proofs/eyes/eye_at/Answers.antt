use Rattle.pass_alive.proofs.Common.{◌≤◌, ℕ, sym, ◌∙◌, ap, subst, MAX_POINTS, side_of, with_place, these, areas_in}
use Rattle.pass_alive.proofs.Spreading.{in_areas, first_held, first_none, left_on, left_inside, spread_first, spread_more, spread_fails, more_fail, spread_less, spread_all}
use Rattle.pass_alive.proofs.eyes.eye_at.Goals as goal

pub loop-next-init : goal.loop-next-init
loop-next-init c =
    let cells = c.args.board.now in
    let n = side_of cells in
    let k = c.args.colour in (
      spread_first n k cells (areas_in k cells) (in_areas k cells) (these n c.args.stones.now) (these n c.args.chain.now) c.args.point c.requires.on c.requires.inside c.insert.new.self
          (c.insert.ensures ∙ ap (λ s. with_place s c.args.point) c.new-area.ensures),
      c.requires.failed,
    )

pub look_at-requires-clause-on : goal.look_at-requires-clause-on
look_at-requires-clause-on c =
    let cells = c.args.board.now in
    let n = side_of cells in
    let k = c.args.colour in
    left_on n k cells (areas_in k cells) (in_areas k cells) (these n c.args.stones.now) (these n c.args.chain.now) c.args.point c.requires.on c.requires.inside c.loop-next.area c.loop-next.left c.loop-next.invariant.0
    c.in-Some.next (first_held c.loop-next.left c.in-Some.next (sym c.in-Some.ensures.value))

pub look_at-requires-clause-inside : goal.look_at-requires-clause-inside
look_at-requires-clause-inside c =
    let cells = c.args.board.now in
    let n = side_of cells in
    let k = c.args.colour in
    left_inside n k cells (areas_in k cells) (in_areas k cells) (these n c.args.stones.now) (these n c.args.chain.now) c.args.point c.requires.on c.requires.inside c.loop-next.area c.loop-next.left c.loop-next.invariant.0
    c.in-Some.next (first_held c.loop-next.left c.in-Some.next (sym c.in-Some.ensures.value))

pub look_at-requires-clause-failed : goal.look_at-requires-clause-failed
look_at-requires-clause-failed c = c.loop-next.invariant.1

pub returns-then-not-look_at-clause-none : goal.returns-then-not-look_at-clause-none
returns-then-not-look_at-clause-none c =
    let cells = c.args.board.now in
    let n = side_of cells in
    let k = c.args.colour in
    spread_fails n k cells (areas_in k cells) (in_areas k cells) (these n c.args.stones.now) (these n c.args.chain.now) c.args.point c.requires.on c.requires.inside c.loop-next.area c.loop-next.left c.loop-next.invariant.0
    c.in-Some.next (first_held c.loop-next.left c.in-Some.next (sym c.in-Some.ensures.value)) c.look_at.new.area c.look_at.new.left c.look_at.ensures.met
    (c.look_at.ensures.fails c.if-not-look_at.true)

pub returns-then-not-look_at-clause-failed : goal.returns-then-not-look_at-clause-failed
returns-then-not-look_at-clause-failed c =
    let cells = c.args.board.now in
    let n = side_of cells in
    let k = c.args.colour in
    more_fail n k cells (areas_in k cells) (in_areas k cells) (these n c.args.stones.now) (these n c.args.chain.now) c.args.point c.requires.on c.requires.inside c.loop-next.area c.loop-next.left c.loop-next.invariant.0
    c.in-Some.next (first_held c.loop-next.left c.in-Some.next (sym c.in-Some.ensures.value)) c.look_at.new.area c.look_at.new.left c.look_at.ensures.met
    (c.look_at.ensures.fails c.if-not-look_at.true) c.loop-next.failed c.put_in.new.set c.loop-next.invariant.1 c.put_in.ensures

pub loop-next-smaller : goal.loop-next-smaller
loop-next-smaller c =
    let cells = c.args.board.now in
    let n = side_of cells in
    let k = c.args.colour in
    spread_less n k cells (areas_in k cells) (in_areas k cells) (these n c.args.stones.now) (these n c.args.chain.now) c.args.point c.requires.on c.requires.inside c.loop-next.area c.loop-next.left c.loop-next.invariant.0
    c.in-Some.next (first_held c.loop-next.left c.in-Some.next (sym c.in-Some.ensures.value)) c.look_at.new.area c.look_at.new.left c.look_at.ensures.met
    MAX_POINTS (subst (λ (m : ℕ). m ≤ MAX_POINTS) c.len.ensures.value c.len.ensures.most)

pub loop-next-preserved : goal.loop-next-preserved
loop-next-preserved c =
    let cells = c.args.board.now in
    let n = side_of cells in
    let k = c.args.colour in (
      spread_more n k cells (areas_in k cells) (in_areas k cells) (these n c.args.stones.now) (these n c.args.chain.now) c.args.point c.requires.on c.requires.inside c.loop-next.area c.loop-next.left c.loop-next.invariant.0
          c.in-Some.next (first_held c.loop-next.left c.in-Some.next (sym c.in-Some.ensures.value)) c.look_at.new.area c.look_at.new.left c.look_at.ensures.met
          (c.look_at.ensures.near c.if-not-look_at.false) (c.look_at.ensures.closed c.if-not-look_at.false),
      c.loop-next.invariant.1,
    )

pub returns-clause-some : goal.returns-clause-some
returns-clause-some c =
    let cells = c.args.board.now in
    let n = side_of cells in
    let k = c.args.colour in
    spread_all n k cells (areas_in k cells) (in_areas k cells) (these n c.args.stones.now) (these n c.args.chain.now) c.args.point c.requires.on c.requires.inside c.loop-next.area c.loop-next.left c.loop-next.invariant.0
    (first_none c.loop-next.left (sym c.in_default.ensures.value))

pub returns-clause-failed : goal.returns-clause-failed
returns-clause-failed c = c.loop-next.invariant.1
