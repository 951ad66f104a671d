use Rattle.pass_alive.proofs.Common.{IsTrue, inl, sym, ◌∙◌, side_of, holds_place}
use Rattle.pass_alive.specs.Private.Areas.{is_due}
use Rattle.pass_alive.proofs.Spreading.{in_areas}
use Rattle.pass_alive.proofs.Left.{due_on, in_chain, left_late, left_safe, left_taken, due_within, due_kept, less_due_left, chain_left, more_from, more_kept, late_here, late_kept, late_among, less_put_off}
use Rattle.pass_alive.proofs.living.judge.Goals as goal

pub chain_at-requires : goal.chain_at-requires
chain_at-requires c =
    let cells = c.args.board.now in
    due_on (side_of cells) c.args.colour c.args.region.now cells (in_areas c.args.colour cells) c.args.stones.now (is_due c.args.due.now c.args.late.now) c.requires.so_far c.args.point c.requires.due

pub returns-then-len-gt-FEW_STONES-clause-so_far : goal.returns-then-len-gt-FEW_STONES-clause-so_far
returns-then-len-gt-FEW_STONES-clause-so_far c =
    let cells = c.args.board.now in
    let n = side_of cells in
    let k = c.args.colour in
    let stones = c.args.stones.now in
    let due = c.args.due.now in
    let late = c.args.late.now in
    let x = c.args.point in
    let chain = c.in-Some.chain in
    let of = c.in-Some.ensures.some in
    let is_in = in_chain n k c.args.region.now cells (in_areas k cells) stones (is_due due late) c.requires.so_far x c.requires.due chain of in
    left_late n k c.args.region.now cells (in_areas k cells) stones (is_due due late) c.requires.so_far x c.requires.due chain of (is_due c.take_out.new.set c.put_in.new.set)
    (late_among chain due late c.take_out.new.set c.put_in.new.set c.take_out.ensures c.put_in.ensures (λ p. IsTrue (holds_place stones p)) c.requires.so_far.among
    (chain_left n k c.args.region.now cells (in_areas k cells) stones (is_due due late) c.requires.so_far x c.requires.due chain of))
    (late_kept chain due late c.take_out.new.set c.put_in.new.set c.take_out.ensures c.put_in.ensures)
    (late_here chain due late c.take_out.new.set c.put_in.new.set c.take_out.ensures c.put_in.ensures x is_in)

pub returns-then-len-gt-FEW_STONES-clause-less : goal.returns-then-len-gt-FEW_STONES-clause-less
returns-then-len-gt-FEW_STONES-clause-less c =
    let cells = c.args.board.now in
    let stones = c.args.stones.now in
    let due = c.args.due.now in
    let late = c.args.late.now in
    let x = c.args.point in
    let chain = c.in-Some.chain in
    let is_in = in_chain (side_of cells) c.args.colour c.args.region.now cells (in_areas c.args.colour cells) stones (is_due due late) c.requires.so_far x c.requires.due chain c.in-Some.ensures.some in
    less_put_off chain due late c.take_out.new.set c.put_in.new.set c.take_out.ensures c.put_in.ensures stones x is_in (sym c.has.ensures ∙ c.if-has.true)

pub returns-then-is_safe-clause-so_far : goal.returns-then-is_safe-clause-so_far
returns-then-is_safe-clause-so_far c =
    let cells = c.args.board.now in
    let due = c.args.due.now in
    let late = c.args.late.now in
    let chain = c.in-Some.chain in
    left_safe (side_of cells) c.args.colour c.args.region.now cells (in_areas c.args.colour cells) c.args.stones.now (is_due due late) c.requires.so_far c.args.point c.requires.due chain c.in-Some.ensures.some
    (is_due c.take_out-2.new.set c.take_out-3.new.set)
    (due_within chain due late c.take_out-2.new.set c.take_out-3.new.set c.take_out-2.ensures c.take_out-3.ensures)
    (due_kept chain due late c.take_out-2.new.set c.take_out-3.new.set c.take_out-2.ensures c.take_out-3.ensures)
    (c.is_safe.ensures.sound c.if-is_safe.true)

pub returns-then-is_safe-clause-less : goal.returns-then-is_safe-clause-less
returns-then-is_safe-clause-less c =
    let cells = c.args.board.now in
    let stones = c.args.stones.now in
    let due = c.args.due.now in
    let late = c.args.late.now in
    let x = c.args.point in
    let chain = c.in-Some.chain in
    let is_in = in_chain (side_of cells) c.args.colour c.args.region.now cells (in_areas c.args.colour cells) stones (is_due due late) c.requires.so_far x c.requires.due chain c.in-Some.ensures.some in
    less_due_left chain due late c.take_out-2.new.set c.take_out-3.new.set c.take_out-2.ensures c.take_out-3.ensures stones x is_in c.requires.due

pub returns-clause-so_far : goal.returns-clause-so_far
returns-clause-so_far c =
    let cells = c.args.board.now in
    let stones = c.args.stones.now in
    let due = c.args.due.now in
    let late = c.args.late.now in
    let x = c.args.point in
    let chain = c.in-Some.chain in
    let less_due = c.take_out-2.new.set in
    let less_late = c.take_out-3.new.set in
    let fewer = c.take_out-4.new.set in
    let near = c.all_around.result in
    let more = c.add_stones_near.new.set in
    left_taken (side_of cells) c.args.colour c.args.region.now cells (in_areas c.args.colour cells) stones (is_due due late) c.requires.so_far x c.requires.due chain c.in-Some.ensures.some
    (λ may. cc (c.is_safe.ensures.complete may, c.if-is_safe.false)) fewer near (is_due more less_late) c.take_out-4.ensures c.all_around.ensures.all
    (more_from chain due late less_due less_late c.take_out-2.ensures c.take_out-3.ensures (side_of cells) fewer near more c.add_stones_near.ensures)
    (more_kept chain due late less_due less_late c.take_out-2.ensures c.take_out-3.ensures (side_of cells) fewer near more c.add_stones_near.ensures)
    c.add_stones_near.ensures.added

pub returns-clause-less : goal.returns-clause-less
returns-clause-less c =
    let cells = c.args.board.now in
    let stones = c.args.stones.now in
    let due = is_due c.args.due.now c.args.late.now in
    let x = c.args.point in
    let chain = c.in-Some.chain in
    let is_in = in_chain (side_of cells) c.args.colour c.args.region.now cells (in_areas c.args.colour cells) stones due c.requires.so_far x c.requires.due chain c.in-Some.ensures.some in
    inl (c.take_out-4.ensures.fewer x is_in (c.requires.so_far.among x c.requires.due))
