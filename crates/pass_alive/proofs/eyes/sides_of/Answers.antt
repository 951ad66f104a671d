use Rattle.pass_alive.proofs.Common.{rules, side_of}
use Rattle.pass_alive.proofs.Gathered.{gathering_item, gathering_more}
use Rattle.pass_alive.proofs.eyes.sides_of.Goals as goal

pub add_sides-requires : goal.add_sides-requires
add_sides-requires c =
    let cells = c.args.board.now in
    let n = side_of cells in
    c.requires c.in-Some.stone
    (gathering_item n cells c.args.chain.now c.loop-stone.stone-iterator c.next.new.self c.in-Some.stone c.in-Some.ensures.steps c.loop-stone.sides c.loop-stone.invariant.2)

pub loop-stone-preserved : goal.loop-stone-preserved
loop-stone-preserved c =
    let cells = c.args.board.now in
    let n = side_of cells in (
      search rules,
      search rules,
      gathering_more n cells c.args.chain.now c.loop-stone.stone-iterator c.next.new.self c.in-Some.stone c.in-Some.ensures.steps c.loop-stone.sides c.add_sides.new.sides c.add_sides.ensures c.loop-stone.invariant.2,
    )
