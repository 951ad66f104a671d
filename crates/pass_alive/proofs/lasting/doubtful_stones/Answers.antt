use Rattle.pass_alive.proofs.Common.{rules, List, sym, subst, side_of, Place, IsOn}
use Rattle.pass_alive.proofs.Members.{but_item}
use Rattle.pass_alive.proofs.Doubts.{IsTold, DoubtsSoFar, doubts_kept, doubts_more}
use Rattle.pass_alive.proofs.lasting.doubtful_stones.Goals as goal
use Rattle.pass_alive.proofs.lasting.doubtful_stones.Goals.{In-Some}

-- the stone is on the board
on : (c : In-Some) → IsOn (side_of c.args.board.now) c.in-Some.stone
on c =
    c.requires c.in-Some.stone
    (but_item (IsTold (side_of c.args.board.now) c.args.board.now c.args.region.now c.loop-stone.doubtful) c.args.stones.now c.loop-stone.stone-iterator c.next.new.self c.in-Some.stone c.in-Some.ensures.steps c.loop-stone.invariant.2.told)

pub is_beside_free-requires : goal.is_beside_free-requires
is_beside_free-requires c = on (goal.at.is_beside_free-requires c).In-Some

pub loop-stone-preserved-then-not-is_beside_free : goal.loop-stone-preserved-then-not-is_beside_free
loop-stone-preserved-then-not-is_beside_free c =
    let n = side_of c.args.board.now in (
      search rules,
      search rules,
      subst (λ (s : List Place). DoubtsSoFar n c.args.board.now c.args.region.now c.args.stones.now s c.next.new.self) (sym c.insert.ensures)
          (doubts_more n c.args.board.now c.args.region.now c.args.stones.now c.loop-stone.doubtful c.loop-stone.stone-iterator c.next.new.self c.in-Some.stone c.in-Some.ensures.steps c.loop-stone.invariant.2),
    )

pub loop-stone-preserved : goal.loop-stone-preserved
loop-stone-preserved c = (
  search rules,
  search rules,
  doubts_kept (side_of c.args.board.now) c.args.board.now c.args.region.now c.args.stones.now c.loop-stone.doubtful c.loop-stone.stone-iterator c.next.new.self c.in-Some.stone c.in-Some.ensures.steps c.loop-stone.invariant.2 (c.is_beside_free.ensures.0 c.if-not-is_beside_free.false),
)
