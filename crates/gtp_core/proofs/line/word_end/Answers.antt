use Rattle.std.proofs.Common.{rules, ◌≡◌, false, nat_eq, get_or}
use Rattle.gtp_core.proofs.Orders.{none_taken}
use Rattle.gtp_core.proofs.line.word_end.Goals as goal

pub loop-end-preserved : goal.loop-end-preserved
loop-end-preserved c =
    let other : nat_eq (get_or c.args.text.now c.loop-end.end 0) 32 ≡ false = search rules in
    none_taken 32 c.args.text.now c.loop-end.end 0 c.loop-end-test.true c.loop-end.invariant other
