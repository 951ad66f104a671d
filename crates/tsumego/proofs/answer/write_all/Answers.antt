use Rattle.std.proofs.Common.{arith, length, ap}
use Rattle.std.proofs.lemmas.List.{length-drop}
use Rattle.std.proofs.KnownBytes.{Appends-kept}
use Rattle.byte_writer.proofs.TakenLemmas.{part_taken, some_more, rest_is}
use Rattle.tsumego.proofs.answer.write_all.Goals as goal

pub returns-in-Err-clause-cut : goal.returns-in-Err-clause-cut
returns-in-Err-clause-cut g c = part_taken _ _ c.args.bytes.now c.loop-done.done (Appends-kept _ _ _ _ c.loop-done.invariant.written c.in-Err.ensures.bytes)

pub loop-done-preserved : goal.loop-done-preserved
loop-done-preserved g c =
    let e = rest_is c.args.bytes.now c.loop-done.done in
    let b = c.in-Ok.ensures.bound in
    let l = ap length e in
    let m = length-drop c.loop-done.done c.args.bytes.now in
    record {
      within = omega arith;
      written = some_more _ _ _ c.args.bytes.now c.loop-done.done c.in-Ok.n c.loop-done.invariant.written (rw e at c.in-Ok.ensures.bytes);
    }
