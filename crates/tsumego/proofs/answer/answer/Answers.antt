use Rattle.tsumego.proofs.Common.{refl, subst, HasFailed, MayAnswer, Writes, no_memory_text}
use Rattle.tsumego.proofs.Answering.{answers_no_failure, left_no_memory, left_said}
use Rattle.tsumego.proofs.answer.answer.Goals as goal

pub returns-in-Ok : goal.returns-in-Ok
returns-in-Ok g c =
    let k = c.args.checked.now in
    let old = g.W.Write.contents c.args.writer.now.inner in let new = g.W.Write.contents c.write_text.new.writer.inner in
    let fails = HasFailed c.write_text.new.writer.faults c.write_text.new.writer.interrupts in
    let said = c.in-Ok.said in
    left_said (MayAnswer c.args.proof c.args.lift k) fails old new said.text.items said.status c.write_text.result c.in-Ok.ensures (answers_no_failure c.args.proof c.args.lift k said.status said.text.items c.in-Ok.ensures)
    (subst (λ t. Writes fails old new t said.status c.write_text.result) c.as_slice.ensures.value c.write_text.ensures)

pub returns-in-Err : goal.returns-in-Err
returns-in-Err g c =
    let old = g.W.Write.contents c.args.writer.now.inner in
    let new = g.W.Write.contents c.write_text-in-Err.new.writer.inner in
    let fails = HasFailed c.write_text-in-Err.new.writer.faults c.write_text-in-Err.new.writer.interrupts in
    left_no_memory (MayAnswer c.args.proof c.args.lift c.args.checked.now) fails old new no_memory_text c.write_text-in-Err.result refl c.write_text-in-Err.ensures
