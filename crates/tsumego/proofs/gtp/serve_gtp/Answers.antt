use Rattle.tsumego.proofs.Common.{subst, refl, Some, HasStoppedOn, Gtp, Failed, HasFailed, ReadFails, no_memory_text, no_read_text}
use Rattle.gtp_core.specs.declared.end.GtpEnd.{GtpEnd}
use Rattle.tsumego.proofs.Running.{ran_no_memory}
use Rattle.tsumego.proofs.Sessions.{ends_failed, ends_written, session_ends, session_read_fails, session_write_fails, writes_after}
use Rattle.tsumego.proofs.gtp.serve_gtp.Goals as goal

pub returns-in-Ok : goal.returns-in-Ok
returns-in-Ok g c =
    let reader = c.run_over.new.reader in let writer = c.run_over.new.writer in
    let told = g.R.Read.remaining c.args.reader.now.inner in let left = g.R.Read.remaining reader.inner in
    let ran = session_ends told left (g.W.Write.contents c.args.writer.now.inner) (HasFailed reader.faults reader.interrupts) (HasFailed writer.faults writer.interrupts)
    (g.W.Write.contents writer.inner) c.in-Ok.ensures.ok in
    record { ran = ran; asked = c.in-Ok.ensures.asked; ended = λ answered. c.in-Ok.ensures.ok }

pub returns-in-Err-Read : goal.returns-in-Err-Read
returns-in-Err-Read g c =
    let reader = c.run_over.new.reader in let mid = c.run_over.new.writer in let writer = c.write_text.new.writer in
    let told = g.R.Read.remaining c.args.reader.now.inner in let left = g.R.Read.remaining reader.inner in
    let old = g.W.Write.contents c.args.writer.now.inner in let before = g.W.Write.contents mid.inner in let new = g.W.Write.contents writer.inner in
    let reads = HasFailed reader.faults reader.interrupts in let writes = HasFailed mid.faults mid.interrupts in let fails = HasFailed writer.faults writer.interrupts in
    let ran = session_read_fails told left old reads fails writes before new c.write_text.result
    (subst (λ (e : GtpEnd). HasStoppedOn reads writes e told left old before) c.in-Err-Read.field-0-is c.in-Err-Read.ensures.err) c.write_text.ensures in
    record { ran = ran; asked = c.in-Err-Read.ensures.asked; ended = ends_written told left old new (Some Gtp) fails before no_read_text c.write_text.result c.write_text.ensures }

pub returns-in-Err-Write : goal.returns-in-Err-Write
returns-in-Err-Write g c =
    let reader = c.run_over.new.reader in let writer = c.run_over.new.writer in
    let told = g.R.Read.remaining c.args.reader.now.inner in let left = g.R.Read.remaining reader.inner in
    let old = g.W.Write.contents c.args.writer.now.inner in let new = g.W.Write.contents writer.inner in
    let reads = HasFailed reader.faults reader.interrupts in let writes = HasFailed writer.faults writer.interrupts in
    let ran = session_write_fails told left old reads writes new (subst (λ (e : GtpEnd). HasStoppedOn reads writes e told left old new) c.in-Err-Write.field-0-is c.in-Err-Write.ensures.err) in
    record { ran = ran; asked = c.in-Err-Write.ensures.asked; ended = ends_failed told left old new (Some Gtp) }

pub returns-in-Err-Memory : goal.returns-in-Err-Memory
returns-in-Err-Memory g c =
    let reader = c.run_over.new.reader in let mid = c.run_over.new.writer in let writer = c.write_text-in-Err-Memory.new.writer in
    let told = g.R.Read.remaining c.args.reader.now.inner in let left = g.R.Read.remaining reader.inner in
    let old = g.W.Write.contents c.args.writer.now.inner in let before = g.W.Write.contents mid.inner in let new = g.W.Write.contents writer.inner in
    let reads = HasFailed reader.faults reader.interrupts in let fails = HasFailed writer.faults writer.interrupts in
    let result = c.write_text-in-Err-Memory.result in
    let ran = ran_no_memory old new no_memory_text fails told (ReadFails (Some Gtp) reader.faults reader.interrupts) (Some Gtp) result refl
    (writes_after old before new fails no_memory_text Failed result
    (subst (λ (e : GtpEnd). HasStoppedOn reads (HasFailed mid.faults mid.interrupts) e told left old before) c.in-Err-Memory.field-0-is c.in-Err-Memory.ensures.err) c.write_text-in-Err-Memory.ensures) in
    record { ran = ran; asked = c.in-Err-Memory.ensures.asked; ended = ends_written told left old new (Some Gtp) fails before no_memory_text result c.write_text-in-Err-Memory.ensures }
