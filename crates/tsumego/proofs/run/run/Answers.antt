use Rattle.tsumego.proofs.Common.{sym, subst, refl, HasFailed, ReadFails, no_memory_text}
use Rattle.std.proofs.Common.{map}
use Rattle.tsumego_words.specs.CommandLine.{command_of, IsWordsFault}
use Rattle.tsumego_replies.proofs.Judged.{may_ask_nothing}
use Rattle.tsumego.proofs.Running.{ran_no_words, ran_no_memory}
use Rattle.tsumego.proofs.Sessions.{ends_wordless, ends_written}
use Rattle.tsumego.proofs.run.run.Goals as goal

pub returns-in-Err-Words : goal.returns-in-Err-Words
returns-in-Err-Words g c =
    let reader = c.args.reader.now in let writer = c.write_text.new.writer in
    let command = command_of (map g.S.AsStr.text c.args.words.now) in
    let none = c.in-Err-Words.ensures.refused (subst IsWordsFault (sym c.in-Err-Words.field-0-is) tt) in
    let ran = ran_no_words (g.W.Write.contents c.args.writer.now.inner) (g.W.Write.contents writer.inner) c.as_bytes.result.now (HasFailed writer.faults writer.interrupts) (g.R.Read.remaining reader.inner)
    (ReadFails command reader.faults reader.interrupts) command c.write_text.result none c.write_text.ensures in
    let told = g.R.Read.remaining reader.inner in
    record { ran = ran; asked = may_ask_nothing command told; ended = ends_wordless told told (g.W.Write.contents c.args.writer.now.inner) (g.W.Write.contents writer.inner) command c.write_text.result none }

pub returns-in-Err-Memory : goal.returns-in-Err-Memory
returns-in-Err-Memory g c =
    let reader = c.args.reader.now in let writer = c.write_text-in-Err-Memory.new.writer in
    let command = command_of (map g.S.AsStr.text c.args.words.now) in
    let ran = ran_no_memory (g.W.Write.contents c.args.writer.now.inner) (g.W.Write.contents writer.inner) no_memory_text (HasFailed writer.faults writer.interrupts) (g.R.Read.remaining reader.inner)
    (ReadFails command reader.faults reader.interrupts) command c.write_text-in-Err-Memory.result refl c.write_text-in-Err-Memory.ensures in
    let told = g.R.Read.remaining reader.inner in
    let old = g.W.Write.contents c.args.writer.now.inner in
    let ended = ends_written told told old (g.W.Write.contents writer.inner) command (HasFailed writer.faults writer.interrupts) old no_memory_text c.write_text-in-Err-Memory.result c.write_text-in-Err-Memory.ensures in
    record { ran = ran; asked = may_ask_nothing command told; ended = ended }
