use Rattle.tsumego.proofs.Common.{◌≡◌, subst, refl, inl, inr, sym, ◌∙◌, Some, Command, Gtp, HasFailed, ReadFails, EndsOn, RanOn, Writes, no_memory_text, no_read_text, some_bytes}
use Rattle.tsumego_replies.specs.Asking.{MayAsk}
use Rattle.tsumego.proofs.Sessions.{ends_other, is_gtp}
use Rattle.std.specs.Prelude.{string_bytes}
use Rattle.tsumego_replies.specs.Replies.{IsReply}
use Rattle.tsumego.proofs.Running.{passes_limit, ran_said, ran_no_memory, ran_no_read}
use Rattle.tsumego.proofs.Answering.{ran_left}
use Rattle.tsumego.proofs.run.obey.Goals as goal

pub returns-then-is_session : goal.returns-then-is_session
returns-then-is_session g c =
    let told = g.R.Read.remaining c.args.reader.now.inner in let old = g.W.Write.contents c.args.writer.now.inner in let new = g.W.Write.contents c.serve_gtp.new.writer.inner in
    let reader = c.serve_gtp.new.reader in let writer = c.serve_gtp.new.writer in
    let session : c.args.command ≡ Gtp = is_gtp c.args.command (sym c.is_session.ensures ∙ c.if-is_session.true) in
    record {
      ran =
          subst (λ (k : Command). RanOn (Some k) told (ReadFails (Some k) reader.faults reader.interrupts) (HasFailed writer.faults writer.interrupts) c.serve_gtp.result old new) (sym session)
          c.serve_gtp.ensures.ran;
      asked = subst (λ (k : Command). MayAsk (Some k) told (g.R.Read.remaining reader.inner)) (sym session) c.serve_gtp.ensures.asked;
      ended = subst (λ (k : Command). EndsOn (Some k) c.serve_gtp.result told (g.R.Read.remaining reader.inner) old new) (sym session) c.serve_gtp.ensures.ended;
    }

pub returns-in-Ok-Text : goal.returns-in-Ok-Text
returns-in-Ok-Text g c =
    let told = g.R.Read.remaining c.args.reader.now.inner in let old = g.W.Write.contents c.args.writer.now.inner in let new = g.W.Write.contents c.write_text.new.writer.inner in
    let reader = c.answer_of.new.reader in let writer = c.write_text.new.writer in
    let fails = HasFailed writer.faults writer.interrupts in
    let reply = c.in-Ok-Text.reply in
    let said = c.in-Ok-Text.ensures.reply in
    let whole = sym c.is_session.ensures ∙ c.if-is_session.false in
    let ran = ran_said old new (string_bytes reply.text) fails c.args.command told (ReadFails (Some c.args.command) reader.faults reader.interrupts) said.0 reply.status c.write_text.result whole said.1
    (subst (IsReply c.args.command said.0) c.in-Ok-Text.field-0-is said.2) (subst (λ t. Writes fails old new t reply.status c.write_text.result) c.as_bytes.ensures.value c.write_text.ensures) in
    let left = g.R.Read.remaining reader.inner in
    record { ran = ran; asked = c.answer_of.ensures.asked; ended = ends_other told left old new c.args.command c.write_text.result (sym c.is_session.ensures ∙ c.if-is_session.false) }

pub returns-in-Ok-Solution : goal.returns-in-Ok-Solution
returns-in-Ok-Solution g c =
    let told = g.R.Read.remaining c.args.reader.now.inner in let old = g.W.Write.contents c.args.writer.now.inner in let new = g.W.Write.contents c.answer.new.writer.inner in
    let reader = c.answer_of.new.reader in let writer = c.answer.new.writer in
    let said = c.in-Ok-Solution.ensures.reply in
    let whole = sym c.is_session.ensures ∙ c.if-is_session.false in
    let ran = ran_left c.args.command told (ReadFails (Some c.args.command) reader.faults reader.interrupts) (HasFailed writer.faults writer.interrupts) said.0 c.in-Ok-Solution.checked c.in-Ok-Solution.proof c.in-Ok-Solution.lift c.answer.result old new whole said.1
    (subst (IsReply c.args.command said.0) c.in-Ok-Solution.field-0-is said.2) c.answer.ensures in
    let left = g.R.Read.remaining reader.inner in
    record { ran = ran; asked = c.answer_of.ensures.asked; ended = ends_other told left old new c.args.command c.answer.result (sym c.is_session.ensures ∙ c.if-is_session.false) }

pub returns-in-Ok-TooLong : goal.returns-in-Ok-TooLong
returns-in-Ok-TooLong g c =
    let told = g.R.Read.remaining c.args.reader.now.inner in let old = g.W.Write.contents c.args.writer.now.inner in let new = g.W.Write.contents c.write_text-in-Ok-TooLong.new.writer.inner in
    let reader = c.answer_of.new.reader in let writer = c.write_text-in-Ok-TooLong.new.writer in
    let said = c.in-Ok-TooLong.ensures.reply in
    let ran = ran_no_read old new no_read_text (HasFailed writer.faults writer.interrupts) c.args.command told (ReadFails (Some c.args.command) reader.faults reader.interrupts) said.0 c.write_text-in-Ok-TooLong.result said.1
    (inr (passes_limit c.args.command said.0 (subst (IsReply c.args.command said.0) c.in-Ok-TooLong.field-0-is said.2))) refl c.write_text-in-Ok-TooLong.ensures in
    let left = g.R.Read.remaining reader.inner in
    record { ran = ran; asked = c.answer_of.ensures.asked; ended = ends_other told left old new c.args.command c.write_text-in-Ok-TooLong.result (sym c.is_session.ensures ∙ c.if-is_session.false) }

pub returns-in-Err-Memory : goal.returns-in-Err-Memory
returns-in-Err-Memory g c =
    let told = g.R.Read.remaining c.args.reader.now.inner in let old = g.W.Write.contents c.args.writer.now.inner in let new = g.W.Write.contents c.write_text-in-Err-Memory.new.writer.inner in
    let reader = c.answer_of.new.reader in let writer = c.write_text-in-Err-Memory.new.writer in
    let ran = ran_no_memory old new no_memory_text (HasFailed writer.faults writer.interrupts) told (ReadFails (Some c.args.command) reader.faults reader.interrupts) (Some c.args.command) c.write_text-in-Err-Memory.result refl c.write_text-in-Err-Memory.ensures in
    let left = g.R.Read.remaining reader.inner in
    record { ran = ran; asked = c.answer_of.ensures.asked; ended = ends_other told left old new c.args.command c.write_text-in-Err-Memory.result (sym c.is_session.ensures ∙ c.if-is_session.false) }

pub returns-then-has_failed-clause-ran : goal.returns-then-has_failed-clause-ran
returns-then-has_failed-clause-ran g c =
    let told = g.R.Read.remaining c.args.reader.now.inner in let old = g.W.Write.contents c.args.writer.now.inner in let new = g.W.Write.contents c.write_text-then-has_failed.new.writer.inner in
    let reader = c.answer_of.new.reader in let writer = c.write_text-then-has_failed.new.writer in
    let all = some_bytes told in
    ran_no_read old new no_read_text (HasFailed writer.faults writer.interrupts) c.args.command told (ReadFails (Some c.args.command) reader.faults reader.interrupts) all.0 c.write_text-then-has_failed.result all.1
    (inl (c.has_failed.ensures.some c.if-has_failed.true)) refl c.write_text-then-has_failed.ensures

pub returns-else-has_failed-clause-ran : goal.returns-else-has_failed-clause-ran
returns-else-has_failed-clause-ran g c =
    let told = g.R.Read.remaining c.args.reader.now.inner in let old = g.W.Write.contents c.args.writer.now.inner in let new = g.W.Write.contents c.write_text-in-Err-Read.new.writer.inner in
    let reader = c.answer_of.new.reader in let writer = c.write_text-in-Err-Read.new.writer in
    ran_no_memory old new no_memory_text (HasFailed writer.faults writer.interrupts) told (ReadFails (Some c.args.command) reader.faults reader.interrupts) (Some c.args.command) c.write_text-in-Err-Read.result refl c.write_text-in-Err-Read.ensures

pub returns-then-has_failed-clause-ended : goal.returns-then-has_failed-clause-ended
returns-then-has_failed-clause-ended g c =
    ends_other (g.R.Read.remaining c.args.reader.now.inner) (g.R.Read.remaining c.answer_of.new.reader.inner) (g.W.Write.contents c.args.writer.now.inner) (g.W.Write.contents c.write_text-then-has_failed.new.writer.inner)
    c.args.command c.write_text-then-has_failed.result (sym c.is_session.ensures ∙ c.if-is_session.false)

pub returns-else-has_failed-clause-ended : goal.returns-else-has_failed-clause-ended
returns-else-has_failed-clause-ended g c =
    ends_other (g.R.Read.remaining c.args.reader.now.inner) (g.R.Read.remaining c.answer_of.new.reader.inner) (g.W.Write.contents c.args.writer.now.inner) (g.W.Write.contents c.write_text-in-Err-Read.new.writer.inner)
    c.args.command c.write_text-in-Err-Read.result (sym c.is_session.ensures ∙ c.if-is_session.false)
