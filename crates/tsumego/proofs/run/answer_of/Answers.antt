use Rattle.std.proofs.Common.{◌≡◌, ◌++◌, [], length, arith, Some, ◌∙◌, ap, sym, subst}
use Rattle.std.specs.Prelude.{IfOk}
use Rattle.std.specs.Io.KnownBytes.{Consumes}
use Rattle.tsumego_replies.specs.Replies.{IsReplyAfter}
use Rattle.tsumego_replies.proofs.Saying.{all_told}
use Rattle.tsumego_replies.proofs.Judged.{may_ask, may_ask_on, replied_to_all, replied_to_whole}
use Rattle.tsumego.proofs.run.answer_of.Goals as goal

pub returns-in-Ok-Whole-clause-reply : goal.returns-in-Ok-Whole-clause-reply
returns-in-Ok-Whole-clause-reply g c =
    let read = c.in-Ok-Whole.ensures.bytes in
    let old = g.R.Read.remaining c.args.reader.now in
    let held : c.as_slice.result.now ≡ read.0 = c.as_slice.ensures.value ∙ read.1 ∙ ap (λ xs. xs ++ read.0) c.new-front.ensures.items in
    let tells = all_told old (g.R.Read.remaining c.read_to_limit.new.reader) read.0 read.2 (c.in-Ok-Whole.ensures.end c.in-Ok-Whole.field-0-is) in
    replied_to_whole c.args.command old read.0 c.reply_to.result tells (subst (λ l. IfOk c.reply_to.result (λ r. IsReplyAfter c.args.command l (Some []) r)) held
    (subst (λ k. IfOk c.reply_to.result (λ r. IsReplyAfter c.args.command c.as_slice.result.now (Some k) r)) c.as_slice-nothing.ensures c.reply_to.ensures.reply))

pub returns-in-Ok-Full-clause-reply : goal.returns-in-Ok-Full-clause-reply
returns-in-Ok-Full-clause-reply g c =
    let read = c.in-Ok-Full.ensures.bytes in
    let old = g.R.Read.remaining c.args.reader.now in let told = g.R.Read.remaining c.read_to_limit.new.reader in
    let held : c.as_slice-in-Ok-Full.result.now ≡ read.0 = c.as_slice-in-Ok-Full.ensures.value ∙ read.1 ∙ ap (λ xs. xs ++ read.0) c.new-front.ensures.items in
    replied_to_all c.args.command old told c.as_slice-in-Ok-Full.result.now c.reply_to-in-Ok-Full.result (subst (λ l. Consumes old told l) (sym held) read.2) c.reply_to-in-Ok-Full.ensures.reply

pub returns-in-Ok-Whole-clause-asked : goal.returns-in-Ok-Whole-clause-asked
returns-in-Ok-Whole-clause-asked g c =
    let asked = c.in-Ok-Whole.ensures.asked in
    let none = ap length c.new-front.ensures.items in
    let few = asked.2 in
    may_ask c.args.command (g.R.Read.remaining c.args.reader.now) (g.R.Read.remaining c.read_to_limit.new.reader) asked.0 asked.1 (omega (arith, none, few))

pub returns-in-Ok-Full-clause-asked : goal.returns-in-Ok-Full-clause-asked
returns-in-Ok-Full-clause-asked g c =
    let read = c.in-Ok-Full.ensures.bytes in
    let old = g.R.Read.remaining c.args.reader.now in let told = g.R.Read.remaining c.read_to_limit.new.reader in
    let held : c.as_slice-in-Ok-Full.result.now ≡ read.0 = c.as_slice-in-Ok-Full.ensures.value ∙ read.1 ∙ ap (λ xs. xs ++ read.0) c.new-front.ensures.items in
    let full = c.in-Ok-Full.ensures.full c.in-Ok-Full.field-0-is in
    let long = ap length c.as_slice-in-Ok-Full.ensures.value in
    may_ask_on c.args.command old told (g.R.Read.remaining c.reply_to-in-Ok-Full.new.reader) c.as_slice-in-Ok-Full.result.now (subst (λ l. Consumes old told l) (sym held) read.2) (omega (arith, full, long))
    c.reply_to-in-Ok-Full.ensures.asked
