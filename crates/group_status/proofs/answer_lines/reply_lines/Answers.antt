use Rattle.std.proofs.Common.{sym, subst}
use Rattle.std.specs.Prelude.{string_bytes}
use Rattle.group_status.specs.After.{IsReplyLine}
use Rattle.group_status.proofs.Saying.{begun_with}
use Rattle.group_status.proofs.answer_lines.reply_lines.Goals as goal

pub returns : goal.returns
returns c =
    let said = IsReplyLine c.args.asked.now c.args.proven.now in
    begun_with string_bytes said c.with_details.result c.as_str.result.now c.with_details.ensures (subst said (sym c.as_str.ensures.value) c.in_ok-line.ensures)
