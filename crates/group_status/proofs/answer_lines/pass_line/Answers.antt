use Rattle.std.proofs.Common.{◌∙◌, codes, ap}
use Rattle.std.specs.Prelude.{string_bytes}
use Rattle.group_status.specs.After.{after_text, IsPassLine}
use Rattle.group_status.proofs.Saying.{said_of}
use Rattle.group_status.proofs.answer_lines.pass_line.Goals as goal

pub returns : goal.returns
returns c =
    let asked = c.args.asked.now in let status = c.status.result.now in let end = codes ", which needs no answer\n" in
    said_of string_bytes (IsPassLine asked c.args.proven.now) c.after_line.result (after_text asked status c.as_str.result.now end) c.after_line.ensures
    (status, c.status.ensures, ap (λ t. after_text asked status t end) (c.as_str.ensures.value ∙ c.in_ok-condition.ensures))
