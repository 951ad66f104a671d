use Rattle.std.proofs.Common.{sym, subst}
use Rattle.std.specs.Prelude.{string_bytes}
use Rattle.group_status.specs.After.{IsPassFields}
use Rattle.group_status.proofs.Saying.{with_fields}
use Rattle.group_status.proofs.answer_lines.pass_object.Goals as goal

pub returns : goal.returns
returns c =
    let asked = c.args.asked.now in let said = IsPassFields asked c.args.proven.now in
    with_fields string_bytes asked.size asked.target said c.proved_object.result c.as_str.result.now c.proved_object.ensures (subst said (sym c.as_str.ensures.value) c.in_ok-fields.ensures)
