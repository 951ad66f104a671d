use Rattle.std.proofs.Common.{rules, inl, inr}
use Rattle.tool_parts.proofs.program.exit_code.Goals as goal
use Rattle.tool_parts.proofs.program.exit_code.Goals.{in-Ok, in-Err}

pub returns : goal.returns
returns g c =
    elim c.match-words_of.branch [
      | in-Ok w ↦ (w.run-status.result, search rules, inl (_, _, _, _, _, _, _, w.run-status.ensures))
      | in-Err w ↦ (w.write_no_request-status.result, search rules, inr w.write_no_request-status.ensures)
    ]
