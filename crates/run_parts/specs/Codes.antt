-- The exit code of a run by its status.
use Rattle.std.specs.Prelude.{ℕ}
use Rattle.run_parts.specs.declared.status.Status.{Status}
use Rattle.run_parts.specs.declared.status.Status.TheVariants.{Answered, Unanswered, Refused, BadWords, Failed}

abbrev pub code_of : Status → ℕ
code_of Answered = 0
code_of Unanswered = 1
code_of Refused = 2
code_of BadWords = 3
code_of Failed = 4
