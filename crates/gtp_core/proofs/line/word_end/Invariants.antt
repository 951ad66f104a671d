use Rattle.gtp_core.proofs.Common.{take, HasNone}
use Rattle.gtp_core.proofs.line.word_end.Given as goal

abbrev pub invariant-loop-end : goal.invariant-loop-end
invariant-loop-end l = HasNone 32 (take l.end l.text)
