use Rattle.gtp_core.proofs.Common.{◌≡◌, drop, words_of}
use Rattle.gtp_core.proofs.line.skip_spaces.Given as goal

abbrev pub invariant-loop-start : goal.invariant-loop-start
invariant-loop-start l = words_of (drop l.start l.text) ≡ words_of l.text
