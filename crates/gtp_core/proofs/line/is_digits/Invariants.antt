use Rattle.std.proofs.Common.{◌≡◌, drop}
use Rattle.std.specs.Str.{all_ascii_digits}
use Rattle.gtp_core.proofs.line.is_digits.Given as goal

abbrev pub invariant-loop-place : goal.invariant-loop-place
invariant-loop-place l = all_ascii_digits (drop l.place l.word) ≡ all_ascii_digits l.word
