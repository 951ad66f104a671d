use Rattle.std.proofs.Common.{◌≡◌, ◌≤◌, drop}
use Rattle.gtp_core.specs.Lines.{number_from, max_number}
use Rattle.gtp_core.proofs.line.number_named.Given as goal

abbrev pub invariant-loop-place : goal.invariant-loop-place
invariant-loop-place l = (l.value ≤ max_number) × (number_from l.value (drop l.place l.word) ≡ number_from 0 l.word)
