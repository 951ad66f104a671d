use Rattle.gtp_core.proofs.Common.{◌≡◌, ℕ, List, HasNone, Gives, bounded, kept}
use Rattle.gtp_core.proofs.input.Input.next_line.Given as goal

abbrev pub invariant-loop-byte : goal.invariant-loop-byte
invariant-loop-byte g l =
    (line : List ℕ) × HasNone 10 line × (l.line.items ≡ kept line) × Gives (bounded l.initial.self (g.R.Read.remaining l.initial.reader)) (bounded l.self (g.R.Read.remaining l.reader)) line

abbrev pub decreases-loop-byte : goal.decreases-loop-byte
decreases-loop-byte g l = l.self.room
