use Rattle.tsumego_replies.proofs.Common.{◌≡◌, ℕ, List, length, Consumes, AllWhite}
use Rattle.tsumego_replies.proofs.input.read_past_white.Given as goal

-- all that was read is white space
abbrev pub invariant-loop : goal.invariant-loop
invariant-loop g l =
    (white : List ℕ) × AllWhite white × (length white ≡ l.counter) × Consumes (g.R.Read.remaining l.initial.reader) (g.R.Read.remaining l.reader) white × (length l.byte ≡ 1)
