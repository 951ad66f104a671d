use Rattle.sgf_text.proofs.Common.{length, ◌-◌, ◌≡◌, ◌≤◌, drop, tokens_after}
use Rattle.sgf_text.proofs.text_tokens.TextTokensIterator.next.Given as goal

abbrev pub invariant-loop-self : goal.invariant-loop-self
invariant-loop-self l = record {
  within : l.self-inside.at ≤ length l.self-inside.text.now;
  left : tokens_after 0 l.self-inside.at (drop l.self-inside.at l.self-inside.text.now) ≡ l.fn.self;
}

abbrev pub decreases-loop-self : goal.decreases-loop-self
decreases-loop-self l = length l.self-inside.text.now - l.self-inside.at
