use Rattle.sgf_text.proofs.Common.{length, ◌-◌, ◌≡◌, ◌≤◌, ◌+◌, drop, false}
use Rattle.sgf_text.specs.Tokens.{value_rest_len}
use Rattle.sgf_text.proofs.token.value_rest_len.Given as goal

abbrev pub invariant-loop-len : goal.invariant-loop-len
invariant-loop-len l = record {
  within : l.len ≤ length l.text;
  so_far : l.len + value_rest_len l.escaped (drop l.len l.text) ≡ value_rest_len false l.text;
}

abbrev pub decreases-loop-len : goal.decreases-loop-len
decreases-loop-len l = length l.text - l.len
