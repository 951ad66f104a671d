use Rattle.sgf_text.proofs.Common.{rules, arith, ◌≡◌, ◌<◌, length, ◌+◌, ◌-◌, ◌∷◌, get_or, take, drop, sym, ◌∙◌, ap, is_white, tokens_after}
use Rattle.std.proofs.Common.{false}
use Rattle.sgf_text.proofs.TokenLemmas.{tokens_step}
use Rattle.sgf_text.proofs.text_tokens.TextTokensIterator.next.Goals as goal
use Rattle.sgf_text.proofs.text_tokens.TextTokensIterator.next.Goals.{then-loop-self-test+else-is_white, else-loop-self-test}

-- the first of the tokens that are left
first : (c : goal.After-kind_of) → c.args.self.now ≡ record { kind = c.kind_of.result; text = take c.token_len-len.result (take (length c.loop-self.self-inside.text.now - c.loop-self.self-inside.at) (drop c.loop-self.self-inside.at c.loop-self.self-inside.text.now)); at = c.loop-self.self-inside.at }
    ∷ tokens_after 0 (c.loop-self.self-inside.at + c.token_len-len.result) (drop (c.loop-self.self-inside.at + c.token_len-len.result) c.loop-self.self-inside.text.now)
first c =
    let within : c.loop-self.self-inside.at < length c.loop-self.self-inside.text.now = omega arith in
    let solid : is_white (get_or c.loop-self.self-inside.text.now c.loop-self.self-inside.at 0) ≡ false =
    elim c.loop-self-test.branch [ then-loop-self-test+else-is_white w ↦ sym w.is_white.ensures ∙ w.if-is_white.false | else-loop-self-test w ↦ absurd (omega arith) ] in
    sym c.loop-self.invariant.left ∙ tokens_step c.loop-self.self-inside.text.now c.loop-self.self-inside.at within solid c.token_len-len.result c.kind_of.result c.token_len-len.ensures.len c.token_len-len.ensures.some c.kind_of.ensures

pub returns-clause-steps : goal.returns-clause-steps
returns-clause-steps c = first c

pub returns-clause-goes : goal.returns-clause-goes
returns-clause-goes c = let shorter = ap length (first c) in search rules
