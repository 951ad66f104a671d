use Rattle.std.proofs.Common.{◌∙◌, ap, ℕ, [], ◌∷◌, ◌+◌, rules}
use Rattle.tsumego_replies.proofs.Phrases.{letters_on, letters_off}
use Rattle.tsumego_replies.proofs.texts.letters_of.Goals as goal

pub returns-then-holds-clause-value : goal.returns-then-holds-clause-value
returns-then-holds-clause-value c = c.to_sgf.ensures ∙ letters_on c.args.size c.args.point (c.holds.ensures.0 c.if-holds.true)

pub returns-else-holds-clause-value : goal.returns-else-holds-clause-value
returns-else-holds-clause-value c = ap (λ (n : ℕ). 97 ∷ (97 + n) ∷ []) (search rules) ∙ letters_off c.args.size c.args.point c.area.ensures.least (search rules)
