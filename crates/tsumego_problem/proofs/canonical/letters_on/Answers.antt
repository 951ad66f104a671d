use Rattle.std.proofs.Common.{◌≡◌, ◌≤◌, ℕ, ◌∷◌, [], ◌+◌, ◌∙◌, sym, ap, arith, true, false}
use Rattle.tsumego_problem.proofs.Recording.{letters_of, letters_past}
use Rattle.tsumego_problem.proofs.canonical.letters_on.Goals as goal

pub returns-then-holds : goal.returns-then-holds
returns-then-holds c = c.to_sgf.ensures ∙ letters_of c.args.size c.args.point (c.holds.ensures.0 c.if-holds.true)

pub returns-else-holds : goal.returns-else-holds
returns-else-holds c =
    ap (λ (r : ℕ). 97 ∷ (97 + r) ∷ []) c.rows-rows.ensures.value
    ∙ letters_past c.args.size c.args.point least (λ on. let both : true ≡ false = sym (c.holds.ensures.1 on) ∙ c.if-holds.false in cc)
  where
    least : 1 ≤ c.args.size
    least = omega (arith, c.rows-rows.ensures.value, c.rows-rows.ensures.least)
