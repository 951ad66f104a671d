use Rattle.std.proofs.Common.{◌≡◌, ◌++◌, codes, decimal}
use Rattle.short_proofs.proofs.judged.not_alive.Goals as goal

pub returns : goal.returns
returns c = ((λ e. absurd (cc e)), (λ e. (decimal c.args.place ++ codes ": C20 not alive by shape\n", c.in_ok-text.ensures.ok)))
