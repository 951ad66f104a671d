use Rattle.std.proofs.Common.{◌≡◌, ◌++◌, ◌∷◌, [], codes, decimal}
use Rattle.cert_check.specs.Body.{Why}
use Rattle.tsumego_replies.specs.Texts.{claim_fault_text}
use Rattle.tsumego_replies.proofs.Phrases.{why_given}
use Rattle.short_proofs.proofs.judged.rejected_line.Goals as goal

pub returns : goal.returns
returns c =
    let given = why_given c.args.size c.args.reject.now.why c.requires.memory c.requires.read in
    ((λ e. absurd (cc e)), (λ e. (decimal c.args.reject.now.place ++ codes ": " ++ claim_fault_text c.args.size given.0 ++ 10 ∷ [], c.in_ok-text.ensures given.0 given.1)))
