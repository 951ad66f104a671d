use Rattle.std.proofs.Common.{◌≡◌, ◌++◌, ◌∷◌, [], decimal, string_bytes}
use Rattle.short_proofs.proofs.standing.rejected.Goals as goal

pub returns-in_ok-text-in-Fault : goal.returns-in_ok-text-in-Fault
returns-in_ok-text-in-Fault c = ((λ e. absurd (cc e)), (λ e. (decimal c.args.reject.now.line ++ (58 ∷ 32 ∷ (string_bytes c.in_ok-why-in-Fault.why ++ 10 ∷ [])), c.in_ok-text-in-Fault.ensures.ok)))
