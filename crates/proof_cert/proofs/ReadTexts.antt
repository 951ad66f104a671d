-- A claim within the limits is read from its text.
use Rattle.proof_cert.proofs.Common.{◌≡◌, ℕ, List, Some, sym, ap, ◌∙◌, Claim, IsWithinLimits, lines_of, text, lines, claim_read}
use Rattle.proof_cert.proofs.Texts.{lines_of_texts}
use Rattle.proof_cert.proofs.Unique.{claim_writes}
use Rattle.proof_cert.proofs.ReadComplete.{claim_comes}

pub text_is_read : (n : ℕ) (bytes : List ℕ) (z : Claim) → z.size ≡ n → text z ≡ Some bytes → IsWithinLimits z → claim_read n (record { lines = lines n bytes; nodes = 0; listed = 0 }) ≡ Some z
text_is_read n bytes z size e within =
    let both = (lines_of_texts z.size bytes (lines_of z)).0 e in
    ap (λ m. claim_read m (record { lines = lines m bytes; nodes = 0; listed = 0 })) (sym size)
    ∙ ap (λ ls. claim_read z.size (record { lines = ls; nodes = 0; listed = 0 })) both.0
    ∙ claim_comes z (claim_writes z.size z both.1) within
