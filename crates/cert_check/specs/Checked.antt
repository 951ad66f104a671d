-- A certificate that was checked.
--     CheckedClaim      the problem and the certificate
--     IsChecked q z      the claim is valid for the problem, and within the limits
--     verdict_on q z      the verdict on the claim's lines, in which a line that has no spelling is malformed
use Rattle.std.specs.Prelude.{map}
use Rattle.target_game.specs.State.{GameProblem}
use Rattle.proof_cert.specs.declared.certificate.Certificate.{Certificate}
use Rattle.proof_cert.specs.Claim.{Claim, IsWithinLimits}
use Rattle.proof_cert.specs.Lines.{lines_of}
use Rattle.proof_cert.specs.Held.{spelled_line}
use Rattle.cert_check.specs.Validity.{IsValid}
use Rattle.cert_check.specs.Verdict.{Verdict, verdict}

pub record CheckedClaim : Type 0 where
  pub problem : GameProblem
  pub certificate : Certificate

pub record IsChecked (q : GameProblem) (z : Claim) : Type 0 where
  pub valid : IsValid q z
  pub limits : IsWithinLimits z

abbrev pub verdict_on : GameProblem → Claim → Verdict
verdict_on q z = verdict q (map (spelled_line z.size) (lines_of z))
