-- What was heard of a source: the lines that were taken leave the machine in this state, whatever follows, and whichever shape tells
-- where a claim of this kind may say that the targets live.
use Rattle.std.specs.Prelude.{◌≡◌, ℕ, suc, ◌+◌, Bool, List, ◌++◌, length, Option, Result}
use Rattle.go_points.specs.declared.Cell.{Cell}
use Rattle.target_game.specs.State.{GameProblem}
use Rattle.proof_cert.specs.Lines.{Line}
use Rattle.proof_cert.specs.declared.line.Line as code
use Rattle.proof_cert.specs.declared.source.SourceFault.{SourceFault}
use Rattle.cert_check.specs.declared.kind.Kind.{Kind}
use Rattle.cert_check.specs.Checks.{Took}
use Rattle.cert_check.specs.Private.Judging.{IsToldBy}
use Rattle.cert_check.specs.Verdict.{Machine, begun, verdict_from}
use Rattle.cert_check.specs.Parts.{line_values}

pub record Heard {S : Type 0} (kind : Kind) (gives : S → Result (Option Line) SourceFault → S → Type 0) (number : S → ℕ) (n : ℕ) (q : GameProblem) (s t : S) (m : Machine) : Type 0 where
  pub taken : List (Option code.Line)
  pub took : Took gives n s taken t
  pub counted : number t ≡ number s + length taken
  pub placed : m.place ≡ suc (length taken)
  pub so_far : (shape : List Cell → Bool) → IsToldBy kind q.game shape → (rest : List (Option Line)) → verdict_from shape q begun (line_values q.game.size taken ++ rest) ≡ verdict_from shape q m rest
