-- What the private calls of the program write. No public clause rests on these definitions.
use Rattle.std.specs.Prelude.{◌≡◌, ℕ, ◌<◌, ◌≤◌, List, Option, Some, None, ◌⊎◌}
use Rattle.std.specs.Io.KnownBytes.{Appends}
use Rattle.target_game.specs.State.{start}
use Rattle.target_game.specs.Answers.{answer_size}
use Rattle.byte_writer.specs.Taken.{TakesPart}
use Rattle.sgf_text.specs.Trees.{GameTree}
use Rattle.tsumego_problem.specs.Canonical.{solution}
use Rattle.proof_cert.specs.Certificate.{claim_of}
use Rattle.cert_check.specs.Checked.{CheckedClaim}
use Rattle.cert_check.specs.Expand.{expand}
use Rattle.run_parts.specs.declared.status.Status.{Status}
use Rattle.run_parts.specs.declared.status.Status.TheVariants.{Failed}
use Rattle.tsumego_replies.specs.Solutions.{tree_limit}

-- The whole text was written, and this is the status; or a write failed after a part of it.
abbrev pub Writes : Type 0 → Option (List ℕ) → Option (List ℕ) → List ℕ → Status → Status → Type 0
Writes failed old new text status result = ((result ≡ status) × Appends old new text) ⊎ ((result ≡ Failed) × failed × TakesPart old new text)

-- the solution record of a claim's expansion, exactly if the expansion has no more turns than are written
abbrev pub IsSolutionOf : CheckedClaim → Option GameTree → Type 0
IsSolutionOf k (Some tree) =
    (answer_size (expand (claim_of k.certificate) (start k.problem)) ≤ tree_limit)
    × (tree ≡ solution k.problem (claim_of k.certificate).winner (expand (claim_of k.certificate) (start k.problem)))
IsSolutionOf k None = tree_limit < answer_size (expand (claim_of k.certificate) (start k.problem))
