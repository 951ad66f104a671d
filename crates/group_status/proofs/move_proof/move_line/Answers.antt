use Rattle.std.proofs.Common.{◌∙◌, ◌++◌, ℕ, List, codes, ap}
use Rattle.std.specs.Prelude.{string_bytes}
use Rattle.tool_parts.specs.Says.{colour_text}
use Rattle.proved_groups.specs.Proven.{problem_by_move}
use Rattle.group_status.specs.Lines.{IsMoveLine}
use Rattle.group_status.proofs.Saying.{said_of}
use Rattle.group_status.proofs.move_proof.move_line.Goals as goal

pub returns : goal.returns
returns c =
    let mover = (problem_by_move c.args.proven.now.claim).mover in let first = c.end-first.result.0 in let word = c.end-first.result.1.now in let by = string_bytes c.in_ok-by_which.by_which in
    let line : List ℕ → List ℕ → List ℕ = λ m b. codes "  " ++ (m ++ (codes " first: " ++ (word ++ (b ++ codes " (proved)\n")))) in
    said_of string_bytes (IsMoveLine c.args.size c.args.proven.now) c.format.result (line c.colour_name-mover.result.now by) c.format.ensures.ok (
      first,
      word,
      c.end-first.ensures,
      ap (λ m. line m by) (c.colour_name-mover.ensures ∙ ap colour_text c.mover.ensures) ∙ ap (λ b. line (colour_text mover) b) c.in_ok-by_which.ensures,
    )
