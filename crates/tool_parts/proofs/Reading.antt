-- A reader that has ended has told all its bytes.
use Rattle.std.proofs.Common.{◌∙◌, ℕ, List, ◌++◌, Option, Some, None, sym, ap}
use Rattle.std.proofs.lemmas.List.{append-nil}
use Rattle.std.specs.Io.KnownBytes.{Consumes, IsAtEnd}
use Rattle.tool_parts.specs.Input.{Tells}

pub told_whole : (old new : Option (List ℕ)) (bytes : List ℕ) → Consumes old new bytes → IsAtEnd new → Tells old bytes
told_whole None new bytes h e = tt
told_whole (Some x) None bytes h e = absurd h
told_whole (Some x) (Some y) bytes h e = sym (h ∙ ap (λ z. bytes ++ z) e ∙ append-nil bytes)
