use Rattle.std.specs.Prelude.{◌≡◌, eqb, length}
use Rattle.std.specs.List.{list_any, starts_with}
use Rattle.short_proofs.specs.Sound.{says}
use Rattle.short_proofs.proofs.soundness.says.Given as goal

abbrev pub invariant-loop-value : goal.invariant-loop-value
invariant-loop-value l = list_any (λ value. starts_with eqb value l.words) l.left ≡ says l.words l.node

abbrev pub decreases-loop-value : goal.decreases-loop-value
decreases-loop-value l = length l.left
