use Rattle.safe_groups.proofs.Common.{sym, ◌∙◌, Stone}
use Rattle.go_points.specs.Equal.{same_cell_eq}
use Rattle.safe_groups.proofs.Judging.{stone_colour}
use Rattle.safe_groups.proofs.claim.is_defender_to_move.Goals as goal

pub returns : goal.returns
returns c = λ same. sym c.mover.ensures ∙ stone_colour c.mover.result c.defender.result (same_cell_eq (Stone c.mover.result) (Stone c.defender.result) (sym c.is_stone_of.ensures ∙ same)) ∙ c.defender.ensures
