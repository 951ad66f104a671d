use Rattle.safe_groups.proofs.Common.{sym, ◌∙◌, same_cells_eq}
use Rattle.safe_groups.proofs.ground.Ground.is_clear.Goals as goal

pub returns : goal.returns
returns c = λ same. sym c.without_loose.ensures.value ∙ same_cells_eq _ _ (sym c.eq.ensures ∙ same)
