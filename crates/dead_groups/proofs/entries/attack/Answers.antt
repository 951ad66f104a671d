use Rattle.safe_groups.proofs.Common.{sym, ◌∙◌, same_cells_eq}
use Rattle.dead_groups.proofs.entries.attack.Goals as goal

pub returns-then-eq : goal.returns-then-eq
returns-then-eq c = λ free. (c.is_sure.ensures c.if-not-is_sure.false, sym c.attacked-left.ensures.value ∙ same_cells_eq _ _ (sym c.eq.ensures ∙ c.if-eq.true))
