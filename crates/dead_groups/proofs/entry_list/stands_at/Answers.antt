use Rattle.safe_groups.proofs.Common.{◌≡◌, sym, ◌∙◌, ap, same_cell_eq, Stone, cell_at}
use Rattle.dead_groups.specs.Ground.{kill_area}
use Rattle.dead_groups.proofs.Entering.{standing}
use Rattle.dead_groups.proofs.entry_list.stands_at.Goals as goal

pub returns : goal.returns
returns c = λ yes.
    standing (kill_area c.args.ground.now) c.args.state.now c.args.number c.requires.within
    (ap (λ d. cell_at d c.args.number) (sym c.without_unsafe.ensures.value) ∙ sym c.cell.ensures ∙ same_cell_eq c.cell.result (Stone c.args.ground.now.keeper) (sym c.is_stone_of.ensures ∙ yes))
