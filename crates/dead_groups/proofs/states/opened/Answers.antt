use Rattle.safe_groups.proofs.Common.{◌≡◌, sym, ◌∙◌, ap, subst, ◌*◌, ◌<◌, cell_at, side_of}
use Rattle.go_chains.proofs.Boards.{all_empty}
use Rattle.dead_groups.specs.Ground.{masked_cell}
use Rattle.dead_groups.proofs.Grounds.{opened_by}
use Rattle.dead_groups.proofs.states.opened.Goals as goal

pub returns-clause-value : goal.returns-clause-value
returns-clause-value c =
    let g = c.args.ground.now in let s = c.args.state.now in
    let side : side_of s ≡ side_of g.cells = c.requires in
    opened_by g s c.masked.result c.empty-none.result (c.masked.ensures.full ∙ ap (λ m. m * m) side)
    (λ p. ap (λ d. cell_at d p) c.empty-none.ensures.value ∙ all_empty (c.size.result * c.size.result) p)
    (λ p on. c.masked.ensures.cells p (subst (λ m. p < m * m) (sym side) on) ∙ ap (λ x. masked_cell g.cells x c.empty-none.result s p) c.theirs.ensures)
