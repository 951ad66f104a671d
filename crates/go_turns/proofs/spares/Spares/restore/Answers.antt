-- The copy holds the colouring, since it was compared.
use Rattle.go_turns.proofs.Common.{ap, sym, ◌∙◌, same_cells_eq}
use Rattle.go_turns.proofs.spares.Spares.restore.Goals as goal
use Rattle.go_turns.proofs.spares.Spares.restore.Goals.{then-eq, else-eq}

pub returns : goal.returns
returns g c =
    let held = c.colouring.result in
    elim c.if-eq.branch [
      | then-eq w ↦ ap g.B.Board.content w.board-is ∙ (w.copy_from.ensures ∙ (sym c.colouring.ensures.value ∙ same_cells_eq held c.args.wanted.now (sym c.eq.ensures ∙ w.if-eq.true)))
      | else-eq w ↦ ap g.B.Board.content w.board-is ∙ w.restore-else-eq.ensures
    ]
