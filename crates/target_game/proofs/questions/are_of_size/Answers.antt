use Rattle.target_game.proofs.Common.{◌*◌, nat_eq, length, List, sym, arith, Cell}
use Rattle.target_game.proofs.Loops.{all_no, all_yes, all_sides, differs_in_size}
use Rattle.target_game.proofs.questions.are_of_size.Goals as goal

pub returns-then-ne-clause-value : goal.returns-then-ne-clause-value
returns-then-ne-clause-value c =
    let n = c.args.size in
    sym (all_no (λ (x : List Cell). nat_eq (length x) (n * n)) c.args.history.now c.loop-colouring.colouring-index c.colouring-item.result c.loop-colouring-test.true (sym c.colouring-item.is)
    (differs_in_size n c.size.result c.colouring-item.result c.ne.result c.size.ensures.value c.ne.ensures c.if-ne.true)
    c.loop-colouring.invariant)

pub returns-clause-sides : goal.returns-clause-sides
returns-clause-sides c t =
    let n = c.args.size in
    all_sides n c.args.history.now (all_yes (λ (x : List Cell). nat_eq (length x) (n * n)) c.args.history.now c.loop-colouring.colouring-index (omega (arith, c.loop-colouring-test.false, c.loop-colouring.auto.colouring-index-end)) c.loop-colouring.invariant)
