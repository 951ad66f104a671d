use Rattle.safe_groups.proofs.Common.{◌≡◌, sym, ◌∙◌, ◌*◌, ap, length, eqb-true, not_false, side_of, start}
use Rattle.safe_groups.proofs.Verdicts.{past_by}
use Rattle.safe_groups.proofs.verdict.hold_on.Goals as goal

pub returns-clause-holds : goal.returns-clause-holds
returns-clause-holds c =
    let q = c.args.problem.now in let gs = c.args.grounds.now in let begins = c.args.begins.now in let stones = c.kept_stones-stones.result in
    let board : side_of (start q).colouring ≡ q.game.size = ap side_of (sym c.colouring.ensures) ∙ sym c.size.ensures.value ∙ eqb-true c.size.result c.size-2.result (not_false _ (sym c.if-ne.ensures)) ∙ c.size-2.ensures in
    let lengths = c.are_of_board.ensures.lengths c.if-not-are_of_board.false in
    let each = c.are_of_board.ensures.each c.if-not-are_of_board.false in
    record {
      board = board;
      full = ap length (sym c.colouring.ensures) ∙ c.size.ensures.colouring.full ∙ ap (λ m. m * m) (ap side_of c.colouring.ensures ∙ board);
      lengths = lengths;
      each = each;
      order = c.are_in_order.ensures c.if-not-are_in_order.false;
      past = past_by q c.args.keeper gs begins stones lengths each c.kept_stones-stones.ensures.kept (c.past_fits.ensures c.if-not-past_fits.false);
    }
