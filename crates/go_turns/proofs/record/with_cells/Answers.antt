-- One assignment more, or one that the board does not hold.
use Rattle.go_turns.proofs.Common.{rules, ◌≡◌, ℕ, ◌<◌, length, get_or, sym, ◌∙◌, subst, both_ways, Cell, side_of, Place, IsOn}
use Rattle.go_turns.proofs.Setups.{more_on, more_assigned, not_all, set_at}
use Rattle.go_turns.proofs.record.with_cells.Goals as goal

pub loop-assignment-preserved : goal.loop-assignment-preserved
loop-assignment-preserved c =
    let n = side_of c.args.colouring.now in
    let so_far = c.loop-assignment.invariant in
    let cells = c.args.cells.now in
    let i = c.loop-assignment.assignment-index in
    let a : Place × Cell = c.assignment-item.result in
    let within : i < length cells = search rules in
    let here : get_or cells i a ≡ a = sym c.assignment-item.is in
    let on : IsOn n a.0 = subst (λ (m : ℕ). IsOn m a.0) (c.size.ensures.value ∙ so_far.size) (c.holds.ensures.0 c.if-not-holds.false) in
    record {
      size = c.set.ensures.size ∙ so_far.size;
      on_board = more_on n cells i a within here on so_far.on_board;
      value = c.set.ensures.value ∙ set_at c.loop-assignment.after (side_of c.loop-assignment.after) n a so_far.size ∙ more_assigned n cells i a within here on c.args.colouring.now c.loop-assignment.after so_far.value;
    }

pub returns-then-not-holds-clause-on_board : goal.returns-then-not-holds-clause-on_board
returns-then-not-holds-clause-on_board c =
    let n = side_of c.args.colouring.now in
    let cells = c.args.cells.now in
    let i = c.loop-assignment.assignment-index in
    let a : Place × Cell = c.assignment-item.result in
    let within : i < length cells = search rules in
    let here : get_or cells i a ≡ a = sym c.assignment-item.is in
    sym (not_all n cells i a within
    (λ on. both_ways c.holds.result c.if-not-holds.true
    (c.holds.ensures.1 (subst (λ (m : ℕ). IsOn m a.0) (sym (c.size.ensures.value ∙ c.loop-assignment.invariant.size)) (subst (λ (x : Place × Cell). IsOn n x.0) here on)))))
