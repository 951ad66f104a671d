use Rattle.go_chains.proofs.Common.{rules, ◌≡◌, ◌*◌, ◌≤◌, None, sym, ◌∙◌, ap, MAX_POINTS, side_of, first_without_liberty}
use Rattle.go_chains.proofs.Lacking.{settled_board}
use Rattle.go_chains.proofs.change.restore.Goals as goal

pub returns-clause-board : goal.returns-clause-board
returns-clause-board c =
    let n = side_of c.args.colouring.now in
    let now = c.change_to.new.colouring in
    let room : n * n ≤ MAX_POINTS = search rules in
    let none : first_without_liberty n now ≡ None =
    ap (first_without_liberty n) c.change_to.ensures.value ∙ sym (ap (λ m. first_without_liberty m c.args.wanted.now) c.requires.same_size) ∙ c.requires.liberties in
    settled_board n now c.change_to.new.heads c.change_to.new.next c.change_to.new.counts room c.change_to.ensures.settled none
