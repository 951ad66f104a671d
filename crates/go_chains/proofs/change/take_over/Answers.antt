use Rattle.go_chains.proofs.Common.{rules, ◌≡◌, ◌*◌, ◌≤◌, ℕ, List, None, sym, ◌∙◌, ap, subst, Cell, MAX_POINTS, side_of, first_without_liberty, IsSettled, TellsLiberties}
use Rattle.go_chains.proofs.Lacking.{settled_tells, settled_board, board_none}
use Rattle.go_chains.proofs.change.take_over.Goals as goal

pub find_after-requires-clause-tells : goal.find_after-requires-clause-tells
find_after-requires-clause-tells c =
    let n = side_of c.args.colouring.now in
    let now = c.change_to.new.colouring in
    let room : n * n ≤ MAX_POINTS = search rules in
    let side : side_of now ≡ n = ap (λ (l : List Cell). side_of l) c.change_to.ensures.value ∙ c.requires.same_size in
    subst (λ (m : ℕ). TellsLiberties m now c.change_to.new.heads c.change_to.new.counts) (sym side)
    (settled_tells n now c.change_to.new.heads c.change_to.new.next c.change_to.new.counts room c.change_to.ensures.settled)

pub returns-in-None-clause-board : goal.returns-in-None-clause-board
returns-in-None-clause-board c =
    let n = side_of c.args.colouring.now in
    let now = c.change_to.new.colouring in
    let room : n * n ≤ MAX_POINTS = search rules in
    let side : side_of now ≡ n = ap (λ (l : List Cell). side_of l) c.change_to.ensures.value ∙ c.requires.same_size in
    let none : first_without_liberty (side_of now) now ≡ None = search rules in
    settled_board n now c.change_to.new.heads c.change_to.new.next c.change_to.new.counts room c.change_to.ensures.settled (subst (λ (m : ℕ). first_without_liberty m now ≡ None) side none)

pub returns-in-Some-clause-board : goal.returns-in-Some-clause-board
returns-in-Some-clause-board c =
    let before = c.args.colouring.now in
    let n = side_of before in
    let last = c.change_to-in-Some.new.colouring in
    let now = c.change_to.new.colouring in
    let room : n * n ≤ MAX_POINTS = search rules in
    let side : side_of now ≡ n = ap (λ (l : List Cell). side_of l) c.change_to.ensures.value ∙ c.requires.same_size in
    let settled : IsSettled n last c.change_to-in-Some.new.heads c.change_to-in-Some.new.next c.change_to-in-Some.new.counts =
    subst (λ (m : ℕ). IsSettled m last c.change_to-in-Some.new.heads c.change_to-in-Some.new.next c.change_to-in-Some.new.counts) side c.change_to-in-Some.ensures.settled in
    let none = board_none n before c.args.heads.now c.args.next.now c.args.counts.now room c.requires.board in
    settled_board n last c.change_to-in-Some.new.heads c.change_to-in-Some.new.next c.change_to-in-Some.new.counts room settled (ap (first_without_liberty n) (c.change_to-in-Some.ensures.value ∙ c.colouring.ensures) ∙ none)

pub find_after-requires-clause-lived : goal.find_after-requires-clause-lived
find_after-requires-clause-lived c =
    let before = c.args.colouring.now in
    let n = side_of before in
    let room : n * n ≤ MAX_POINTS = search rules in
    ap (λ (d : List Cell). first_without_liberty (side_of d) d) c.colouring.ensures ∙ board_none n before c.args.heads.now c.args.next.now c.args.counts.now room c.requires.board
