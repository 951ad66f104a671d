use Rattle.go_chains.proofs.Common.{◌≡◌, Bool, true, ◌&&◌, sym, ◌∙◌, ap, ap₂, Cell, Empty, Stone, same_cell, cell_at, side_of, number_of, or_left, or_right, has_more, lets_stay}
use Rattle.go_chains.proofs.Beside.{some_beside, more_at}
use Rattle.go_chains.proofs.liberties.has_liberty.Goals as goal

pub returns-then-is_empty : goal.returns-then-is_empty
returns-then-is_empty c =
    let cells = c.args.colouring.now in
    let heads = c.args.heads.now in
    let counts = c.args.counts.now in
    let n = side_of cells in
    let p = c.args.number in
    let q = number_of n c.neighbour-item.result in
    let empty : same_cell (cell_at cells q) Empty ≡ true = sym (c.is_empty.ensures ∙ ap (λ (a : Cell). same_cell a Empty) c.get-cell.ensures.value) ∙ c.if-is_empty.true in
    some_beside c.point_at.result c.size-size.ensures.value c.neighbours-neighbours.ensures.exact c.point_at.ensures.number_back c.as_slice-neighbour-items.ensures.value c.loop-neighbour.neighbour-index c.neighbour-item.result c.loop-neighbour-test.true c.neighbour-item.is (lets_stay n cells heads counts c.args.colour p)
    (or_left (same_cell (cell_at cells q) Empty) (same_cell (cell_at cells q) (Stone c.args.colour) && has_more n heads counts p q) empty)

pub returns-then-has_more : goal.returns-then-has_more
returns-then-has_more c =
    let cells = c.args.colouring.now in
    let heads = c.args.heads.now in
    let counts = c.args.counts.now in
    let n = side_of cells in
    let p = c.args.number in
    let q = number_of n c.neighbour-item.result in
    let more = more_at heads counts p c.neighbour-item.result c.size-size.ensures.value c.number.ensures.value c.has_more.ensures in
    let own : same_cell (cell_at cells q) (Stone c.args.colour) ≡ true = sym (c.is_stone_of.ensures ∙ ap (λ (a : Cell). same_cell a (Stone c.args.colour)) c.get-cell.ensures.value) ∙ c.if-is_stone_of.true in
    some_beside c.point_at.result c.size-size.ensures.value c.neighbours-neighbours.ensures.exact c.point_at.ensures.number_back c.as_slice-neighbour-items.ensures.value c.loop-neighbour.neighbour-index c.neighbour-item.result c.loop-neighbour-test.true c.neighbour-item.is (lets_stay n cells heads counts c.args.colour p)
    (or_right (same_cell (cell_at cells q) Empty) (same_cell (cell_at cells q) (Stone c.args.colour) && has_more n heads counts p q) (ap₂ (λ (a b : Bool). a && b) own (sym more ∙ c.if-has_more.true)))
