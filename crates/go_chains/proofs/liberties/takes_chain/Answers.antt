use Rattle.go_chains.proofs.Common.{◌≡◌, Bool, true, ◌&&◌, not, sym, ◌∙◌, ap, ap₂, Colour, Cell, Stone, opponent_of, same_cell, cell_at, side_of, number_of, loses_last}
use Rattle.go_chains.proofs.Beside.{some_beside, more_at}
use Rattle.go_chains.proofs.liberties.takes_chain.Goals as goal

pub returns-then-not-has_more : goal.returns-then-not-has_more
returns-then-not-has_more c =
    let cells = c.args.colouring.now in
    let heads = c.args.heads.now in
    let counts = c.args.counts.now in
    let n = side_of cells in
    let p = c.args.number in
    let q = number_of n c.neighbour-item.result in
    let more = more_at heads counts p c.neighbour-item.result c.size-size.ensures.value c.number.ensures.value c.has_more.ensures in
    let other : same_cell (cell_at cells q) (Stone (opponent_of c.args.colour)) ≡ true =
    sym (c.is_stone_of-is_other.ensures ∙ ap (λ (a : Cell). same_cell a (Stone c.opponent.result)) c.get.ensures.value ∙ ap (λ (k : Colour). same_cell (cell_at cells q) (Stone k)) c.opponent.ensures) ∙ c.if-is_other.true in
    some_beside c.point_at.result c.size-size.ensures.value c.neighbours-neighbours.ensures.exact c.point_at.ensures.number_back c.as_slice-neighbour-items.ensures.value c.loop-neighbour.neighbour-index c.neighbour-item.result c.loop-neighbour-test.true c.neighbour-item.is (loses_last n cells heads counts c.args.colour p)
    (ap₂ (λ (a b : Bool). a && not b) other (sym more ∙ c.if-not-has_more.true))
