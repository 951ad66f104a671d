use Rattle.go_chains.proofs.Common.{rules, ◌≡◌, ◌*◌, ◌≤◌, None, List, subst, Cell, MAX_POINTS, side_of, first_without_liberty}
use Rattle.go_chains.proofs.Lacking.{board_none}
use Rattle.go_chains.proofs.chain_board.ChainBoard.colouring.Goals as goal

pub returns-clause-liberties : goal.returns-clause-liberties
returns-clause-liberties c =
    let parts = c.self.inside in
    let n = side_of parts.colouring in
    let room : n * n ≤ MAX_POINTS = search rules in
    subst (λ (v : List Cell). first_without_liberty (side_of v) v ≡ None) c.self.view_is (board_none n parts.colouring parts.heads parts.next parts.counts room c.self.invariant)
