use Rattle.safe_groups.proofs.Common.{◌≡◌, sym, ◌∙◌, ap, subst, cond, ◌*◌, ◌<◌, List, set, cell_at, same_cell, Cell, Empty, Stone, opponent_of, side_of}
use Rattle.go_chains.proofs.Boards.{all_empty}
unfoldable use Rattle.go_points.specs.Clear.{clear}
unfoldable use Rattle.safe_groups.specs.Areas.{opened}
unfoldable use Rattle.dead_groups.specs.Kills.{freed}
use Rattle.dead_groups.specs.Ground.{kill_area, masked_cell}
use Rattle.dead_groups.proofs.Grounds.{sure_by, walled_kill}
use Rattle.dead_groups.proofs.states.is_sure.Goals as goal

pub returns : goal.returns
returns c = λ yes.
    let g = c.args.ground.now in let s = c.args.state.now in let n = side_of g.cells in
    let rooted = c.rooted_stones-rooted.result in let taken = c.masked.result in let bare = c.freed-bare.result in let k = opponent_of g.keeper in
    let placed : List Cell = set s c.args.number (Stone k) in
    let bare_is : bare ≡ freed (kill_area g) placed = c.freed-bare.ensures.value ∙ ap (freed (kill_area g)) c.with_theirs.ensures.value in
    let left_is : c.cleared-left.result ≡ clear n (opened (kill_area g) taken) g.keeper = c.cleared-left.ensures.value ∙ ap (λ m. clear m c.opened-open.result g.keeper) c.opened-open.ensures.side ∙ ap (λ d. clear n d g.keeper) c.opened-open.ensures.value in
    let safe_is : c.cleared.result ≡ clear n (freed (kill_area g) placed) g.keeper = c.cleared.ensures.value ∙ ap (λ m. clear m bare g.keeper) c.freed-bare.ensures.side ∙ ap (λ d. clear n d g.keeper) bare_is in
    let left_side : side_of c.cleared-left.result ≡ n = c.cleared-left.ensures.size ∙ c.opened-open.ensures.side in
    sure_by g s rooted taken c.args.number (walled_kill g s c.requires.state.walled) c.requires.within c.rooted_stones-rooted.ensures.rooted c.rooted_stones-rooted.ensures.only
    (λ p on. c.masked.ensures.cells p (subst (λ m. p < m * m) (sym c.freed-bare.ensures.side) on)
    ∙ ap (λ y. masked_cell rooted y c.empty-none.result bare p) c.theirs.ensures
    ∙ ap (λ y. cond (same_cell (cell_at rooted p) (Stone k)) y (cell_at bare p)) (ap (λ d. cell_at d p) c.empty-none.ensures.value ∙ all_empty (c.size.result * c.size.result) p)
    ∙ ap (λ d. cond (same_cell (cell_at rooted p) (Stone k)) Empty (cell_at d p)) bare_is)
    (λ p on is. ap (λ d. cell_at d p) (sym safe_is)
    ∙ c.all_there.ensures yes p (subst (λ m. p < m * m) (sym left_side) on) (ap (λ d. cell_at d p) left_is ∙ is ∙ sym c.own.ensures) ∙ c.own.ensures)
