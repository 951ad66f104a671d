use Rattle.go_chains.proofs.Common.{rules, ◌≡◌, ◌≢◌, ◌*◌, ◌≤◌, slice_index, refl, sym, ◌∙◌, ap, Cell, Stone, MAX_POINTS, same_cell, cell_at, side_of, nowhere, same_cell_eq, eq_same_cell}
use Rattle.go_chains.proofs.Captures.{clear_rest}
use Rattle.go_chains.proofs.Leaving.{head_holds, removal_leaves}
use Rattle.go_chains.proofs.Filling.{headed, not_empty}
use Rattle.go_chains.proofs.capture.remove_without_liberty.Goals as goal
use Rattle.go_chains.proofs.capture.remove_without_liberty.Goals.{After-remove}

pub returns-then-not-is_stone_of-clause-passed : goal.returns-then-not-is_stone_of-clause-passed
returns-then-not-is_stone_of-clause-passed c = λ h lacking stone same.
    let cells = c.args.colouring.now in
    let n = side_of cells in
    let room : n * n ≤ MAX_POINTS = search rules in
    let holds = head_holds n cells c.args.heads.now c.args.next.now c.args.number h room c.requires.settled.chains c.requires.on lacking.on same in
    let is = eq_same_cell (cell_at cells c.args.number) (Stone c.args.colour) (holds ∙ stone) in
    let got = c.is_stone_of.ensures ∙ ap (λ (a : Cell). same_cell a (Stone c.args.colour)) c.at.ensures ∙ is in
    absurd (cc (got, c.if-not-is_stone_of.true))

-- the point holds a stone of the colour, and so has a head on the board
module _ (c : After-remove) where
  stone : cell_at c.args.colouring.now c.args.number ≡ Stone c.args.colour
  stone =
      same_cell_eq (cell_at c.args.colouring.now c.args.number) (Stone c.args.colour) (ap (λ (a : Cell). same_cell a (Stone c.args.colour)) (sym c.at.ensures) ∙ sym c.is_stone_of.ensures ∙ c.if-not-is_stone_of.false)

  has : slice_index c.args.heads.now c.args.number ≢ nowhere
  has = headed (side_of c.args.colouring.now) c.args.colouring.now c.args.heads.now c.args.next.now c.args.number c.requires.settled.chains c.requires.on (not_empty (cell_at c.args.colouring.now c.args.number) c.args.colour stone)

pub returns-clause-cleared : goal.returns-clause-cleared
returns-clause-cleared c =
    let cells = c.args.colouring.now in
    let heads = c.args.heads.now in
    let n = side_of cells in
    let p = c.args.number in
    let h = slice_index heads p in
    let known = (goal.at.returns-clause-cleared c).After-remove in
    let room : n * n ≤ MAX_POINTS = search rules in
    let chains = c.requires.settled.chains in
    let h_on = chains.within p c.requires.on (has known) in
    let h_is : cell_at cells h ≡ Stone c.args.colour = sym (head_holds n cells heads c.args.next.now p h room chains c.requires.on h_on refl) ∙ stone known in
    let lacking = sym (c.requires.settled.counted.right h h_on (λ e. has known e) (chains.own p c.requires.on (has known))) ∙ c.if-counts-head-ne0.false in
    clear_rest n cells c.remove.new.colouring heads h c.args.colour c.requires.settled.closed
    (λ q on same. head_holds n cells heads c.args.next.now q h room chains on h_on same ∙ h_is) lacking c.remove.ensures.emptied c.remove.ensures.others

pub returns-clause-left : goal.returns-clause-left
returns-clause-left c =
    let cells = c.args.colouring.now in
    let heads = c.args.heads.now in
    let n = side_of cells in
    let p = c.args.number in
    let known = (goal.at.returns-clause-left c).After-remove in
    let chains = c.requires.settled.chains in
    removal_leaves n cells c.remove.new.colouring heads c.remove.new.heads c.args.next.now (slice_index heads p) (search rules) (chains.within p c.requires.on (has known)) (chains.own p c.requires.on (has known)) chains c.remove.ensures.emptied c.remove.ensures.others c.remove.ensures.heads_gone
    c.remove.ensures.heads_kept
