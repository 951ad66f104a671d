use Rattle.go_chains.proofs.Common.{rules, ◌≡◌, ◌*◌, ◌≤◌, slice_index, sym, ◌∙◌, ap, Cell, Stone, MAX_POINTS, same_cell, cell_at, side_of, same_cell_eq, adjacent_on_board}
use Rattle.go_chains.proofs.Merging.{merged_others, renamed_from, renamed_other}
use Rattle.go_chains.proofs.Filling.{bond, headed, not_empty}
use Rattle.go_chains.proofs.stones.join.Goals as goal

pub merge-requires-clause-bond : goal.merge-requires-clause-bond
merge-requires-clause-bond c =
    let cells = c.args.colouring.now in
    let n = side_of cells in
    let stone : cell_at cells c.args.neighbour ≡ Stone c.args.colour =
    same_cell_eq (cell_at cells c.args.neighbour) (Stone c.args.colour) (ap (λ (a : Cell). same_cell a (Stone c.args.colour)) (sym c.at.ensures) ∙ sym c.is_stone_of.ensures ∙ c.if-not-is_stone_of.false) in
    bond n cells c.args.heads.now c.args.next.now c.args.number c.args.neighbour c.args.colour c.requires.chains c.requires.beside c.requires.stone stone

pub returns-clause-others : goal.returns-clause-others
returns-clause-others c =
    let cells = c.args.colouring.now in
    let n = side_of cells in
    let heads = c.args.heads.now in
    let room : n * n ≤ MAX_POINTS = search rules in
    let on = adjacent_on_board n c.args.number c.args.neighbour c.requires.beside in
    let stone : cell_at cells c.args.neighbour ≡ Stone c.args.colour =
    same_cell_eq (cell_at cells c.args.neighbour) (Stone c.args.colour) (ap (λ (a : Cell). same_cell a (Stone c.args.colour)) (sym c.at.ensures) ∙ sym c.is_stone_of.ensures ∙ c.if-not-is_stone_of.false) in
    let p_has = headed n cells heads c.args.next.now c.args.number c.requires.chains on.0 (not_empty (cell_at cells c.args.number) c.args.colour c.requires.stone) in
    let q_has = headed n cells heads c.args.next.now c.args.neighbour c.requires.chains on.1 (not_empty (cell_at cells c.args.neighbour) c.args.colour stone) in
    merged_others n cells heads c.args.next.now c.merge.new.heads (slice_index heads c.args.neighbour) (slice_index heads c.args.number) room c.requires.full.next_full c.if-into-from.false
    (c.requires.chains.within c.args.neighbour on.1 q_has) (c.requires.chains.within c.args.number on.0 p_has) (c.requires.chains.own c.args.neighbour on.1 q_has) (c.requires.chains.own c.args.number on.0 p_has)
    c.merge.ensures.renamed c.requires.chains c.args.number on.0 (search rules)

pub returns-clause-bound : goal.returns-clause-bound
returns-clause-bound c = λ stone.
    let n = side_of c.args.colouring.now in
    let heads = c.args.heads.now in
    let on = adjacent_on_board n c.args.number c.args.neighbour c.requires.beside in
    renamed_from n heads c.merge.new.heads (slice_index heads c.args.neighbour) (slice_index heads c.args.number) c.merge.ensures.renamed c.args.number on.0 (search rules)
    ∙ sym (renamed_other n heads c.merge.new.heads (slice_index heads c.args.neighbour) (slice_index heads c.args.number) c.merge.ensures.renamed c.args.neighbour on.1 c.if-into-from.false)
