use Rattle.pass_alive.proofs.Common.{inl, inr, ◌≡◌, ◌≢◌, refl, sym, ◌∙◌, ap, Cell, Stone, same_cell, cell_at, side_of, number_of, holds_place, same_cell_eq, eq_same_cell, IsPoint, HasMet}
use Rattle.std.proofs.Common.{subst₂}
use Rattle.go_turns.proofs.Openings.{place_back}
use Rattle.pass_alive.proofs.Spreading.{met_one, with_held}
use Rattle.pass_alive.proofs.spread.meet.Goals as goal

pub returns-then-is_stone_of-clause-closed : goal.returns-then-is_stone_of-clause-closed
returns-then-is_stone_of-clause-closed c held =
    let cells = c.args.board.now in
    let n = side_of cells in
    let x = c.args.point in
    let own : same_cell (cell_at cells (number_of n x)) (Stone c.args.colour) ≡ c.is_stone_of.result = sym (c.is_stone_of.ensures ∙ ap (λ (a : Cell). same_cell a (Stone c.args.colour)) c.cell.ensures) in
    inr (same_cell_eq (cell_at cells (number_of n x)) (Stone c.args.colour) (own ∙ c.if-is_stone_of.true), ap (holds_place c.args.stones.now) (place_back n x c.requires) ∙ sym c.has.ensures ∙ held)

pub returns-then-is_stone_of-clause-gap : goal.returns-then-is_stone_of-clause-gap
returns-then-is_stone_of-clause-gap c out =
    let cells = c.args.board.now in
    let n = side_of cells in
    let x = c.args.point in
    let own : same_cell (cell_at cells (number_of n x)) (Stone c.args.colour) ≡ c.is_stone_of.result = sym (c.is_stone_of.ensures ∙ ap (λ (a : Cell). same_cell a (Stone c.args.colour)) c.cell.ensures) in
    (same_cell_eq (cell_at cells (number_of n x)) (Stone c.args.colour) (own ∙ c.if-is_stone_of.true), ap (holds_place c.args.stones.now) (place_back n x c.requires) ∙ sym c.has.ensures ∙ out)

pub returns-then-has-clause-closed : goal.returns-then-has-clause-closed
returns-then-has-clause-closed c held =
    let n = side_of c.args.board.now in
    inl (ap (holds_place c.args.area.now) (place_back n c.args.point c.requires) ∙ sym c.has-2.ensures ∙ c.if-has.true)

pub returns-clause-met : goal.returns-clause-met
returns-clause-met c =
    let cells = c.args.board.now in
    let n = side_of cells in
    let k = c.args.colour in
    let x = c.args.point in
    let area = c.args.area.now in
    let left = c.args.left.now in
    let own : same_cell (cell_at cells (number_of n x)) (Stone k) ≡ c.is_stone_of.result = sym (c.is_stone_of.ensures ∙ ap (λ (a : Cell). same_cell a (Stone k)) c.cell.ensures) in
    let other : cell_at cells (number_of n x) ≢ Stone k = λ e. cc (own, c.if-is_stone_of.false, eq_same_cell (cell_at cells (number_of n x)) (Stone k) e) in
    subst₂ (HasMet (IsPoint n k cells x) area left) (sym c.insert.ensures) (sym c.insert-2.ensures)
    (met_one (IsPoint n k cells x) area left x (sym c.has-2.ensures ∙ c.if-has.false) (refl, other))

pub returns-clause-closed : goal.returns-clause-closed
returns-clause-closed c held =
    let n = side_of c.args.board.now in
    inl (ap (holds_place c.insert.new.self) (place_back n c.args.point c.requires) ∙ ap (λ s. holds_place s c.args.point) c.insert.ensures ∙ with_held c.args.area.now c.args.point)
