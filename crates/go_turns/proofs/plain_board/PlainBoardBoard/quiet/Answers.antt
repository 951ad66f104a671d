use Rattle.go_turns.proofs.Common.{rules, ◌≡◌, ℕ, Bool, true, false, Some, None, List, sym, ◌∙◌, ap, subst, Cell, Stone, side_of, number_of, first_without_liberty, after_move}
use Rattle.std.proofs.Common.{◌↔◌, IsTrue, is_none, slice_set}
use Rattle.go_points.proofs.Quiet.{quiet_none}
use Rattle.go_turns.proofs.plain_board.PlainBoardBoard.quiet.Goals as goal
use Rattle.go_turns.proofs.plain_board.PlainBoardBoard.quiet.Goals.{After-find_without_liberty}

-- the answer to whether each stone of the colouring with the move reaches empty
told : (c : After-find_without_liberty) (b : Bool) → is_none (first_without_liberty (side_of c.set.new.self) c.set.new.self) ≡ b
    → IsTrue b ↔ (after_move (side_of c.args.self.now) c.args.self.now c.args.colour (number_of (side_of c.args.self.now) c.args.point) ≡ slice_set c.args.self.now (number_of (side_of c.args.self.now) c.args.point) (Stone c.args.colour))
told c b is =
    let cells = c.self.inside.colouring in
    let n = side_of cells in
    let k = c.args.colour in
    let put = c.set.new.self in
    let same : first_without_liberty (side_of put) put ≡ first_without_liberty n (slice_set cells (number_of n c.args.point) (Stone k)) = ap (λ (m : ℕ). first_without_liberty m put) c.set.ensures.size ∙ ap (first_without_liberty n) c.set.ensures.value in
    let law = quiet_none n cells k (number_of n c.args.point) c.size.ensures.colouring.full in
    subst (λ (v : List Cell). IsTrue b ↔ (after_move (side_of v) v k (number_of (side_of v) c.args.point) ≡ slice_set v (number_of (side_of v) c.args.point) (Stone k))) c.self.view_is
    (λ yes. law.0 (ap is_none (sym same) ∙ is ∙ yes), λ e. sym is ∙ ap is_none same ∙ law.1 e)

pub returns-in-None : goal.returns-in-None
returns-in-None c =
    let none : first_without_liberty (side_of c.set.new.self) c.set.new.self ≡ None = search rules in
    told (goal.at.returns-in-None c).After-find_without_liberty true (ap is_none none)

pub returns-in-Some : goal.returns-in-Some
returns-in-Some c =
    let some : first_without_liberty (side_of c.set.new.self) c.set.new.self ≡ Some (number_of (side_of c.set.new.self) c.in-Some.field-0) = search rules in
    told (goal.at.returns-in-Some c).After-find_without_liberty false (ap is_none some)
