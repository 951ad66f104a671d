-- The marked neighbour is in the list of neighbours.
use Rattle.go_turns.proofs.Common.{◌≡◌, Bool, true, ℕ, map, sym, ◌∙◌, ap, rules, list_any, number_of, is_marked}
use Rattle.go_points.proofs.Anywhere.{any_yes}
use Rattle.go_turns.proofs.clearing.touches.Goals as goal

pub returns-then-marks-number : goal.returns-then-marks-number
returns-then-marks-number c =
    let marked : ℕ → Bool = is_marked c.args.marks.now in
    let item = c.neighbour-item.result in
    let here : marked (number_of c.args.size item) ≡ true = ap marked (sym c.number.ensures.value) ∙ c.if-marks-number.true in
    let at = rw c.as_slice-neighbour-items.ensures.value at c.neighbour-item.is in
    let found : list_any marked (map (number_of c.args.size) c.neighbours-neighbours.result.items) ≡ true =
    any_yes marked (number_of c.args.size) c.neighbours-neighbours.result.items c.loop-neighbour.neighbour-index item (search rules) (sym (ap (λ x. marked (number_of c.args.size x)) at) ∙ here) in
    sym (ap (list_any marked) (sym c.neighbours-neighbours.ensures.exact) ∙ found)
