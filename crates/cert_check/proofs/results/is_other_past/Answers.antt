use Rattle.cert_check.proofs.Common.{◌≡◌, List, true, false, not, ◌&&◌, sym, ap, ◌∙◌, rules, Cell, same_cells, has_occurred, GameState}
use Rattle.cert_check.proofs.Lists.{known_here}
use Rattle.cert_check.proofs.results.is_other_past.Goals as goal

pub returns-then-is_some : goal.returns-then-is_some
returns-then-is_some c =
    let s : GameState = c.args.past.now.state in
    let x : List Cell = c.args.colouring.now in
    let known : has_occurred s.history x ≡ true = known_here s.history x c.holds.result true c.holds.ensures (sym c.is_some.ensures ∙ c.if-is_some.true) in
    let other : c.ne.result ≡ not (same_cells x s.colouring) = search rules in
    other ∙ sym (ap (λ b. b && not (same_cells x s.colouring)) known)

pub returns-else-is_some : goal.returns-else-is_some
returns-else-is_some c =
    let s : GameState = c.args.past.now.state in
    let x : List Cell = c.args.colouring.now in
    let known : has_occurred s.history x ≡ false = known_here s.history x c.holds.result false c.holds.ensures (sym c.is_some.ensures ∙ c.if-is_some.false) in
    c.if-is_some.false ∙ sym (ap (λ b. b && not (same_cells x s.colouring)) known)
