use Rattle.cert_check.proofs.Common.{rules, ◌≡◌, ◌<◌, ◌∙◌, List, length, subst, sym, ap, Cell, has_occurred, GameProblem, IsKept}
use Rattle.cert_check.proofs.Known.{start_kept}
use Rattle.cert_check.proofs.body_state.BodyState.of.Goals as goal

pub invariant_of-result : goal.invariant_of-result
invariant_of-result c =
    let q : GameProblem = c.args.problem.now in
    let cs : List (List Cell) = c.put_in_order.new.list.items in
    let whole : c.extend_from_slice.new.self.items ≡ q.history = search rules in
    let low : q.place < length q.history = search rules in
    subst (λ (ds : List (List Cell)). IsKept cs (length ds) c.in_ok-state.state) (sym c.as_slice-fixed.ensures.value)
    (start_kept q cs c.in_ok-state.state c.in_ok-state.ensures low (λ d. c.put_in_order.ensures.same d ∙ ap (λ ds. has_occurred ds d) whole) c.put_in_order.ensures.order)
