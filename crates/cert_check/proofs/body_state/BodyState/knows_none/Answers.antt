use Rattle.cert_check.proofs.Common.{Bool, ◌&&◌, List, drop, sym, ap, ◌∙◌, Cell, apart}
use Rattle.cert_check.proofs.Known.{none_of_both, rest_whole}
use Rattle.cert_check.proofs.body_state.BodyState.knows_none.Goals as goal

pub returns-then-are_apart : goal.returns-then-are_apart
returns-then-are_apart c =
    let list : List (List Cell) = c.args.list.now in
    let known : List (List Cell) = c.as_slice-known.result.now in
    c.none_stands_on.ensures
    ∙ ap (λ ds. apart ds list) (rest_whole c.self.inside.fixed known)
    ∙ sym (ap (λ (b : Bool). b && apart (drop c.self.inside.fixed known) list) c.if-are_apart.true)
    ∙ none_of_both c.self.inside.fixed known _ list c.self.inside.state _ _ c.as_slice-known.ensures.value c.self.view_is c.are_apart.ensures c.self.invariant

pub returns-else-are_apart : goal.returns-else-are_apart
returns-else-are_apart c =
    let known : List (List Cell) = c.as_slice-known.result.now in
    c.if-are_apart.false
    ∙ sym (ap (λ (b : Bool). b && apart (drop c.self.inside.fixed known) c.args.list.now) c.if-are_apart.false)
    ∙ none_of_both c.self.inside.fixed known _ c.args.list.now c.self.inside.state _ _ c.as_slice-known.ensures.value c.self.view_is c.are_apart.ensures c.self.invariant
