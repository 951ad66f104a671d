use Rattle.cert_check.proofs.Common.{◌≡◌, ◌∙◌, List, sym, ap, true, Cell, is_known, is_it}
use Rattle.std.proofs.Common.{slice_get}
use Rattle.target_game.specs.State.{Line}
use Rattle.cert_check.proofs.Known.{known_at}
use Rattle.cert_check.proofs.Lists.{known_here}
use Rattle.cert_check.proofs.body_state.BodyState.knows.Goals as goal

pub returns-then-stands_at : goal.returns-then-stands_at
returns-then-stands_at c =
    let l : Line = c.self.inside.state in
    let x : List Cell = c.args.colouring.now in
    let here : is_it (slice_get c.self.inside.known.items c.args.place) x ≡ true =
    sym (c.stands_at.ensures ∙ ap (λ ds. is_it (slice_get ds c.args.place) x) c.as_slice.ensures.value) ∙ c.if-stands_at.true in
    c.if-stands_at.true ∙ sym (known_at c.self.inside.known.items c.args.place x l.state l.before c.self.invariant.0 here) ∙ ap (λ (m : Line). is_known m.state x) c.self.view_is

pub returns-else-stands_at : goal.returns-else-stands_at
returns-else-stands_at c =
    let l : Line = c.self.inside.state in
    let x : List Cell = c.args.colouring.now in
    sym (known_here l.state.history x c.holds.result c.is_some.result c.holds.ensures (sym c.is_some.ensures)) ∙ ap (λ (m : Line). is_known m.state x) c.self.view_is
