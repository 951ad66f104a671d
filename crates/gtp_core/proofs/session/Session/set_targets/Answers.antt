use Rattle.gtp_core.proofs.Common.{◌≡◌, ◌∙◌, ℕ, false, List, is_some, map, sym, ap, ap₂, subst, Cell, cell_at, number_of, GtpSession, stones_at, Meets, reply, target_due}
use Rattle.std.proofs.Common.{IfOk}
use Rattle.target_game.specs.Problem.{one_colour}
use Rattle.gtp_core.proofs.Telling.{targets_refused}
use Rattle.gtp_core.proofs.session.Session.set_targets.Goals as goal

pub returns-then-is_none-clause-ok : goal.returns-then-is_none-clause-ok
returns-then-is_none-clause-ok c =
    let set = c.args.set in
    let s : GtpSession = record { turns = c.self.inside.turns; targets = c.self.inside.targets; region = c.self.inside.region } in
    let colour : c.colour_at.result ≡ stones_at s set =
    c.colour_at.ensures ∙ ap₂ (λ (b : List Cell) (n : ℕ). one_colour (map (λ p. cell_at b (number_of n p)) set)) c.colouring.ensures.value c.colouring.ensures.size in
    let none : is_some (stones_at s set) ≡ false = ap is_some (sym colour) ∙ c.if-is_none.ensures in
    subst (λ (v : GtpSession). IfOk c.failure.result (λ b. Meets v c.args.id.now (target_due v set) (reply b.items) v)) c.self.view_is
    (targets_refused s c.args.id.now set (λ b. b.items) c.failure.result (sym c.if-not-is_empty.ensures) none c.failure.ensures)
