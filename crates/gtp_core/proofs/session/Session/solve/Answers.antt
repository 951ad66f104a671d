use Rattle.gtp_core.proofs.Common.{◌∙◌, ap, subst, sym, Some, IfOk, NoProblem, IsFoundAt, Meets, due_or_refusal, reply, tells, GtpSession, problem_at}
use Rattle.gtp_core.proofs.Telling.{loss_told, unknown_told}
use Rattle.gtp_core.proofs.session.Session.solve.Goals as goal

pub returns-in-Some-Loss-clause-ok : goal.returns-in-Some-Loss-clause-ok
returns-in-Some-Loss-clause-ok c =
    let s : GtpSession = record { turns = c.self.inside.turns; targets = c.self.inside.targets; region = c.self.inside.region } in
    let k = c.args.colour in
    let found : IsFoundAt s.turns.size k (problem_at s k) c.in_ok-turn.field-0 = subst (λ (v : GtpSession). IsFoundAt v.turns.size k (problem_at v k) c.in_ok-turn.field-0) (sym c.self.view_is) c.in_ok-turn.ensures in
    subst (λ (v : GtpSession). IfOk c.success-in-Some-Loss.result (λ b. Meets v c.args.id.now (due_or_refusal NoProblem (problem_at v k) (tells k)) (reply b.items) s)) c.self.view_is
    (loss_told s c.args.id.now s.turns.size k (λ b. b.items) c.success-in-Some-Loss.result (problem_at s k) c.in_ok-turn.field-0 found (c.in-Some-Loss.is ∙ ap Some c.in-Some-Loss.field-0-is) c.success-in-Some-Loss.ensures)

pub returns-in-Some-Unknown-clause-ok : goal.returns-in-Some-Unknown-clause-ok
returns-in-Some-Unknown-clause-ok c =
    let s = c.args.self.now in
    unknown_told s c.args.id.now s.turns.size c.args.colour (λ b. b.items) c.success-in-Some-Unknown.result (problem_at s c.args.colour) c.in_ok-turn.field-0 c.in_ok-turn.ensures
    (c.in-Some-Unknown.is ∙ ap Some c.in-Some-Unknown.field-0-is) c.success-in-Some-Unknown.ensures
