use Rattle.cert_check.proofs.Common.{◌≡◌, length, ap, ◌∙◌, arith, turns_due, turns_begun, due_replies}
use Rattle.cert_check.proofs.questions.has_turns.Goals as goal

pub loop-taken-init : goal.loop-taken-init
loop-taken-init c =
    let s = c.args.state.now.state in
    let all : length (turns_due s c.all-left.result.next) ≡ length (due_replies s) = ap length (ap (turns_due s) c.all-left.ensures ∙ turns_begun s) in
    omega (arith, all)
