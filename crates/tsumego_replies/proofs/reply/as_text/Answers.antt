use Rattle.tsumego_replies.proofs.Common.{IfOk, string_bytes, subst, SaysAfter}
use Rattle.tsumego_replies.proofs.reply.as_text.Goals as goal

pub returns-in-Ok : goal.returns-in-Ok
returns-in-Ok c = λ command front told says. subst (λ r. IfOk r (λ x. SaysAfter command front told x.status (string_bytes x.text))) c.in-Ok.is says
