use Rattle.tsumego_replies.proofs.Common.{IfOk, subst, IsSaidAfter}
use Rattle.tsumego_replies.proofs.reply.as_response.Goals as goal

pub returns-in-Ok-Some : goal.returns-in-Ok-Some
returns-in-Ok-Some c = λ command front told says. subst (λ o. IsSaidAfter command front told o) c.in-Ok-Some.field-0-is (subst (λ r. IfOk r (λ o. IsSaidAfter command front told o)) c.in-Ok-Some.is says)

pub returns-in-Ok-None : goal.returns-in-Ok-None
returns-in-Ok-None c = λ command front told says. subst (λ o. IsSaidAfter command front told o) c.in-Ok-None.field-0-is (subst (λ r. IfOk r (λ o. IsSaidAfter command front told o)) c.in-Ok-None.is says)
