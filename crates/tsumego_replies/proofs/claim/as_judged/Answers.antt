use Rattle.tsumego_replies.proofs.Common.{IfOk, string_bytes, subst, IsCheckedAfter}
use Rattle.tsumego_replies.proofs.claim.as_judged.Goals as goal

pub returns-in-Ok : goal.returns-in-Ok
returns-in-Ok c = λ q behind told says. subst (λ r. IfOk r (λ x. IsCheckedAfter q behind told x.status (string_bytes x.text))) c.in-Ok.is says
