use Rattle.tsumego_replies.proofs.Common.{subst, string_bytes, HasNoRecord}
use Rattle.tsumego_replies.proofs.Saying.{refused_says}
use Rattle.tsumego_replies.proofs.reply.refused.Goals as goal

pub returns-in-Refused : goal.returns-in-Refused
returns-in-Refused c = λ command bytes whole none. refused_says command bytes (string_bytes c.in-Refused.text) whole (subst (HasNoRecord bytes) c.in-Refused.is none)
