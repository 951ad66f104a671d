use Rattle.cert_check.proofs.Common.{◌≡◌, ◌∙◌, sym, ap, subst, Option, IfSome, length, List, is_lt, Cell, is_after}
use Rattle.cert_check.proofs.Lists.{before_is}
use Rattle.cert_check.proofs.lines.is_after.Goals as goal

pub returns-in-Some : goal.returns-in-Some
returns-in-Some c =
    let long : length c.in-Some.before ≡ length c.args.colouring.now = subst (λ (o : Option (List Cell)). IfSome o (λ b. length b ≡ length c.args.colouring.now)) c.in-Some.is c.requires in
    c.is_lt.ensures ∙ ap is_lt c.cmp.ensures ∙ before_is c.in-Some.before c.args.colouring.now long ∙ ap (λ (o : Option (List Cell)). is_after o c.args.colouring.now) (sym c.in-Some.is)
