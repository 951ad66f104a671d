use Rattle.cert_check.proofs.Common.{rules, ◌≡◌, Option, None, List, sym, ap, ◌∙◌, list_all, Cell, is_listed}
use Rattle.cert_check.proofs.Lists.{all_free}
use Rattle.cert_check.proofs.body.Body.lists_all.Goals as goal

pub returns-in-None : goal.returns-in-None
returns-in-None c =
    let cs = c.args.colourings.now in
    let none : c.args.self.now.listed ≡ None = search rules in
    sym (ap (λ (o : Option (List (List Cell))). list_all (is_listed o) cs) none ∙ all_free cs)
