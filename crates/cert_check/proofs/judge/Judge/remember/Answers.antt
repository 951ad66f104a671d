use Rattle.cert_check.proofs.Common.{ap, sym, subst, ◌∙◌, repeats, Ascends}
use Rattle.cert_check.proofs.Ascending.{ascends_once}
use Rattle.cert_check.proofs.judge.Judge.remember.Goals as goal

pub at_with-made-requires-clause-once : goal.at_with-made-requires-clause-once
at_with-made-requires-clause-once c = ap repeats c.as_slice.ensures.value ∙ ascends_once c.args.self.now.had.items c.requires.ascends

pub at_with-made-requires-clause-ascend : goal.at_with-made-requires-clause-ascend
at_with-made-requires-clause-ascend c = subst Ascends (sym c.as_slice.ensures.value) c.requires.ascends
