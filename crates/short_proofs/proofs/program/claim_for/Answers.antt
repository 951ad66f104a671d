use Rattle.std.proofs.Common.{sym, subst}
use Rattle.std.specs.Prelude.{IfOk}
use Rattle.short_proofs.specs.Says.{Says}
use Rattle.short_proofs.specs.declared.words.Request.TheVariants.{Prove as ProveAsked}
use Rattle.short_proofs.proofs.program.claim_for.Goals as goal

pub returns-then-is_whole : goal.returns-then-is_whole
returns-then-is_whole c =
    subst (λ whole. IfOk c.proved_whole.result (Says (ProveAsked c.args.steps whole) c.args.problem.now)) (sym c.if-is_whole.true) (c.proved_whole.ensures c.args.steps)

pub returns : goal.returns
returns c =
    subst (λ whole. IfOk c.proved.result (Says (ProveAsked c.args.steps whole) c.args.problem.now)) (sym c.if-is_whole.false) (c.proved.ensures c.args.steps)
