use Rattle.short_proofs.specs.declared.words.Request.TheVariants.{Prove as ProveAsked, Tree as TreeAsked}
use Rattle.short_proofs.proofs.Winners.{said_of}
use Rattle.short_proofs.proofs.program.output_of.Goals as goal

pub returns : goal.returns
returns g c = said_of c.args.request (TreeAsked c.in-Tree.steps) c.args.tree.now c.in-Ok.problem c.read_out.result c.in-Ok.ensures.ok c.in-Tree.is (c.read_out.ensures c.in-Tree.steps)

pub returns-in-Prove : goal.returns-in-Prove
returns-in-Prove g c =
    said_of c.args.request (ProveAsked c.in-Prove.steps c.in-Prove.is_whole) c.args.tree.now c.in-Ok.problem c.claim_for.result c.in-Ok.ensures.ok c.in-Prove.is c.claim_for.ensures
