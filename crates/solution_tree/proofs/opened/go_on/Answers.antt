use Rattle.solution_tree.proofs.Common.{List, Option, Bor, refl, subst, Turn}
use Rattle.proof_cert.specs.declared.certificate.Node.{Node}
use Rattle.solution_tree.specs.Private.Opened.{MakesNext}
use Rattle.solution_tree.proofs.Expanding.{none_left, replied}
use Rattle.solution_tree.proofs.opened.go_on.Goals as goal

pub returns-in_default-clause-goes : goal.returns-in_default-clause-goes
returns-in_default-clause-goes c =
    none_left c.args.checked.now c.args.opened.now.items c.args.state.now c.args.done c.args.later.now c.make_next.new.state
    (subst (λ (o : Option (Bor (Turn × Node) × Bor (List (Turn × Node)))). MakesNext c.args.state.now c.args.later.now o c.make_next.new.state) c.in_default.is c.in_ok-reply.ensures) c.requires.turns c.requires.later

pub returns-clause-goes : goal.returns-clause-goes
returns-clause-goes c =
    replied c.args.checked.now c.args.opened.now.items c.args.state.now c.args.done c.args.later.now c.in-Some.reply _ c.in-Some.others c.push.new.self.items c.make_next.new.state
    c.in_ok-push.ensures.items refl
    (subst (λ (o : Option (Bor (Turn × Node) × Bor (List (Turn × Node)))). MakesNext c.args.state.now c.args.later.now o c.make_next.new.state) c.in-Some.is c.in_ok-reply.ensures) c.requires.turns c.requires.later
