use Rattle.solution_tree.proofs.Common.{arith, refl, subst, CheckedClaim, Goes, answer_of, due, whole}
use Rattle.solution_tree.proofs.Expanding.{closed_on, made_before, taken_back}
use Rattle.solution_tree.proofs.opened.close.Goals as goal

pub loop-last-init : goal.loop-last-init
loop-last-init c = record { turns = c.requires; stands = tt; is = λ h. refl; left = omega arith }

pub back-requires : goal.back-requires
back-requires c = made_before c.args.checked.now c.pop.new.self.items c.loop-last.opened.items c.in-Some.last c.loop-last.state c.in-Some.ensures.items c.loop-last.invariant.turns

pub put_below-requires-clause-turns : goal.put_below-requires-clause-turns
put_below-requires-clause-turns c =
    (taken_back c.args.checked.now c.pop.new.self.items c.back.new.self c.in-Some.last c.loop-last.opened.items c.loop-last.state c.in-Some.ensures.items c.back.ensures c.loop-last.invariant.turns).1

pub put_below-requires-clause-last : goal.put_below-requires-clause-last
put_below-requires-clause-last c =
    (taken_back c.args.checked.now c.pop.new.self.items c.back.new.self c.in-Some.last c.loop-last.opened.items c.loop-last.state c.in-Some.ensures.items c.back.ensures c.loop-last.invariant.turns).0

pub loop-last-preserved : goal.loop-last-preserved
loop-last-preserved c =
    let k : CheckedClaim = c.args.checked.now in
    subst (λ p. Goes c.args.keep k (whole k c.args.opened.now.items c.args.state.now (answer_of k.certificate.size c.args.finished)) (due k c.args.opened.now.items c.args.state.now) p c.put_below.new.opened.items c.put_below.new.state) c.in-Finished.is
    (closed_on c.args.keep k c.pop.new.self.items c.loop-last.opened.items c.in-Some.last c.loop-last.state c.back.new.self c.loop-last.tree _ _ _ _ _ c.in-Some.ensures.items c.back.ensures c.loop-last.invariant c.in_ok-part.ensures.goes)

pub returns-in_default-2-clause-goes : goal.returns-in_default-2-clause-goes
returns-in_default-2-clause-goes c =
    closed_on c.args.keep c.args.checked.now c.pop.new.self.items c.loop-last.opened.items c.in-Some.last c.loop-last.state c.back.new.self c.loop-last.tree _ _ _ _ _ c.in-Some.ensures.items c.back.ensures c.loop-last.invariant c.in_ok-part.ensures.goes
