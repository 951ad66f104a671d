use Rattle.first_moves.proofs.Common.{◌≡◌, IfSome, Option, subst, sym, List, rules, Found}
use Rattle.std.specs.List.{All, Contains}
use Rattle.std.specs.Prelude.{true}
use Rattle.std.proofs.lemmas.List.Elements.{All-push}
use Rattle.first_moves.specs.Grade.{is_refuted}
use Rattle.first_moves.specs.Graded.{IsTrap}
use Rattle.first_moves.specs.declared.grade.Trap.{Trap}
use Rattle.first_moves.proofs.grade.traps_of.Goals.{in-Some+in_ok-push, in_default}
use Rattle.first_moves.proofs.grade.traps_of.Goals as goal

pub loop-i-preserved : goal.loop-i-preserved
loop-i-preserved c =
    let found = c.args.found.now in
    let f : Found = c.index-found-i.result in
    let is_there : Contains found f = (c.loop-i.i, search rules, search rules) in
    elim c.match-branch-2.branch [
      | in-Some+in_ok-push w ↦
          let trap : IsTrap found w.in-Some.trap = (
            f,
            is_there,
            subst (λ (o : Option Trap). IfSome o (λ t. t.turn ≡ f.turn)) w.in-Some.is c.in_ok-trap.ensures.turn,
            subst (λ (o : Option Trap). IfSome o (λ t. is_refuted f.judged ≡ true)) w.in-Some.is c.in_ok-trap.ensures.refuted,
          ) in
          let pushed : All (IsTrap found) w.push.new.self.items =
          subst (All (IsTrap found)) (sym w.in_ok-push.ensures.items) (All-push (IsTrap found) c.loop-i.traps.items w.in-Some.trap c.loop-i.invariant trap) in
          subst (λ ts. All (IsTrap found) ts.items) (sym w.traps-is) pushed
      | in_default w ↦ subst (λ ts. All (IsTrap found) ts.items) (sym w.traps-is) c.loop-i.invariant
    ]
