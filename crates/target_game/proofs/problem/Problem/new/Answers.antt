use Rattle.std.proofs.Common.{sym, ap, ◌∙◌, slice_get, option_copied}
use Rattle.target_game.proofs.Loops.{no_first}
use Rattle.target_game.proofs.Facts.{asked_ok, asked_err}
use Rattle.target_game.proofs.problem.Problem.new.Goals as goal

pub returns-in_default : goal.returns-in_default
returns-in_default c =
    sym (no_first c.args.history.items c.args.place c.args.mover c.args.passes c.args.targets c.args.region
    (sym (c.first.ensures.value ∙ ap (λ h. slice_get h 0) c.deref.ensures.value) ∙ ap option_copied c.in_default.is))

pub returns-in-Err : goal.returns-in-Err
returns-in-Err c =
    sym (asked_err c.args.history.items c.in-Some.first.now c.size-size.result c.args.place c.args.mover c.args.passes c.args.targets c.args.region c.defender_of.result c.in-Err.fault
    (sym (c.first.ensures.value ∙ ap (λ h. slice_get h 0) c.deref.ensures.value) ∙ ap option_copied c.in-Some.is)
    c.size-size.ensures.value c.in-Err.is (rw (← c.as_slice.ensures.value) c.defender_of.ensures))

pub invariant_of-result : goal.invariant_of-result
invariant_of-result c =
    asked_ok c.args.history.items c.in-Some.first.now c.size-size.result c.args.place c.args.mover c.args.passes c.args.targets c.args.region c.defender_of.result c.in-Ok.defender
    (sym (c.first.ensures.value ∙ ap (λ h. slice_get h 0) c.deref.ensures.value) ∙ ap option_copied c.in-Some.is)
    c.size-size.ensures.value c.in-Ok.is (rw (← c.as_slice.ensures.value) c.defender_of.ensures)

pub returns-in-Ok : goal.returns-in-Ok
returns-in-Ok c = sym (invariant_of-result c)
