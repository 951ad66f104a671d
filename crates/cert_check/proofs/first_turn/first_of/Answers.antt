use Rattle.std.proofs.Common.{◌≤◌, ◌∙◌, sym, inl, inr, arith}
use Rattle.cert_check.proofs.FirstNodes.{first_won, first_all, first_play, first_no_use, first_use}
use Rattle.cert_check.proofs.first_turn.first_of.Goals.{then-number-eq0-via-then-number-eq0, then-number-eq0-via-else-number-eq0+then-number-below}
use Rattle.cert_check.proofs.first_turn.first_of.Goals as goal

pub returns-in-Won : goal.returns-in-Won
returns-in-Won c n s = sym (first_won n c.args.lemmas.now c.loop-part.below s c.loop-part.part.now c.in-Won.is) ∙ c.loop-part.invariant.1 n s

pub returns-in-All : goal.returns-in-All
returns-in-All c n s = sym (first_all n c.args.lemmas.now c.loop-part.below s c.loop-part.part.now c.in-All.field-0 c.in-All.is) ∙ c.loop-part.invariant.1 n s

pub returns-in-Play : goal.returns-in-Play
returns-in-Play c n s = sym (first_play n c.args.lemmas.now c.loop-part.below s c.loop-part.part.now c.in-Play.turn c.in-Play.field-1 c.in-Play.is) ∙ c.loop-part.invariant.1 n s

pub returns-then-number-eq0 : goal.returns-then-number-eq0
returns-then-number-eq0 c n s =
    let none = first_no_use n c.args.lemmas.now c.loop-part.below s c.loop-part.part.now c.in-Use.number c.in-Use.is c.loop-part.invariant.0 in
    elim c.then-number-eq0.branch [
      | then-number-eq0-via-then-number-eq0 w ↦ sym (none (inl (omega (arith, w.if-number-eq0.true)))) ∙ c.loop-part.invariant.1 n s
      | then-number-eq0-via-else-number-eq0+then-number-below w ↦ sym (none (inr (omega (arith, w.if-number-below.true)))) ∙ c.loop-part.invariant.1 n s
    ]

pub loop-part-preserved : goal.loop-part-preserved
loop-part-preserved c =
    let some : 1 ≤ c.in-Use.number = omega (arith, c.if-number-eq0.false) in
    let most : c.in-Use.number ≤ c.loop-part.below = omega (arith, c.if-number-below.false) in (
      omega (arith, some, most, c.loop-part.invariant.0),
      λ n s. sym (first_use n c.args.lemmas.now c.loop-part.below s c.loop-part.part.now c.in-Use.number c.index-lemmas-below.result c.in-Use.is c.loop-part.invariant.0 some most) ∙ c.loop-part.invariant.1 n s,
    )
