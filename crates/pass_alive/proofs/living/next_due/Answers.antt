use Rattle.pass_alive.proofs.Common.{sym, holds_place, or_left}
use Rattle.pass_alive.proofs.Spreading.{first_held, first_none}
use Rattle.pass_alive.proofs.Left.{late_some, late_none}
use Rattle.pass_alive.proofs.living.next_due.Goals as goal

pub returns-in-Some-clause-some : goal.returns-in-Some-clause-some
returns-in-Some-clause-some c = or_left (holds_place c.args.due.now c.in-Some.point) (holds_place c.args.late.now c.in-Some.point) c.in-Some.ensures.0

pub returns-in-Some-first-clause-some : goal.returns-in-Some-first-clause-some
returns-in-Some-first-clause-some c = or_left (holds_place c.args.due.now c.in-Some-first.point) (holds_place c.args.late.now c.in-Some-first.point) (first_held c.args.due.now c.in-Some-first.point (sym c.in-Some-first.ensures.value))

pub returns-clause-some : goal.returns-clause-some
returns-clause-some c = late_some c.args.due.now c.args.late.now c.first-2.result c.first-2.ensures.value

pub returns-clause-none : goal.returns-clause-none
returns-clause-none c = late_none c.args.due.now c.args.late.now c.first-2.result (first_none c.args.due.now (sym c.in_default-first.ensures.value)) c.first-2.ensures.value
