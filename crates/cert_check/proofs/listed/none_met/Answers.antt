use Rattle.std.proofs.Common.{rules, refl, sym, ◌∙◌}
use Rattle.cert_check.proofs.Apart.{meet_found, meet_other, meet_end}
use Rattle.cert_check.proofs.listed.none_met.Goals as goal

pub loop-index-init : goal.loop-index-init
loop-index-init c = refl

pub returns-then-stands_at : goal.returns-then-stands_at
returns-then-stands_at c =
    sym (meet_found c.args.few.now c.args.list.now c.loop-index.place c.skip_before-place.result c.loop-index.index c.at-colouring.result c.requires.list c.at-colouring.ensures c.skip_before-place.ensures.passed c.loop-index.invariant
    (sym c.stands_at.ensures ∙ c.if-stands_at.true))

pub loop-index-preserved : goal.loop-index-preserved
loop-index-preserved c =
    meet_other c.args.few.now c.args.list.now c.loop-index.place c.skip_before-place.result c.loop-index.index c.at-colouring.result c.requires.list c.at-colouring.ensures c.skip_before-place.ensures.passed c.loop-index.invariant
    c.requires.few (sym c.stands_at.ensures ∙ c.if-stands_at.false) c.skip_before-place.ensures.next

pub returns : goal.returns
returns c = sym (meet_end c.args.few.now c.args.list.now c.loop-index.place c.loop-index.index (search rules) c.loop-index.invariant)
