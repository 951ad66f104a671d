use Rattle.cert_check.proofs.Common.{rules, refl, sym, ◌∙◌, slice_get_within, get_or_from_slice_get, has_occurred, all_more, all_no, all_yes}
use Rattle.cert_check.proofs.listed.all_found.Goals as goal

pub loop-index-init : goal.loop-index-init
loop-index-init c = refl

pub returns-then-not-stands_on : goal.returns-then-not-stands_on
returns-then-not-stands_on c =
    let few = c.args.few.now in
    let i = c.loop-index.index in
    let x = c.at.result in
    sym (all_no (has_occurred c.args.list.now) few i x (slice_get_within few i x c.at.ensures) (get_or_from_slice_get few i x x c.at.ensures) (sym c.stands_on.ensures ∙ c.if-not-stands_on.true) c.loop-index.invariant)

pub loop-index-preserved : goal.loop-index-preserved
loop-index-preserved c =
    let few = c.args.few.now in
    let i = c.loop-index.index in
    let x = c.at.result in
    all_more (has_occurred c.args.list.now) few i x (slice_get_within few i x c.at.ensures) (get_or_from_slice_get few i x x c.at.ensures) (sym c.stands_on.ensures ∙ c.if-not-stands_on.false) c.loop-index.invariant

pub returns : goal.returns
returns c = sym (all_yes (has_occurred c.args.list.now) c.args.few.now c.loop-index.index (search rules) c.loop-index.invariant)
