use Rattle.cert_check.proofs.Common.{rules, ◌∙◌, sym, not, List, refl, true, false, slice_get_within, get_or_from_slice_get, Cell, all_more, all_no, all_yes, is_known}
use Rattle.cert_check.proofs.Lists.{known_by}
use Rattle.cert_check.proofs.body_state.none_known.Goals as goal

pub loop-index-init : goal.loop-index-init
loop-index-init c = refl

pub returns-then-is_some : goal.returns-then-is_some
returns-then-is_some c =
    let s = c.args.state.now.state in
    let list = c.args.list.now in
    let i = c.loop-index.index in
    let x = c.at.result in
    sym (all_no (λ (d : List Cell). not (is_known s d)) list i x (slice_get_within list i x c.at.ensures) (get_or_from_slice_get list i x x c.at.ensures) (known_by s.history x c.holds.result true c.holds.ensures (sym c.is_some.ensures ∙ c.if-is_some.true)) c.loop-index.invariant)

pub loop-index-preserved : goal.loop-index-preserved
loop-index-preserved c =
    let s = c.args.state.now.state in
    let list = c.args.list.now in
    let i = c.loop-index.index in
    let x = c.at.result in
    all_more (λ (d : List Cell). not (is_known s d)) list i x (slice_get_within list i x c.at.ensures) (get_or_from_slice_get list i x x c.at.ensures) (known_by s.history x c.holds.result false c.holds.ensures (sym c.is_some.ensures ∙ c.if-is_some.false)) c.loop-index.invariant

pub returns : goal.returns
returns c = sym (all_yes (λ (d : List Cell). not (is_known c.args.state.now.state d)) c.args.list.now c.loop-index.index (search rules) c.loop-index.invariant)
