use Rattle.cert_check.proofs.Common.{rules, ◌∙◌, sym, refl, all_more, all_no, all_yes, is_known}
use Rattle.cert_check.proofs.body_state.BodyState.knows_all.Goals as goal

pub loop-colouring-init : goal.loop-colouring-init
loop-colouring-init c = refl

pub returns-then-not-knows : goal.returns-then-not-knows
returns-then-not-knows c =
    let s = c.args.self.now.state in
    let x = c.colouring-item.result in
    sym (all_no (is_known s) c.args.colourings.now c.loop-colouring.colouring-index x (search rules) (sym c.colouring-item.is) (sym c.knows.ensures ∙ c.if-not-knows.true) c.loop-colouring.invariant)

pub loop-colouring-preserved : goal.loop-colouring-preserved
loop-colouring-preserved c =
    let s = c.args.self.now.state in
    let x = c.colouring-item.result in
    all_more (is_known s) c.args.colourings.now c.loop-colouring.colouring-index x (search rules) (sym c.colouring-item.is) (sym c.knows.ensures ∙ c.if-not-knows.false) c.loop-colouring.invariant

pub returns : goal.returns
returns c = sym (all_yes (is_known c.args.self.now.state) c.args.colourings.now c.loop-colouring.colouring-index (search rules) c.loop-colouring.invariant)
