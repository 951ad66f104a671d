use Rattle.std.proofs.Common.{refl, sym, ◌∙◌}
use Rattle.cert_check.proofs.Apart.{passed_one}
use Rattle.cert_check.proofs.listed.skip_before.Goals as goal

pub skipping-init : goal.skipping-init
skipping-init c = λ rest up. refl

pub skipping-preserved : goal.skipping-preserved
skipping-preserved c = λ rest up.
    passed_one c.args.list.now c.skipping.place c.args.colouring.now rest (sym c.stands_before.ensures ∙ c.skipping-test.true) up ∙ c.skipping.invariant rest up
