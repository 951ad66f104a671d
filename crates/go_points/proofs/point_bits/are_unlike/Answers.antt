use Rattle.go_points.proofs.Common.{get_or, sym, ◌∙◌, ap}
use Rattle.go_points.proofs.Narrowing.{wide_at}
use Rattle.go_points.proofs.point_bits.are_unlike.Goals as goal

pub returns-then-narrow-index : goal.returns-then-narrow-index
returns-then-narrow-index c =
    let i = c.loop-index.index in
    λ _ same. c.if-narrow-index.true (sym (wide_at c.args.narrow.now c.told-narrow i) ∙ ap (λ w. get_or w i 0) same)
