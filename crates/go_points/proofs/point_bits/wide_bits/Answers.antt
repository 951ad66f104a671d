use Rattle.go_points.proofs.Common.{ℕ, List, sym, refl, subst, arith, get_or_past, word_count}
use Rattle.go_points.proofs.Narrowing.{IsCopied, none_copied, one_copied, all_copied}
use Rattle.go_points.proofs.point_bits.wide_bits.Goals as goal

pub loop-index-init : goal.loop-index-init
loop-index-init c = subst (λ (w : List ℕ). IsCopied c.args.bits.now w word_count 0) (sym c.no_bits-wide.ensures) (none_copied c.args.bits.now word_count)

pub loop-index-preserved : goal.loop-index-preserved
loop-index-preserved c = one_copied c.args.bits.now c.loop-index.wide word_count c.loop-index.index c.loop-index.invariant _ (omega arith) refl

pub returns : goal.returns
returns c = all_copied c.args.bits.now c.loop-index.wide word_count c.loop-index.index c.loop-index.invariant (λ j more low. get_or_past c.args.bits.now j 0 (omega (arith, more)))
