use Rattle.std.proofs.Common.{ℕ, ap, is_eq, is_lt, sym, ◌∙◌, subst, arith}
use Rattle.cert_check.proofs.Ascending.{IsSplit, split_start, split_rest, split_found, split_low, split_high}
use Rattle.cert_check.proofs.listed.stands_on.Goals as goal

pub halving-init : goal.halving-init
halving-init c = subst (λ (n : ℕ). IsSplit c.args.list.now c.args.colouring.now 0 n) (sym c.len-high.ensures) (split_start c.args.list.now c.args.colouring.now)

pub returns-then-is_eq : goal.returns-then-is_eq
returns-then-is_eq c =
    sym (split_found c.args.list.now c.args.colouring.now c.halving.low c.halving.high _ c.at.result c.requires c.halving.invariant (omega arith) c.at.ensures (ap is_eq (sym c.cmp-order.ensures) ∙ sym c.is_eq.ensures ∙ c.if-is_eq.true))

pub halving-preserved-then-is_lt : goal.halving-preserved-then-is_lt
halving-preserved-then-is_lt c =
    split_low c.args.list.now c.args.colouring.now c.halving.low c.halving.high _ c.at.result c.requires c.halving.invariant (omega arith) c.at.ensures (ap is_lt (sym c.cmp-order.ensures) ∙ sym c.is_lt.ensures ∙ c.if-is_lt.true)

pub halving-preserved : goal.halving-preserved
halving-preserved c =
    split_high c.args.list.now c.args.colouring.now c.halving.low c.halving.high _ c.at.result c.requires c.halving.invariant (omega arith) c.at.ensures (ap is_eq (sym c.cmp-order.ensures) ∙ sym c.is_eq.ensures ∙ c.if-is_eq.false) (ap is_lt (sym c.cmp-order.ensures) ∙ sym c.is_lt.ensures ∙ c.if-is_lt.false)

pub returns : goal.returns
returns c = split_rest c.args.list.now c.args.colouring.now c.halving.low c.halving.high c.is_among.result c.halving.invariant c.is_among.ensures.found c.is_among.ensures.none
