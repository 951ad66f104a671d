use Rattle.cert_check.proofs.Common.{◌≡◌, ◌<◌, inl, inr, [], length, get_or, sym, ◌∙◌, ap, arith, slice_get, same_cells}
use Rattle.std.proofs.lemmas.Bool.{cases_lt}
use Rattle.std.proofs.lemmas.List.Folds.{list_any_at}
use Rattle.std.proofs.lemmas.Option.{slice_get-get_or}
use Rattle.cert_check.proofs.listed.is_among.Goals as goal

pub returns-then-is_at-clause-found : goal.returns-then-is_at-clause-found
returns-then-is_at-clause-found c = λ yes.
    let list = c.args.list.now in
    let i = c.loop-index.index in
    let low : i < length list = omega (arith, c.loop-index-test.true, c.requires) in
    list_any_at (same_cells c.args.colouring.now) list i [] low (sym (c.is_at.ensures (get_or list i []) (slice_get-get_or list i [] low)) ∙ c.if-is_at.true)

pub loop-index-preserved : goal.loop-index-preserved
loop-index-preserved c = λ k other after below there.
    let i = c.loop-index.index in
    elim (cases_lt k i) [
      | inl before ↦ c.loop-index.invariant k other after before there
      | inr here ↦ (let same : k ≡ i = omega (arith, below, here) in sym (c.is_at.ensures other (ap (slice_get c.args.list.now) (sym same) ∙ there)) ∙ c.if-is_at.false)
    ]
