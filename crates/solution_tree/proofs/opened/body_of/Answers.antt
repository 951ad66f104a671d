use Rattle.solution_tree.proofs.Common.{◌≡◌, ap, ◌∙◌, arith, node_of, CheckedClaim, lemma_count}
use Rattle.std.specs.Prelude.{length}
use Rattle.solution_tree.proofs.Lower.{used_bounds, next_body, below_more}
use Rattle.solution_tree.proofs.opened.body_of.Goals as goal

pub overflow_sub-below : goal.overflow_sub-below
overflow_sub-below c =
    let (low, high) = used_bounds c.args.checked.now.certificate.size c.loop-part.below c.loop-part.part.now c.in-Use.lemma c.in-Use.is c.loop-part.invariant.1 in low

pub bounds-lemmas-below : goal.bounds-lemmas-below
bounds-lemmas-below c =
    let all : length c.as_slice-lemmas.result.now ≡ lemma_count c.args.checked.now = cc in
    let (low, high) = used_bounds c.args.checked.now.certificate.size c.loop-part.below c.loop-part.part.now c.in-Use.lemma c.in-Use.is c.loop-part.invariant.1 in
    omega (arith, low, high, all, c.loop-part.invariant.2)

pub loop-part-smaller : goal.loop-part-smaller
loop-part-smaller c =
    let (low, high) = used_bounds c.args.checked.now.certificate.size c.loop-part.below c.loop-part.part.now c.in-Use.lemma c.in-Use.is c.loop-part.invariant.1 in
    omega (arith, low, high)

pub loop-part-preserved : goal.loop-part-preserved
loop-part-preserved c =
    let k : CheckedClaim = c.args.checked.now in
    let same : c.as_slice-lemmas.result.now ≡ k.certificate.lemmas.items = cc in
    let all : length c.as_slice-lemmas.result.now ≡ lemma_count k = ap length same in
    let it = next_body k c.winner-winner.ensures.checked c.as_slice-lemmas.result.now same c.loop-part.below c.in-Use.lemma c.loop-part.part.now c.index-lemmas-below.result
    c.in-Use.is c.loop-part.invariant.1 c.loop-part.invariant.2 c.index-lemmas-below.is in
    ((λ s. it.0 s ∙ c.loop-part.invariant.0 s), it.1, it.2)

pub returns-in-Play-clause-below : goal.returns-in-Play-clause-below
returns-in-Play-clause-below c = below_more c.loop-part.below (lemma_count c.args.checked.now) c.loop-part.invariant.2 (node_of c.args.checked.now.certificate.size c.loop-part.part.now) c.loop-part.invariant.1

pub returns-in-All-clause-below : goal.returns-in-All-clause-below
returns-in-All-clause-below c = below_more c.loop-part.below (lemma_count c.args.checked.now) c.loop-part.invariant.2 (node_of c.args.checked.now.certificate.size c.loop-part.part.now) c.loop-part.invariant.1
