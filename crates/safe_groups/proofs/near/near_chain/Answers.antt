use Rattle.safe_groups.proofs.Common.{◌≡◌, sym, ◌∙◌, ap, subst, true, false, IsTrue, holds_place}
use Rattle.std.proofs.Common.{rules}
use Rattle.safe_groups.specs.Private.Spaces.{AreNear}
use Rattle.safe_groups.proofs.Spacing.{chain_first, chain_rest, near_more}
use Rattle.safe_groups.proofs.near.near_chain.Goals as goal

pub loop-stone-init : goal.loop-stone-init
loop-stone-init c = (
  search rules,
  search rules,
  λ q held. (let no : false ≡ true = sym (ap (λ l. holds_place l q) c.new-near.ensures) ∙ held in absurd (cc no)),
  λ q held. subst (λ l. IsTrue (holds_place l q)) (c.into_iter-stone-iterator.ensures.into_iter_gives ∙ c.iter-stone-items.ensures.value) held,
)

pub loop-stone-preserved-then-holds : goal.loop-stone-preserved-then-holds
loop-stone-preserved-then-holds c =
    let n = c.args.size in let chain = c.args.chain.now in let x = c.in-Some.stone in
    let held : IsTrue (holds_place chain x) = chain_first c.loop-stone.stone-iterator c.next.new.self chain x c.in-Some.ensures.steps c.loop-stone.invariant.3 in (
      search rules,
      search rules,
      near_more n chain x c.loop-stone.near c.add_neighbours.new.near (c.holds.ensures.0 c.if-holds.true) held c.add_neighbours.ensures c.loop-stone.invariant.2,
      chain_rest c.loop-stone.stone-iterator c.next.new.self chain x c.in-Some.ensures.steps c.loop-stone.invariant.3,
    )

pub returns : goal.returns
returns c = c.loop-stone.invariant.2
