use Rattle.safe_groups.proofs.Common.{◌≡◌, ◌≢◌, sym, ◌∙◌, ap, subst, inl, Empty, cell_at, side_of, number_of, holds_place, IsChainOf}
use Rattle.std.proofs.Common.{rules}
use Rattle.safe_groups.proofs.Spacing.{HasChain, chain_one, chain_first, chain_rest, of_chain, some_there}
use Rattle.safe_groups.proofs.eyes.add_chain.Goals as goal

pub loop-stone-init : goal.loop-stone-init
loop-stone-init c = (
  search rules,
  search rules,
  λ q held. inl held,
  λ q held. held,
)

pub loop-stone-preserved : goal.loop-stone-preserved
loop-stone-preserved c =
    let cells = c.args.stones.now in let n = side_of cells in let p = number_of n c.args.point in let x = c.in-Some-stone.stone in let chain = c.into_iter-stone-iterator.result in
    let is : chain ≡ c.in-Some.chain = c.into_iter-stone-iterator.ensures.into_iter_gives ∙ c.iter-stone-items.ensures.value in
    let are : IsChainOf n cells p chain = subst (IsChainOf n cells p) (sym is) c.in-Some.ensures.chain in
    let held = chain_first c.loop-stone.stone-iterator c.next.new.self chain x c.in-Some-stone.ensures.steps c.loop-stone.invariant.3 in (
      search rules,
      search rules,
      subst (HasChain n cells p c.args.set.now) (sym c.insert.ensures) (chain_one n cells p c.args.set.now c.loop-stone.set x (of_chain n cells p c.args.set.now chain x are (some_there cells p c.in-Some.ensures.variant) held) c.loop-stone.invariant.2),
      chain_rest c.loop-stone.stone-iterator c.next.new.self chain x c.in-Some-stone.ensures.steps c.loop-stone.invariant.3,
    )

pub returns : goal.returns
returns c = c.loop-stone.invariant.2
