use Rattle.sgf_text.proofs.Common.{◌≡◌, ◌∷◌, arith, ap, ◌∙◌, sym, subst, take, flat_map, append-nil, HasPut, then_put, next_put, node_text, tree_text, forest_text}
use Rattle.std.proofs.lemmas.List.{take_all}
use Rattle.sgf_text.proofs.TreeTextLemmas.{forest_flat, kid_is_smaller}
use Rattle.sgf_text.proofs.tree_text.+put_tree.Goals as goal

pub loop-child-init : goal.loop-child-init
loop-child-init g t c =
    subst (HasPut (g.W.Write.contents c.args.writer.now) (g.W.Write.contents c.put_nodes.new.writer) c.args.pending.now c.put_nodes.new.pending) (sym (append-nil (40 ∷ flat_map node_text c.args.tree.now.nodes)))
    (then_put c.put.ensures (rw c.nodes.ensures.nodes at c.put_nodes.ensures))

pub put_tree-requires : goal.put_tree-requires
put_tree-requires g t c =
    let small = kid_is_smaller c.args.tree.now c.children-child-items.result.now c.loop-child.child-index c.child-item.result c.children-child-items.ensures (omega arith) c.child-item.is in
    λ κs k. (omega (arith, small, c.decreases), k)

pub loop-child-preserved : goal.loop-child-preserved
loop-child-preserved g t c =
    next_put tree_text c.children-child-items.result.now c.loop-child.child-index c.child-item.result (omega arith) c.child-item.is (40 ∷ flat_map node_text c.args.tree.now.nodes) c.loop-child.invariant c.put_tree.ensures

pub returns : goal.returns
returns g t c =
    let all : take c.loop-child.child-index c.children-child-items.result.now ≡ c.children-child-items.result.now = take_all c.loop-child.child-index c.children-child-items.result.now (omega arith) in
    let e : flat_map tree_text c.children-child-items.result.now ≡ forest_text c.args.tree.now.children = sym (forest_flat c.children-child-items.result.now) ∙ ap forest_text c.children-child-items.ensures in
    then_put (rw (all, e) at c.loop-child.invariant) c.put-2.ensures
