use Rattle.sgf_text.proofs.Common.{sym, ap, ◌∙◌, subst, IsTrue, AfterChild, is_tree, Parser, with_child}
use Rattle.std.specs.Prelude.{reverse, [], ◌∷◌}
use Rattle.std.proofs.lemmas.List.{reverse-append}
use Rattle.sgf_text.proofs.OpenSound.{tree_good, ended_outer}
use Rattle.sgf_text.proofs.open_trees.OpenTrees.close.Goals as goal

pub into_tree-tree-requires : goal.into_tree-tree-requires
into_tree-tree-requires c =
    subst (λ t. IsTrue (is_tree t)) (sym (c.replace.ensures.value ∙ ap (λ (o : Parser). o.tree) (c.self.view_is ∙ c.in_ok-end_node.ensures))) (tree_good c.args.self.now c.requires.sound c.requires.closes)

pub returns : goal.returns
returns c =
    let o = c.args.self.now in
    let is = c.self.view_is ∙ c.in_ok-end_node.ensures in
    let others = reverse c.pop.new.self.items in
    let child = c.in_ok-push_child.ensures ∙ ap (with_child c.in-Some.around) (c.into_tree-tree.ensures ∙ c.replace.ensures.value ∙ ap (λ (o : Parser). o.tree) is) in (
      c.in-Some.around,
      others,
      sym (ended_outer o.state o) ∙ sym (ap (λ (o : Parser). o.outer) is) ∙ ap reverse c.in-Some.ensures.items ∙ reverse-append c.pop.new.self.items (c.in-Some.around ∷ []),
      λ i. record {
        state = AfterChild;
        word = ap (λ (o : Parser). o.word) is i;
        ident = ap (λ (o : Parser). o.ident) is i;
        values = ap (λ (o : Parser). o.values) is i;
        properties = ap (λ (o : Parser). o.properties) is i;
        tree = child i;
        outer = others;
        nodes = ap (λ (o : Parser). o.nodes) is i;
      },
    )
