use Rattle.sgf_text.proofs.Common.{◌≡◌, sym, ap, ◌∙◌, subst, IsTrue, AfterValue, is_node, Parser, added, IsSoundNode, IsSoundProperty}
use Rattle.sgf_text.proofs.OpenSound.{value_node}
use Rattle.sgf_text.proofs.open_trees.OpenTrees.end_node.Goals as goal
use Rattle.sgf_text.proofs.open_trees.OpenTrees.end_node.Goals.{in-AfterSemicolon, in-AfterValue+in_ok-end_property-in-AfterValue}

pub take_node-requires : goal.take_node-requires
take_node-requires c =
    let o = c.args.self.now in
    let state = sym (ap (λ (o : Parser). o.state) c.self.view_is) in
    elim c.match-self.branch [
      | in-AfterSemicolon w ↦
          let p : c.self-2.inside.node ≡ o.properties = ap (λ (o : Parser). o.properties) (c.self-2.view_is ∙ w.self-is) in
          subst (λ ps. IsTrue (is_node ps)) (sym p) (subst (λ P. IsSoundNode P o.properties) (state ∙ w.in-AfterSemicolon.is) c.requires.properties)
      | in-AfterValue+in_ok-end_property-in-AfterValue w ↦
          let p : c.self-2.inside.node ≡ added o.properties o.ident o.values = ap (λ (o : Parser). o.properties) (c.self-2.view_is ∙ w.self-is ∙ w.in_ok-end_property-in-AfterValue.ensures) in
          let e : o.state ≡ AfterValue = state ∙ w.in-AfterValue.is in
          subst (λ ps. IsTrue (is_node ps)) (sym p)
          (value_node o.ident o.values o.properties (subst (λ P. IsSoundProperty P o.ident o.values) e c.requires.property) (subst (λ P. IsSoundNode P o.properties) e c.requires.properties))
    ]
