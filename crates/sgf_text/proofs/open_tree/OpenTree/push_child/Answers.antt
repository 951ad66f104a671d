use Rattle.sgf_text.proofs.ForestLemmas.{child_pushed}
use Rattle.sgf_text.proofs.open_tree.OpenTree.push_child.Goals as goal

pub returns : goal.returns
returns c = rw (← c.self.view_is) (child_pushed c.self.inside.nodes.items c.self.inside.children.items c.push.new.self.items c.args.child c.in_ok-push.ensures.items)
