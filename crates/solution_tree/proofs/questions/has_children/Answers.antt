use Rattle.std.proofs.Common.{◌∙◌, sym, ap, not}
use Rattle.solution_tree.proofs.Follow.{children_behind, sequence_goes_on}
use Rattle.solution_tree.proofs.questions.has_children.Goals as goal

pub returns-then-not-is_empty : goal.returns-then-not-is_empty
returns-then-not-is_empty c = ap not c.if-not-is_empty.true ∙ sequence_goes_on c.args.nodes.now c.args.children.now (sym c.is_empty.ensures ∙ c.if-not-is_empty.true)

pub returns-else-not-is_empty : goal.returns-else-not-is_empty
returns-else-not-is_empty c =
    ap not c.is_empty-else-not-is_empty.ensures ∙ children_behind c.args.nodes.now c.args.children.now c.requires (sym c.is_empty.ensures ∙ c.if-not-is_empty.false)
