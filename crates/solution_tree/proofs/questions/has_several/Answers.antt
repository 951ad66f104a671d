use Rattle.std.proofs.Common.{◌∙◌, sym}
use Rattle.solution_tree.proofs.Follow.{several_behind, one_in_sequence}
use Rattle.solution_tree.proofs.questions.has_several.Goals as goal

pub returns-then-is_empty : goal.returns-then-is_empty
returns-then-is_empty c = several_behind c.args.nodes.now c.args.children.now c.requires (sym c.is_empty.ensures ∙ c.if-is_empty.true)

pub returns-else-is_empty : goal.returns-else-is_empty
returns-else-is_empty c = c.if-is_empty.false ∙ one_in_sequence c.args.nodes.now c.args.children.now (sym c.is_empty.ensures ∙ c.if-is_empty.false)
