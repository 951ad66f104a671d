use Rattle.solution_tree.proofs.Common.{ap, ◌∙◌, turn, ply_of, answer_of, Answer}
use Rattle.solution_tree.proofs.AnswerTrees.{answer_of_turn}
use Rattle.solution_tree.proofs.opened.with_turn.Goals as goal

pub returns : goal.returns
returns c = λ kept n. answer_of_turn n c.args.turn c.in_ok-new.field-0 ∙ ap (λ (a : Answer). turn (ply_of n c.args.turn) (answer_of n a)) c.in_ok-new.ensures.ok
