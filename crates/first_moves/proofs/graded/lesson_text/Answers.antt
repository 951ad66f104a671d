use Rattle.first_moves.proofs.Common.{rules}
use Rattle.first_moves.proofs.graded.lesson_text.Goals as goal

pub returns : goal.returns
returns c = (c.has_ko.result, c.points.result, search rules)
