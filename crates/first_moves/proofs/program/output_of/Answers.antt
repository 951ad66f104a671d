use Rattle.first_moves.proofs.Outputs.{of_bytes}
use Rattle.first_moves.proofs.program.output_of.Goals as goal

pub returns-in-Ok-read_problem : goal.returns-in-Ok-read_problem
returns-in-Ok-read_problem g c =
    of_bytes c.args.request.now c.args.bytes.now c.in-Ok.tree c.in-Ok._end c.in-Ok-read_problem.problem c.answered.result
    c.in-Ok.ensures.found.0 c.in-Ok-read_problem.ensures.ok c.answered.ensures
