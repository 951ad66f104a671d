use Rattle.tsumego_replies.proofs.Recording.{has_no_problem}
use Rattle.tsumego_replies.proofs.record.read_record.Goals as goal

pub returns-in-Err-read_problem-clause-err : goal.returns-in-Err-read_problem-clause-err
returns-in-Err-read_problem-clause-err c =
    has_no_problem c.args.bytes.now c.in-Ok.read.0 c.in-Ok.read.1 c.in-Err-read_problem.fault c.no_problem.result c.in-Ok.ensures.found.0 c.in-Ok.ensures.found.1
    c.in-Err-read_problem.ensures.refused c.no_problem.ensures.told c.no_problem.ensures.memory
