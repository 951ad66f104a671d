use Rattle.tool_parts.proofs.Answering.{answered}
use Rattle.first_moves.specs.Outputs.{IsOutput}
use Rattle.first_moves.proofs.program.run.Goals as goal

pub returns : goal.returns
returns g c = answered IsOutput c.args.request c.output.result c.write_output.result _ _ _ c.output.ensures c.write_output.ensures.written c.write_output.ensures.status c.write_output.ensures.memory
