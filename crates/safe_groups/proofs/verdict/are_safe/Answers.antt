use Rattle.safe_groups.proofs.Verdicts.{safe_targets, safe_stones}
use Rattle.safe_groups.proofs.verdict.are_safe.Goals as goal

pub returns-clause-targets : goal.returns-clause-targets
returns-clause-targets c = safe_targets c.args.problem.now c.args.grounds.now c.args.begins.now c.requires.holds c.requires.replies

pub returns-clause-stones : goal.returns-clause-stones
returns-clause-stones c = safe_stones c.args.problem.now c.args.grounds.now c.args.begins.now c.requires.holds c.requires.replies c.args.stones.now c.requires.kept
