use Rattle.go_points.specs.Place.{number_of}
use Rattle.safe_groups.proofs.Verdicts.{safe_targets_after, safe_stones_after}
use Rattle.safe_groups.proofs.verdict.are_safe_by_move.Goals as goal

pub returns-clause-targets : goal.returns-clause-targets
returns-clause-targets c = safe_targets_after c.args.problem.now c.args.grounds.now c.args.begins.now c.requires.holds c.args.place (number_of c.args.problem.now.game.size c.args.first) c.requires.place c.requires.mover c.requires.others c.requires.moved

pub returns-clause-stones : goal.returns-clause-stones
returns-clause-stones c = safe_stones_after c.args.problem.now c.args.grounds.now c.args.begins.now c.requires.holds c.args.place (number_of c.args.problem.now.game.size c.args.first) c.requires.place c.requires.mover c.requires.others c.requires.moved c.args.stones.now c.requires.kept
