use Rattle.safe_groups.proofs.Common.{refl}
use Rattle.dead_groups.specs.Ground.{targets_of}
use Rattle.dead_groups.proofs.Entering.{judged_more}
use Rattle.dead_groups.proofs.entry_list.EntryList.add.Goals as goal

pub returns : goal.returns
returns c = judged_more c.args.problem.now c.args.ground.now (targets_of c.args.ground.now c.args.targets.now) c.args.self.now c.args.played.now.state c.args.played.now.number c.args.is_begun
    c.requires.judged c.requires.state c.requires.allowed c.requires.entry c.requires.past c.requires.begun
    (record { states = c.push.new.self; moves = c.push-2.new.self; moves_first = c.args.self.now.moves_first; is_begun = c.args.is_begun })
    c.in_ok-push.ensures.items c.in_ok-push-2.ensures.items refl refl
