use Rattle.dead_groups.proofs.Killing.{dead_all}
use Rattle.dead_groups.proofs.claim.are_dead.Goals as goal

pub returns : goal.returns
returns c =
    let standing = c.args.standing.now in let kill = c.args.kill.now in
    dead_all c.args.problem.now c.history-history.ensures.problem kill.ground kill.begin c.requires.placed standing.grounds.items standing.begins.items c.requires.holds c.requires.replies standing.stones c.args.supposed.now kill.targets
    c.requires.kept c.requires.supposed c.requires.apart c.args.list.now c.requires.judged c.requires.root
