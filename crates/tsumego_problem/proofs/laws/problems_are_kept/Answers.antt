use Rattle.tsumego_problem.proofs.Common.{◌≤◌, subst, MAX_SIZE}
use Rattle.tsumego_problem.proofs.KeptProblems.{problem_kept, set_picked}
use Rattle.tsumego_problem.proofs.laws.problems_are_kept.Goals as goal

pub returns : goal.returns
returns c =
    let q = c.args.problem.now in
    problem_kept q
    (subst (λ n. 1 ≤ n) c.size.ensures c.area-area.ensures.least)
    (subst (λ n. n ≤ MAX_SIZE) c.size.ensures c.area-area.ensures.most)
    c.history-history.ensures.problem
    (set_picked q.game.size c.targets.result.now q.game.targets c.targets.ensures.value c.len-targets.ensures.set c.targets.ensures.on_board)
    (set_picked q.game.size c.region.result.now q.game.region c.region.ensures.value c.len-region.ensures.set c.region.ensures.on_board)
