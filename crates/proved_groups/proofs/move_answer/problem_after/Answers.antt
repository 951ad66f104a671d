use Rattle.std.proofs.Common.{rules, ◌++◌, ◌∷◌, [], length, IfSome}
use Rattle.go_points.specs.Grid.{opponent_of}
use Rattle.target_game.specs.State.{start}
use Rattle.proved_groups.specs.After.{IsResult, IsWith}
use Rattle.proved_groups.proofs.Moving.{after_of}
use Rattle.proved_groups.proofs.move_answer.problem_after.Goals as goal

pub returns : goal.returns
returns c =
    let q = c.args.problem.now in
    let first : IsWith q q.history q.place c.args.mover c.in-Some.before = search rules in
    let result : IsResult (start c.in-Some.before) c.args.point c.in-Some-2.after = search rules in
    let second : IfSome c.problem_with-2.result (IsWith q (q.history ++ (c.in-Some-2.after ∷ [])) (length q.history) (opponent_of c.args.mover)) = search rules in
    after_of q c.args.mover c.args.point c.in-Some.before c.in-Some-2.after c.problem_with-2.result first result second
