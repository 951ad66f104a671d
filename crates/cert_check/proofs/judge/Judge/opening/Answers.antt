use Rattle.cert_check.proofs.Common.{rules, ◌≡◌, ◌*◌, length, side_of-whole}
use Rattle.cert_check.proofs.judge.Judge.opening.Goals as goal

pub lemma-requires-clause-size : goal.lemma-requires-clause-size
lemma-requires-clause-size c =
    let n = c.args.self.now.problem.now.game.size in
    let whole : length c.in-Lemma.root ≡ n * n = search rules in
    side_of-whole c.in-Lemma.root n whole
