use Rattle.std.proofs.Common.{rules, ◌≡◌, [], false, true, IsTrue, subst}
use Rattle.std.specs.Prelude.{IfOk}
use Rattle.target_game.specs.State.{Line, start}
use Rattle.solution_tree.specs.Questions.{follows}
use Rattle.short_proofs.specs.Sound.{AreSound, IsAnswered}
use Rattle.short_proofs.proofs.Readings.{reading}
use Rattle.short_proofs.proofs.soundness.is_record_sound.Goals as goal

pub returns : goal.returns
returns c =
    let x = c.args.winner in
    let s = start c.args.problem.now in
    let nodes = c.in-Some.mark.nodes.now in
    let trees = c.in-Some.mark.children.now in
    let begun : c.in_ok-state.state ≡ record { state = s; before = [] } = c.in_ok-state.ensures in
    let is : c.is_answered.result ≡ true = search rules in
    reading x s c.args.tree.now nodes trees c.in-Some.ensures.below
    (subst (λ (l : Line). IsAnswered x l.state false (follows nodes trees)) begun (c.is_answered.ensures is)) c.is_sequence_sound.result
    (subst (λ (l : Line). IfOk c.is_sequence_sound.result (λ b. IsTrue b → AreSound x l.state (follows nodes trees))) begun c.is_sequence_sound.ensures.sound)
