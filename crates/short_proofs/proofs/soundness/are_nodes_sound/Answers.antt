use Rattle.std.proofs.Common.{rules, arith, ◌≡◌, true, ◌∷◌, ◌∙◌, suc, length, sym, ap, subst}
use Rattle.target_game.specs.State.{Line}
use Rattle.solution_tree.specs.Questions.{follows}
use Rattle.solution_tree.proofs.Going.{leads_more}
use Rattle.short_proofs.specs.Sound.{state_after, AreSound}
use Rattle.short_proofs.proofs.Games.{game_after}
use Rattle.short_proofs.proofs.soundness.are_nodes_sound.Goals as goal

pub loop-node-preserved : goal.loop-node-preserved
loop-node-preserved c =
    let (made, count, leads, game, sound) = c.loop-node.invariant in
    let x = c.args.winner in
    let s = c.loop-node.state.state in
    let node = c.in-Some.node.now in
    let others = c.in-Some.others.now in
    let trees = c.args.children.now in
    let is_sound : c.in_ok-is_node_sound.field-0 ≡ true = search rules in
    let first : c.loop-node.left.now ≡ node ∷ others = search rules in
    let went : c.is_node_sound.new.state ≡ record { state = state_after s node; before = s ∷ c.loop-node.state.before } = c.in_ok-is_node_sound.ensures.state is_sound in
    let shorter : length c.loop-node.left.now ≡ suc (length others) = ap length first in (
      suc made,
      omega (arith, count, shorter),
      leads_more made c.args.state.now c.loop-node.state c.is_node_sound.new.state s (ap (λ (l : Line). l.before) went) leads,
      ap (λ (l : Line). l.state.game) went ∙ game_after s node ∙ game,
      λ h. sound (subst (λ ns. AreSound x s (follows ns trees)) (sym first)
          (c.in_ok-is_node_sound.ensures.sound is_sound, subst (λ (l : Line). AreSound x l.state (follows others trees)) went h, tt)),
    )
