use Rattle.cert_check.proofs.Common.{◌≡◌, ℕ, ◌++◌, [], List, refl, ap, ◌∙◌, rules, Cell, Ply, ply_of, won, by_lemma, node_of, replies_of, node_of_won, node_of_use, node_of_play, node_of_all, gathered, joined, node_at, if_ok_map}
use Rattle.target_game.specs.State.{Line}
use Rattle.cert_check.proofs.Gathering.{own_plays, play_made, all_asked, leaf_asked, pass_gives, move_gives, playable_after, playable_play, playable_all}
use Rattle.cert_check.proofs.results.step.Goals.{in-At+in_ok-push-in-At, in-Pass}
use Rattle.cert_check.proofs.results.step.Goals as goal

pub after-requires-clause-open : goal.after-requires-clause-open
after-requires-clause-open c = (playable_play c.args.state.now.state c.args.node.now c.in-Play.turn c.in-Play.below c.in-Play.is c.requires.playable).0

pub after-requires-clause-legal : goal.after-requires-clause-legal
after-requires-clause-legal c = (playable_play c.args.state.now.state c.args.node.now c.in-Play.turn c.in-Play.below c.in-Play.is c.requires.playable).1

pub next_reply-requires-in-All-clause-playable : goal.next_reply-requires-in-All-clause-playable
next_reply-requires-in-All-clause-playable c = playable_all c.args.state.now.state c.args.node.now c.in-All.replies c.as_slice.result.now c.in-All.is c.as_slice.ensures.value c.requires.playable

pub returns-in-Won-clause-left : goal.returns-in-Won-clause-left
returns-in-Won-clause-left c =
    let line : Line = c.args.state.now in
    if_ok_map c.next_reply.result _ _ (λ part h. leaf_asked c.args.past.now.state line c.args.opened.now.items c.args.plays.now.items c.args.barred.now.items won [] c.args.node _ (ap (node_of line.state.game.size) c.in-Won.is ∙ node_of_won line.state.game.size) refl refl (h c.args.past.now.state)) c.next_reply.ensures.left

pub returns-in-Use-clause-left : goal.returns-in-Use-clause-left
returns-in-Use-clause-left c =
    let line : Line = c.args.state.now in
    if_ok_map c.next_reply-in-Use.result _ _ (λ part h. leaf_asked c.args.past.now.state line c.args.opened.now.items c.args.plays.now.items c.args.barred.now.items (by_lemma c.in-Use.field-0) [] c.args.node _ (ap (node_of line.state.game.size) c.in-Use.is ∙ node_of_use line.state.game.size c.in-Use.field-0) refl refl (h c.args.past.now.state)) c.next_reply-in-Use.ensures.left

pub returns-after-turn-clause-playable : goal.returns-after-turn-clause-playable
returns-after-turn-clause-playable c =
    playable_after c.args.state.now c.after.new.self c.in-Play.turn c.in_ok-after-in-Play.ensures.ok c.in-Play.below.value c.deref.result.now (search rules)
    (playable_play c.args.state.now.state c.args.node.now c.in-Play.turn c.in-Play.below c.in-Play.is c.requires.playable).2

pub returns-after-turn-clause-left : goal.returns-after-turn-clause-left
returns-after-turn-clause-left c =
    let line : Line = c.args.state.now in
    let n : ℕ = line.state.game.size in
    let t : Ply = ply_of n c.in-Play.turn in
    let ps : List (List Cell) = c.args.plays.now.items in
    let given : c.match-turn.plays.items ≡ ps ++ own_plays line.state t =
    (elim c.match-turn.branch [
      | in-At+in_ok-push-in-At w ↦ move_gives line c.after.new.self c.in-Play.turn c.in_ok-after-in-Play.ensures.ok ps c.match-turn.plays.items w.in-At.field-0 w.colouring.result w.in-At.is w.colouring.ensures (ap (λ v. v.items) w.plays-is ∙ w.in_ok-push-in-At.ensures.items)
      | in-Pass w ↦ pass_gives line c.after.new.self c.in-Play.turn c.in_ok-after-in-Play.ensures.ok ps c.match-turn.plays.items w.in-Pass.is (ap (λ v. v.items) w.plays-is)
    ]) in
    ap (λ (xs : List (List Cell)). joined (gathered xs c.args.barred.now.items 1) (node_at c.args.past.now.state c.after.new.self c.push.new.self.items c.deref.result.now)) given
    ∙ play_made c.args.past.now.state line c.args.opened.now.items ps c.args.barred.now.items t (node_of n c.in-Play.below.value) _ c.args.node c.deref.result c.push.new.self.items c.after.new.self
    (ap (node_of n) c.in-Play.is ∙ node_of_play n c.in-Play.turn c.in-Play.below) (ap (node_of n) (search rules)) c.in_ok-push-in-Play.ensures.items refl c.in_ok-after-in-Play.ensures.ok

pub returns-in_ok-add_barred-in-All-clause-left : goal.returns-in_ok-add_barred-in-All-clause-left
returns-in_ok-add_barred-in-All-clause-left c =
    let line : Line = c.args.state.now in
    let n : ℕ = line.state.game.size in
    if_ok_map c.next_reply-in-All.result _ _ (λ part h. all_asked c.args.past.now.state line c.args.opened.now.items c.args.plays.now.items c.args.barred.now.items c.add_barred.new.barred.items (replies_of n c.in-All.replies.items) c.as_slice.result.now c.args.node _ (ap (node_of n) c.in-All.is ∙ node_of_all n c.in-All.replies) (ap (replies_of n) c.as_slice.ensures.value) c.in_ok-add_barred-in-All.ensures (h c.args.past.now.state)) c.next_reply-in-All.ensures.left
