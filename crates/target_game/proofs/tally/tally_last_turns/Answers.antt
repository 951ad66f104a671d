use Rattle.target_game.proofs.Common.{◌≡◌, ◌<◌, Some, None, option_map, inr, refl, sym, ◌∙◌, ap, arith, Black, White, ply_of, legal_turns, turns_due, next, over, is_winner, tally_of, before_turns, with_below, with_turns}
use Rattle.target_game.proofs.Due.{turns_begun}
use Rattle.target_game.proofs.Tallies.{tally_none, tally_last, turn_more, turn_past, turns_done}
use Rattle.target_game.proofs.Children.{child_winner}
use Rattle.target_game.proofs.tally.tally_last_turns.Goals as goal

pub loop-turn-init : goal.loop-turn-init
loop-turn-init c =
    let s = c.args.state.now.state in
    let begun : c.before_turns-seen.result ≡ before_turns s.mover c.args.left = c.before_turns-seen.ensures ∙ ap (λ m. before_turns m c.args.left) c.mover-mover.ensures in
    ap (λ ts. with_turns s 0 ts c.before_turns-seen.result) (ap (turns_due s) c.all-turns_left.ensures ∙ turns_begun s) ∙ ap (with_turns s 0 (legal_turns s)) begun

pub returns-then-seen-eq0 : goal.returns-then-seen-eq0
returns-then-seen-eq0 c =
    let s = c.args.state.now.state in
    let seen = c.loop-turn.seen in
    let ply = ply_of s.game.size c.in-Some._turn in
    let below : None ≡ tally_of (next s ply) 0 seen.left = sym (ap (tally_of (next s ply) 0) c.if-seen-eq0.true ∙ tally_none (next s ply) 0) in
    sym (sym c.loop-turn.invariant ∙ ap (λ ts. with_turns s 0 ts seen) c.in-Some.ensures.takes.0 ∙ turn_past s 0 ply (turns_due s c.next_child.new.left.next) seen (ap (option_map (with_below s.mover seen)) below))

pub loop-turn-preserved : goal.loop-turn-preserved
loop-turn-preserved c =
    let s = c.args.state.now.state in
    let seen = c.loop-turn.seen in
    let ply = ply_of s.game.size c.in-Some._turn in
    let won : c.in-Some.child.winner ≡ over (next s ply) = child_winner s ply c.in-Some.child c.in-Some.ensures.child in
    let some : 0 < seen.left = omega (arith, c.if-seen-eq0.false) in
    let below : Some c.last.result ≡ tally_of (next s ply) 0 seen.left =
    tally_last (next s ply) 0 seen.left c.last.result (inr refl) some c.last.ensures.left (c.last.ensures.black ∙ ap (is_winner Black) won) (c.last.ensures.white ∙ ap (is_winner White) won) in
    let joined : Some c.with_below-seen.result ≡ option_map (with_below s.mover seen) (tally_of (next s ply) 0 seen.left) =
    ap Some (c.with_below-seen.ensures ∙ ap (λ m. with_below m seen c.last.result) c.mover-mover.ensures) ∙ ap (option_map (with_below s.mover seen)) below in
    sym (turn_more s 0 ply (turns_due s c.next_child.new.left.next) seen c.with_below-seen.result joined) ∙ sym (ap (λ ts. with_turns s 0 ts seen) c.in-Some.ensures.takes.0) ∙ c.loop-turn.invariant

pub returns : goal.returns
returns c =
    let s = c.args.state.now.state in
    let none = ap (turns_due s) c.in_default.ensures.takes.0 in
    sym (sym c.loop-turn.invariant ∙ ap (λ ts. with_turns s 0 ts c.loop-turn.seen) none ∙ turns_done s 0 c.loop-turn.seen)
