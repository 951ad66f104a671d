use Rattle.first_moves.proofs.Common.{◌≡◌, [], ◌∷◌, refl, sym, ◌∙◌, ap, subst, ply_of, legal_turns, turns_due, start, AreJudged}
use Rattle.target_game.specs.State.{GameState}
use Rattle.target_game.proofs.Due.{turns_begun}
use Rattle.first_moves.proofs.Judging.{JudgedBefore, judged_more}
use Rattle.first_moves.proofs.found.judge_turns.Goals as goal

pub loop-turn-init : goal.loop-turn-init
loop-turn-init g c =
    let q = c.args.problem.now in
    ([], sym (ap (turns_due (start q)) c.all-turns_left.ensures ∙ turns_begun (start q)), subst (AreJudged q []) (sym c.new-found.ensures.items) tt)

pub loop-turn-preserved : goal.loop-turn-preserved
loop-turn-preserved g c =
    let q = c.args.problem.now in
    let turn = c.in-Some.turn in
    let due : turns_due (start q) c.loop-turn.turns_left.next ≡ ply_of q.game.size turn ∷ turns_due (start q) c.next_left.new.left.next =
    subst (λ (s : GameState). turns_due s c.loop-turn.turns_left.next ≡ ply_of s.game.size turn ∷ turns_due s c.next_left.new.left.next)
    (ap (λ l. l.state) c.in_ok-state.ensures) c.in-Some.ensures.0 in
    let found = judged_more q (legal_turns (start q)) (turns_due (start q) c.next_left.new.left.next) (ply_of q.game.size turn)
    (record { turn = turn; judged = c.in_ok-judged.judged; reply = c.reply_of-reply.result }) c.loop-turn.found.items (refl, c.in_ok-judged.ensures, c.reply_of-reply.ensures)
    (subst (λ ts. JudgedBefore q (legal_turns (start q)) ts c.loop-turn.found.items) due c.loop-turn.invariant) in
    subst (JudgedBefore q (legal_turns (start q)) (turns_due (start q) c.next_left.new.left.next)) (sym c.in_ok-push.ensures.items) found
