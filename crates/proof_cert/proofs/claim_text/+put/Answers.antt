use Rattle.proof_cert.proofs.Common.{◌≡◌, ◌+◌, ◌++◌, Some, true, ap, ◌∙◌, rules, arith, drop, append-nil, length, refl, ply_of, put_as, then_put, part_put, turn_fits, use_line, play_line, all_line, reply_line, node_lines, branch_lines, node_of, replies_of, line_text, lines_text}
use Rattle.proof_cert.proofs.Spellings.{AreSpelled, won_lines, use_lines, play_lines, all_lines, first_is_spelled, rest_is_spelled, reply_text, reply_is_spelled, below_is_spelled, others_are_spelled}
use Rattle.proof_cert.proofs.Words.{and_first}
use Rattle.proof_cert.proofs.claim_text.+put.Goals as goal

pub put_node-returns-in-Won : goal.put_node-returns-in-Won
put_node-returns-in-Won g t c = λ spelled.
    let n = c.args.size in
    put_as (lines_text n (node_lines (node_of n c.args.node.now))) (ap (lines_text n) (won_lines n c.args.node.now c.in-Won.is)) c.put_word.ensures

pub put_node-returns-in-Use : goal.put_node-returns-in-Use
put_node-returns-in-Use g t c = λ spelled.
    let n = c.args.size in
    let j = c.in-Use.lemma in
    let lines = use_lines n c.args.node.now j c.in-Use.is in
    put_as (lines_text n (node_lines (node_of n c.args.node.now))) (ap (lines_text n) lines ∙ append-nil (line_text n (Some (use_line j)))) (c.put_use.ensures n (first_is_spelled n _ (use_line j) _ lines spelled))

pub put_node-returns-in-Play : goal.put_node-returns-in-Play
put_node-returns-in-Play g t c = λ spelled.
    let n = c.args.size in
    let lines = play_lines n c.args.node.now c.in-Play.turn c.in-Play.below c.in-Play.is in
    let fits = and_first (turn_fits n (ply_of n c.in-Play.turn)) true (first_is_spelled n _ (play_line (ply_of n c.in-Play.turn)) _ lines spelled) in
    let below : AreSpelled n (node_lines (node_of n c.in-Play.below.value)) = rest_is_spelled n _ (play_line (ply_of n c.in-Play.turn)) _ lines spelled in
    put_as (lines_text n (node_lines (node_of n c.args.node.now))) (ap (lines_text n) lines) (then_put (c.put_turn.ensures fits) ((rw c.deref.ensures at c.put_node.ensures) below))

pub put_node-returns-in-All : goal.put_node-returns-in-All
put_node-returns-in-All g t c = λ spelled.
    let n = c.args.size in
    let rs = c.in-All.replies.items in
    let lines = all_lines n c.args.node.now c.in-All.replies c.in-All.is in
    let below : AreSpelled n (branch_lines (replies_of n rs)) = rest_is_spelled n _ (all_line (length rs)) _ lines spelled in
    let count : c.len.result ≡ length rs = search rules in
    put_as (lines_text n (node_lines (node_of n c.args.node.now))) (ap (lines_text n) lines) (then_put (rw count at c.put_number.ensures) ((rw c.as_slice.ensures.value at c.put_replies.ensures) below))

pub put_replies-loop-turn-preserved : goal.put_replies-loop-turn-preserved
put_replies-loop-turn-preserved g t c = λ spelled.
    let n = c.args.size in
    let rs = c.args.replies.now in
    let i = c.loop-turn.turn-index in
    let r = c.loop-turn-item.result in
    let so_far = c.loop-turn.invariant spelled in
    let fits = reply_is_spelled n rs i r (omega arith) c.loop-turn-item.is so_far.0 in
    let below = below_is_spelled n rs i r (omega arith) c.loop-turn-item.is so_far.0 in
    let whole = lines_text n (branch_lines (replies_of n rs)) in
    let line = line_text n (Some (reply_line (ply_of n r.0))) in
    let body = lines_text n (node_lines (node_of n r.1)) in
    let rest = lines_text n (branch_lines (replies_of n (drop (i + 1) rs))) in
    let one = part_put _ _ c.args.pending.now c.loop-turn.pending whole _ so_far.1 line (body ++ rest) (reply_text n rs i r (omega arith) c.loop-turn-item.is) (c.put_turn.ensures fits) in
    (others_are_spelled n rs i r (omega arith) c.loop-turn-item.is so_far.0, part_put _ _ c.args.pending.now c.put_turn.new.pending whole (body ++ rest) one body rest refl (c.put_node.ensures below))
