use Rattle.tsumego_replies.proofs.Common.{◌≡◌, ◌++◌, sym, subst, IfOk, string_bytes, start, history_limit, Says, AsksOn, IsJudged, IsReply, IsSaidAfter}
use Rattle.target_game.specs.Within.{decision}
use Rattle.solution_tree.specs.Audit.{audit}
use Rattle.tsumego_replies.specs.Answers.{audit_answer, within_answer}
use Rattle.tsumego_problem.proofs.Records.{has_problem_node}
use Rattle.tsumego_replies.proofs.Recording.{all_behind}
use Rattle.tsumego_replies.proofs.Saying.{said_of_record, some_bytes}
use Rattle.tsumego_replies.proofs.Searching.{searched_for}
use Rattle.tsumego_replies.proofs.Judged.{asks_behind, asks_no_more, record_more, none_after, said_after, replied_after, judged_after}
use Rattle.tsumego_replies.proofs.reply.reply_to.Goals as goal

pub returns-in-Err-clause-reply : goal.returns-in-Err-clause-reply
returns-in-Err-clause-reply g c =
    let front = c.args.front.now in let told = g.R.Read.remaining c.args.reader.now in
    let after = none_after c.fronts_decide.ensures front told c.requires.decided c.in-Err.none c.in-Err.ensures.err in
    c.as_text.ensures c.args.command front told (said_after c.args.command front after.0 told c.refused.result after.1 (c.refused.ensures c.args.command _ c.requires.whole after.2))

pub returns-in-Check-clause-reply : goal.returns-in-Check-clause-reply
returns-in-Check-clause-reply g c =
    let found = c.in-Ok.record in let front = c.args.front.now in let told = g.R.Read.remaining c.args.reader.now in
    let judged = subst (λ behind. IfOk c.judge.result (λ o. IsJudged found.problem behind told o)) (all_behind found.end front) c.judge.ensures in
    c.as_response.ensures c.args.command front told
    (subst (λ k. IfOk c.judge.result (λ o. IsSaidAfter k front told o)) (sym c.in-Check.is)
    (judged_after c.fronts_decide.ensures front told found.tree found.end found.problem c.judge.result c.in-Ok.ensures.ok c.in-Ok.ensures.within judged))

pub returns-in-Within-clause-reply : goal.returns-in-Within-clause-reply
returns-in-Within-clause-reply g c =
    let found = c.in-Ok.record in let front = c.args.front.now in let told = g.R.Read.remaining c.args.reader.now in
    let rest = some_bytes told in
    let read = record_more c.fronts_decide.ensures front rest.0 found.tree found.end found.problem c.in-Ok.ensures.ok in
    c.as_text-in-Within.ensures c.args.command front told
    (said_after c.args.command front rest.0 told c.within.result rest.1
    (subst (λ k. IfOk c.within.result (λ r. Says k (front ++ rest.0) r.status (string_bytes r.text))) (sym c.in-Within.is)
    (said_of_record (λ r. r.status) (λ r. string_bytes r.text) (λ q tree n status text. (status, text) ≡ within_answer (decision (start q) c.in-Within.turns c.in-Within.nodes))
    (front ++ rest.0) found.tree found.end found.problem c.within.result read c.within.ensures)))

pub audited-requires : goal.audited-requires
audited-requires g c = has_problem_node history_limit c.in-Ok.record.tree c.in-Ok.record.problem c.in-Ok.ensures.ok.problem

pub returns-in-Audit-clause-reply : goal.returns-in-Audit-clause-reply
returns-in-Audit-clause-reply g c =
    let found = c.in-Ok.record in let front = c.args.front.now in let told = g.R.Read.remaining c.args.reader.now in
    let rest = some_bytes told in
    let read = record_more c.fronts_decide.ensures front rest.0 found.tree found.end found.problem c.in-Ok.ensures.ok in
    c.as_text-in-Audit.ensures c.args.command front told
    (said_after c.args.command front rest.0 told c.audited.result rest.1
    (subst (λ k. IfOk c.audited.result (λ r. Says k (front ++ rest.0) r.status (string_bytes r.text))) (sym c.in-Audit.is)
    (said_of_record (λ r. r.status) (λ r. string_bytes r.text) (λ q tree n status text. (status, text) ≡ audit_answer q.game.size (audit q tree))
    (front ++ rest.0) found.tree found.end found.problem c.audited.result read c.audited.ensures)))

pub returns-in-Solve-clause-reply : goal.returns-in-Solve-clause-reply
returns-in-Solve-clause-reply g c =
    let found = c.in-Ok.record in let asked = c.in-Solve in let front = c.args.front.now in let told = g.R.Read.remaining c.args.reader.now in
    let rest = some_bytes told in
    let read = record_more c.fronts_decide.ensures front rest.0 found.tree found.end found.problem c.in-Ok.ensures.ok in
    replied_after c.args.command front rest.0 told c.searched.result rest.1
    (subst (λ k. IfOk c.searched.result (λ r. IsReply k (front ++ rest.0) r)) (sym asked.is)
    (searched_for asked.steps asked.table asked.proof asked.lift (front ++ rest.0) found.tree found.end found.problem c.searched.result read c.searched.ensures))

pub returns-in-Err-clause-asked : goal.returns-in-Err-clause-asked
returns-in-Err-clause-asked g c = asks_no_more c.args.command c.args.front.now (g.R.Read.remaining c.args.reader.now)

pub returns-in-Check-clause-asked : goal.returns-in-Check-clause-asked
returns-in-Check-clause-asked g c =
    let found = c.in-Ok.record in let front = c.args.front.now in let told = g.R.Read.remaining c.args.reader.now in let new = g.R.Read.remaining c.judge.new.reader in
    subst (λ k. AsksOn k front told new) (sym c.in-Check.is) (asks_behind c.fronts_decide.ensures front told new found.tree found.end found.problem c.in-Ok.ensures.ok)
