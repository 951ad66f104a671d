use Rattle.proof_cert.proofs.Common.{◌≡◌, ◌++◌, ◌∷◌, [], Option, List, map, sym, ap, ◌∙◌, rules, append_assoc, Line, branch_lines, replies_of, spelled_line, task_lines, lines_left}
use Rattle.proof_cert.specs.Held.{reply_lines}
use Rattle.proof_cert.specs.declared.task.Task.TheVariants.{Replies}
use Rattle.proof_cert.proofs.Tasks.{left_pushed, reply_first}
use Rattle.proof_cert.proofs.task.open_replies.Goals as goal

pub returns-clause-first : goal.returns-clause-first
returns-clause-first c =
    let n = c.args.size in
    let old = c.args.tasks.now.items in
    let r = c.in-Some.reply.now in
    let others = Replies c.in-Some.others in
    let first : c.args.replies.now ≡ r ∷ c.in-Some.others.now = search rules in
    let a : branch_lines (replies_of n c.args.replies.now) ≡ reply_lines n r ++ task_lines n others = reply_first n c.args.replies.now r c.in-Some.others.now first in
    let items : c.push.new.self.items ≡ old ++ others ∷ [] = search rules in
    let b : lines_left n c.push.new.self.items ≡ task_lines n others ++ lines_left n old = ap (lines_left n) items ∙ left_pushed n old others in
    ap (λ (x : List (Option Line)). map (spelled_line n) (x ++ lines_left n old)) a
    ∙ ap (map (spelled_line n)) (append_assoc (reply_lines n r) (task_lines n others) (lines_left n old) ∙ ap (λ (x : List (Option Line)). reply_lines n r ++ x) (sym b))
    ∙ c.in_ok-open_reply.ensures
