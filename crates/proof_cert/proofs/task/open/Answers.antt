use Rattle.proof_cert.proofs.Common.{◌≡◌, ◌++◌, ◌∷◌, [], Option, List, map, option_map, sym, ap, ◌∙◌, subst, rules, append_assoc, Line, branch_lines, lemma_lines, body_value, version_number, lemma_of, replies_of, spelled_line, task_lines, lines_left, Task}
use Rattle.std.proofs.Common.{IfSome}
use Rattle.proof_cert.specs.declared.body_line.BodyLine.{BodyLine}
use Rattle.proof_cert.specs.declared.task.Task.TheVariants.{Lemmas}
use Rattle.proof_cert.proofs.Tasks.{left_pushed, lemmas_first}
use Rattle.proof_cert.proofs.task.open.Goals as goal

pub returns-in_ok-open_lemma-in-Lemmas-clause-first : goal.returns-in_ok-open_lemma-in-Lemmas-clause-first
returns-in_ok-open_lemma-in-Lemmas-clause-first c =
    let n = c.args.size in
    let old = c.args.tasks.now.items in
    let v = c.in-Lemmas.version in
    let l = lemma_lines (version_number v) (lemma_of n c.in-Some.lemma.now) in
    let others = Lemmas v c.in-Some.others in
    let first : c.in-Lemmas.lemmas.now ≡ c.in-Some.lemma.now ∷ c.in-Some.others.now = search rules in
    let a : task_lines n c.args.task ≡ l ++ task_lines n others = ap (task_lines n) c.in-Lemmas.is ∙ lemmas_first n (version_number v) c.in-Lemmas.lemmas.now c.in-Some.lemma.now c.in-Some.others.now first in
    let items : c.push.new.self.items ≡ old ++ others ∷ [] = search rules in
    let b : lines_left n c.push.new.self.items ≡ task_lines n others ++ lines_left n old = ap (lines_left n) items ∙ left_pushed n old others in
    ap (λ (x : List (Option Line)). map (spelled_line n) (x ++ lines_left n old)) a
    ∙ ap (map (spelled_line n)) (append_assoc l (task_lines n others) (lines_left n old) ∙ ap (λ (x : List (Option Line)). l ++ x) (sym b))
    ∙ c.in_ok-open_lemma-in-Lemmas.ensures

pub returns-in_ok-open_node-in-Tree-clause-first : goal.returns-in_ok-open_node-in-Tree-clause-first
returns-in_ok-open_node-in-Tree-clause-first c =
    let n = c.args.size in
    ap (λ (t : Task). map (spelled_line n) (task_lines n t ++ lines_left n c.args.tasks.now.items)) c.in-Tree.is
    ∙ c.in_ok-open_node-in-Tree.ensures
    ∙ ap (λ (l : Option Line). l ∷ map (spelled_line n) (lines_left n c.open_node.new.tasks.items)) (sym (c.whole.ensures n))

pub returns-in-Some-2-clause-first : goal.returns-in-Some-2-clause-first
returns-in-Some-2-clause-first c =
    let n = c.args.size in
    let old = c.args.tasks.now.items in
    let rest = map (spelled_line n) (lines_left n c.open_replies.new.tasks.items) in
    let given : map (spelled_line n) (branch_lines (replies_of n c.in-Replies.replies.now) ++ lines_left n old) ≡ option_map (body_value n) c.in-Some-2.line ∷ rest = subst (λ (o : Option (Option BodyLine)). IfSome o (λ l. map (spelled_line n) (branch_lines (replies_of n c.in-Replies.replies.now) ++ lines_left n old) ≡ option_map (body_value n) l ∷ rest)) c.in-Some-2.is c.in_ok-line-in-Replies.ensures.first in
    ap (λ (t : Task). map (spelled_line n) (task_lines n t ++ lines_left n old)) c.in-Replies.is
    ∙ given
    ∙ ap (λ (l : Option Line). l ∷ rest) (sym (c.whole-in-Some-2.ensures n))
