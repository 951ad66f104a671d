use Rattle.tsumego.proofs.Common.{◌≡◌, ◌≤◌, ◌∙◌, ◌++◌, Bool, true, refl, rules, ap, subst, IsTrue, MAX_SIZE, is_tree, tree_text, IsProblem, canonical, claim_of, text, Answered, line, MayAnswer}
use Rattle.tsumego.proofs.Answering.{claim_behind, claim_solves, front_written}
use Rattle.tsumego.proofs.answer.said_with.Goals as goal

pub returns-in-Ok-write_cert : goal.returns-in-Ok-write_cert
returns-in-Ok-write_cert c =
    let k = c.args.checked.now in
    let y = claim_of c.args.certificate.now in
    let low : 1 ≤ k.problem.game.size = search rules in
    let high : k.problem.game.size ≤ MAX_SIZE = search rules in
    let kept : IsProblem k.problem = subst IsProblem c.problem.ensures c.problems_are_kept.ensures in
    let whole : IsTrue (is_tree c.in-Ok.tree) = subst (λ t. IsTrue (is_tree t)) c.tree.view_is c.tree.invariant in
    let same : c.in-Ok.tree ≡ canonical k.problem = c.in-Ok.ensures ∙ ap canonical c.problem-3.ensures in
    let front = line (tree_text c.in-Ok.tree) in
    let before : c.write_line.new.writer.items ≡ line (tree_text c.in-Ok.tree) =
    front_written c.write_line.result (c.write_line.new.writer.items ≡ c.new-text.result.items ++ line (tree_text c.in-Ok.tree)) c.if-is_err.ensures.value c.write_line.ensures.written ∙ ap (λ xs. xs ++ line (tree_text c.in-Ok.tree)) c.new-text.ensures.items in
    λ (lift : Bool) how. claim_behind (MayAnswer true lift k) Answered front c.write_line.new.writer.items c.write_cert.new.writer.items (text y)
    (λ bytes spelled. (refl, claim_solves k c.winner-winner.ensures.checked c.accepts_valid_texts.ensures c.canonical_reads.ensures c.written_reads.ensures kept low high c.in-Ok.tree whole same y c.requires.valid lift how bytes spelled)) before
    c.in-Ok-write_cert.ensures.written
