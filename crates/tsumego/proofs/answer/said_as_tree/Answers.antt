use Rattle.tsumego.proofs.Common.{◌≡◌, ◌<◌, ◌≤◌, ◌++◌, ◌∙◌, false, length, refl, inl, rules, sym, ap, None, Some, subst, IsTrue, MAX_SIZE, is_tree, tree_text, IsProblem, Unanswered, line, too_large_text, start, claim_of, expand, MayAnswer, SolvedBy, IsSolutionOf}
use Rattle.tsumego.proofs.Answering.{too_large, tree_solves}
use Rattle.tsumego.proofs.answer.said_as_tree.Goals as goal

pub returns-in-Ok : goal.returns-in-Ok
returns-in-Ok c =
    let k = c.args.checked.now in
    let place : k.problem.place < length k.problem.history = search rules in
    let kept : IsProblem k.problem = subst IsProblem c.problem.ensures c.problems_are_kept.ensures in
    let whole : IsTrue (is_tree c.in-Ok-Some.tree) = subst (λ t. IsTrue (is_tree t)) c.tree.view_is c.tree.invariant in
    let is : IsSolutionOf k (Some c.in-Ok-Some.tree) = subst (IsSolutionOf k) c.in-Ok-Some.field-0-is c.in-Ok-Some.ensures in
    let z = claim_of k.certificate in
    let solved : SolvedBy k.problem z.winner (expand z (start k.problem)) (line (tree_text c.in-Ok-Some.tree)) = tree_solves k c.winner-winner.ensures.checked c.expansions_ascend.ensures c.valid_claims_answer.ensures c.solution_reads.ensures c.audit_is_exact.ensures c.written_reads.ensures kept place c.in-Ok-Some.tree whole is in
    let written : c.write_line.new.writer.items ≡ line (tree_text c.in-Ok-Some.tree) = c.in-Ok.ensures.written ∙ ap (λ xs. xs ++ line (tree_text c.in-Ok-Some.tree)) c.new-text.ensures.items in
    inl (refl, is.0, subst (SolvedBy k.problem z.winner (expand z (start k.problem))) (sym written) solved)

pub returns-in-Ok-extend_from_slice : goal.returns-in-Ok-extend_from_slice
returns-in-Ok-extend_from_slice c =
    let k = c.args.checked.now in
    let low : 1 ≤ k.problem.game.size = search rules in
    let high : k.problem.game.size ≤ MAX_SIZE = search rules in
    let large : IsSolutionOf k None = subst (IsSolutionOf k) c.in-Ok-None.field-0-is c.in-Ok-None.ensures in
    let written : c.extend_from_slice.new.self.items ≡ too_large_text = search rules in
    subst (MayAnswer false c.args.lift k Unanswered) (sym written) (too_large k c.winner-winner.ensures.checked c.accepts_valid_texts.ensures low high c.args.lift large)
