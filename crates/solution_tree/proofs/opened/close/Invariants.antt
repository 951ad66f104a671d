use Rattle.solution_tree.proofs.Common.{length, answer_of, Goes, due, whole}
use Rattle.solution_tree.specs.declared.opened.Part.TheVariants.{Finished}
use Rattle.solution_tree.proofs.opened.close.Given as goal

-- The walk has come to the finished tree.
abbrev pub invariant-loop-last : goal.invariant-loop-last
invariant-loop-last l =
    Goes l.keep l.checked (whole l.checked l.fn.opened.items l.fn.state (answer_of l.checked.certificate.size l.fn.finished)) (due l.checked l.fn.opened.items l.fn.state) (Finished l.tree) l.opened.items l.state

abbrev pub decreases-loop-last : goal.decreases-loop-last
decreases-loop-last l = length l.opened.items
