use Rattle.sgf_text.proofs.Common.{sym, ap, ◌∙◌, ◌+◌, length, arith, Err, length-take, NoTree, byte_limit}
use Rattle.sgf_text.proofs.ReadTree.{place_within, read_on, read_fault, read_end, read_cut, read_none, only_err, only_ok}
use Rattle.sgf_text.proofs.read.read_tree.Goals as goal

pub returns-in_default-clause-only : goal.returns-in_default-clause-only
returns-in_default-clause-only c = only_err c.args.text.now NoTree (λ _. read_none c.args.text.now c.front-seen.result.now c.front-seen.ensures (sym c.in_default.ensures))

pub overflow_step-at : goal.overflow_step-at
overflow_step-at c =
    let within = place_within c.front-seen.result.now c.in-Some.place (sym c.in-Some.ensures) in
    let seen = ap length c.front-seen.ensures in
    let most = length-take byte_limit c.args.text.now in
    omega arith

pub returns-in-Ok-Some-clause-found : goal.returns-in-Ok-Some-clause-found
returns-in-Ok-Some-clause-found c =
    read_end c.args.text.now c.front-seen.result.now c.front-seen.ensures c.in-Some.place (sym c.in-Some.ensures) c.loop-at.at (omega arith) c.loop-at.trees c.step.new.self c.loop-at.invariant c.in-Ok-Some.tree
    (rw c.in-Ok-Some.field-0-is at c.in-Ok-Some.ensures)

pub returns-in-Ok-Some-clause-only : goal.returns-in-Ok-Some-clause-only
returns-in-Ok-Some-clause-only c =
    only_ok c.args.text.now c.in-Ok-Some.tree (c.loop-at.at + 1)
    (read_end c.args.text.now c.front-seen.result.now c.front-seen.ensures c.in-Some.place (sym c.in-Some.ensures) c.loop-at.at (omega arith) c.loop-at.trees c.step.new.self c.loop-at.invariant c.in-Ok-Some.tree
    (rw c.in-Ok-Some.field-0-is at c.in-Ok-Some.ensures)).0

pub returns-in-Err-clause-fault : goal.returns-in-Err-clause-fault
returns-in-Err-clause-fault c =
    read_fault c.args.text.now c.front-seen.result.now c.front-seen.ensures c.in-Some.place (sym c.in-Some.ensures) c.loop-at.at (omega arith) c.loop-at.trees c.step.new.self c.loop-at.invariant c.in-Err.fault c.in-Err.ensures

pub returns-in-Err-clause-only : goal.returns-in-Err-clause-only
returns-in-Err-clause-only c =
    only_err c.args.text.now c.in-Err.fault
    (read_fault c.args.text.now c.front-seen.result.now c.front-seen.ensures c.in-Some.place (sym c.in-Some.ensures) c.loop-at.at (omega arith) c.loop-at.trees c.step.new.self c.loop-at.invariant c.in-Err.fault c.in-Err.ensures)

pub loop-at-preserved : goal.loop-at-preserved
loop-at-preserved c =
    read_on c.args.text.now c.front-seen.result.now c.front-seen.ensures c.in-Some.place (sym c.in-Some.ensures) c.loop-at.at (omega arith) c.loop-at.trees c.step.new.self c.loop-at.invariant
    (rw c.in-Ok-None.field-0-is at c.in-Ok-None.ensures)

pub returns-clause-only : goal.returns-clause-only
returns-clause-only c =
    only_err c.args.text.now c.cut_fault.result
    (λ _. read_cut c.args.text.now c.front-seen.result.now c.front-seen.ensures c.in-Some.place (sym c.in-Some.ensures) c.loop-at.at (omega arith) c.loop-at.trees c.loop-at.invariant ∙ ap Err (sym c.cut_fault.ensures))
