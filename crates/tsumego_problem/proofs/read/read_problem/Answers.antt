use Rattle.tsumego_problem.proofs.Common.{◌≡◌, Some, sym, ◌∙◌, ap, history_limit, root_of, is_go, board_size, problem_within, opening, main_line, walk_node, problem_at, walk_of, walk_to_mark, Black}
use Rattle.tsumego_problem.proofs.Problems.{some_node, root_is, walk_leads, walk_refuses, root_refuses, led_to}
use Rattle.tsumego_problem.proofs.Keeping.{has_reached}
use Rattle.tsumego_problem.proofs.read.read_problem.Goals as goal

pub returns-in-Err-clause-refused : goal.returns-in-Err-clause-refused
returns-in-Err-clause-refused c other =
    let t = c.args.tree.now in let n = c.in-Some.size in
    let some = some_node c.nodes.result.now t c.nodes.ensures.nodes c.nodes.ensures.whole in
    let root : c.index-nodes-0.result ≡ root_of t = c.index-nodes-0.is ∙ root_is c.nodes.result.now t c.index-nodes-0.result c.nodes.ensures.nodes some in
    root_refuses (Some history_limit) t n c.nodes.result.now c.in-Err.fault c.nodes.ensures.nodes some
    (ap is_go (sym root) ∙ sym c.is_go.ensures ∙ c.if-not-is_go.false) (ap board_size (sym root) ∙ sym c.board_size.ensures ∙ c.in-Some.is) (sym c.locate.ensures.found ∙ c.if-is_none.ensures)
    (ap (λ r. walk_node (Some history_limit) n 0 r (opening n r)) (sym root) ∙ c.in-Err.ensures.refused other)

pub returns-in-Ok-walk_line-clause-ok : goal.returns-in-Ok-walk_line-clause-ok
returns-in-Ok-walk_line-clause-ok c =
    let t = c.args.tree.now in let n = c.in-Some.size in
    let some = some_node c.nodes.result.now t c.nodes.ensures.nodes c.nodes.ensures.whole in
    let root : c.index-nodes-0.result ≡ root_of t = c.index-nodes-0.is ∙ root_is c.nodes.result.now t c.index-nodes-0.result c.nodes.ensures.nodes some in
    let leads = ap (walk_to_mark (Some history_limit) n 0 (main_line t)) (ap (opening n) (sym root) ∙ sym c.in-Ok.ensures.ok) ∙ c.in-Ok-walk_line.ensures.ok in
    led_to c.problem_at.result (problem_within (Some history_limit) t) (problem_at n c.in-Ok-walk_line.node.now (walk_of c.walk_line.new.played c.in-Ok-walk_line.mover)) c.problem_at.ensures.ok
    (walk_leads (Some history_limit) t n c.in-Ok-walk_line.node.now (walk_of c.walk_line.new.played c.in-Ok-walk_line.mover)
    (ap is_go (sym root) ∙ sym c.is_go.ensures ∙ c.if-not-is_go.false) (ap board_size (sym root) ∙ sym c.board_size.ensures ∙ c.in-Some.is) (sym c.locate.ensures.found ∙ c.if-is_none.ensures) leads)

pub returns-clause-refused : goal.returns-clause-refused
returns-clause-refused c other =
    let t = c.args.tree.now in let n = c.in-Some.size in
    let some = some_node c.nodes.result.now t c.nodes.ensures.nodes c.nodes.ensures.whole in
    let root : c.index-nodes-0.result ≡ root_of t = c.index-nodes-0.is ∙ root_is c.nodes.result.now t c.index-nodes-0.result c.nodes.ensures.nodes some in
    walk_refuses (Some history_limit) t n c.in-Err-walk_line.fault
    (ap is_go (sym root) ∙ sym c.is_go.ensures ∙ c.if-not-is_go.false) (ap board_size (sym root) ∙ sym c.board_size.ensures ∙ c.in-Some.is) (sym c.locate.ensures.found ∙ c.if-is_none.ensures)
    (ap (walk_to_mark (Some history_limit) n 0 (main_line t)) (ap (opening n) (sym root) ∙ sym c.in-Ok.ensures.ok) ∙ c.in-Err-walk_line.ensures.refused other)

pub problem_at-requires-clause-reached : goal.problem_at-requires-clause-reached
problem_at-requires-clause-reached c =
    has_reached (Some history_limit) c.in-Some.size 0 (main_line c.args.tree.now) (walk_of c.in-Ok.played Black) (walk_of c.walk_line.new.played c.in-Ok-walk_line.mover) c.in-Ok-walk_line.node.now c.in-Ok.ensures.history c.in-Ok-walk_line.ensures.ok
