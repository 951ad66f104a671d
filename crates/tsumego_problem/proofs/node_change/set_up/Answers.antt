use Rattle.tsumego_problem.proofs.Common.{◌∙◌, ap, sym, subst, Ok, Err, unwrap_or, colouring_of, set_up, Did, assigned, set_to, has_no_liberty, walk_of}
use Rattle.tsumego_problem.proofs.Assigning.{set_up_fine, set_up_refused, setup_refusal}
use Rattle.tsumego_problem.proofs.node_change.set_up.Goals as goal

pub returns-in-Ok : goal.returns-in-Ok
returns-in-Ok c =
    let n = c.args.size in let r = c.args.played.now in let d = assigned n c.args.node.now (colouring_of r.present) in
    let made = c.assigned-after.ensures.value ∙ ap (assigned n c.args.node.now) c.colouring.ensures.value in
    let fine = set_up_fine n c.args.number c.args.node.now r c.args.mover d c.requires c.in-Ok.field-0 c.set_up.new.self
    (subst (λ x. Did (set_up r x) r (Ok c.in-Ok.field-0) c.set_up.new.self) made (subst (λ o. Did (set_up r c.assigned-after.result) r o c.set_up.new.self) c.in-Ok.is c.set_up.ensures)) in
    (fine.0 ∙ ap (λ m. Ok (walk_of c.set_up.new.self m)) (ap (λ o. unwrap_or o c.args.mover) (sym c.player_at.ensures) ∙ sym c.unwrap_or.ensures), fine.1)

pub setup_fault-requires : goal.setup_fault-requires
setup_fault-requires c =
    let n = c.args.size in let r = c.args.played.now in let d = assigned n c.args.node.now (colouring_of r.present) in
    let made = c.assigned-after.ensures.value ∙ ap (assigned n c.args.node.now) c.colouring.ensures.value in
    (set_up_refused n c.args.number c.args.node.now r c.args.mover d c.requires c.in-Err.fault c.set_up.new.self
    (subst (λ x. Did (set_up r x) r (Err c.in-Err.fault) c.set_up.new.self) made (subst (λ o. Did (set_up r c.assigned-after.result) r o c.set_up.new.self) c.in-Err.is c.set_up.ensures))).0

pub returns-in-Err : goal.returns-in-Err
returns-in-Err c other =
    let n = c.args.size in let r = c.args.played.now in let d = assigned n c.args.node.now (colouring_of r.present) in
    let made = c.assigned-after.ensures.value ∙ ap (assigned n c.args.node.now) c.colouring.ensures.value in
    let refused = set_up_refused n c.args.number c.args.node.now r c.args.mover d c.requires c.in-Err.fault c.set_up.new.self
    (subst (λ x. Did (set_up r x) r (Err c.in-Err.fault) c.set_up.new.self) made (subst (λ o. Did (set_up r c.assigned-after.result) r o c.set_up.new.self) c.in-Err.is c.set_up.ensures)) in
    setup_refusal c.in-Err.fault c.setup_fault.result (set_to c.args.number c.args.node.now d (walk_of r c.args.mover) (has_no_liberty n d)) c.args.number refused.0 refused.1
    c.setup_fault.ensures.liberty c.setup_fault.ensures.memory other
