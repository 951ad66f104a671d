use Rattle.proof_cert.proofs.Common.{◌+◌, map, drop, arith, Some, not_line, line_text, lines_text, part_put}
use Rattle.proof_cert.proofs.Spellings.{not_text}
use Rattle.proof_cert.proofs.claim_text.put_listed.Goals as goal

pub loop-colouring-preserved : goal.loop-colouring-preserved
loop-colouring-preserved g c =
    let n = c.args.size in
    let cs = c.args.listed.now in
    let i = c.loop-colouring.colouring-index in
    part_put _ _ c.args.pending.now c.loop-colouring.pending (lines_text n (map (λ d. Some (not_line d)) cs)) (lines_text n (map (λ d. Some (not_line d)) (drop i cs))) c.loop-colouring.invariant
    (line_text n (Some (not_line c.colouring-item.result))) (lines_text n (map (λ d. Some (not_line d)) (drop (i + 1) cs))) (not_text n cs i c.colouring-item.result (omega arith) c.colouring-item.is) c.put_not.ensures
