use Rattle.proof_cert.proofs.Common.{◌+◌, map, drop, arith, had_spelled, version_number, line_text, lines_text, part_put}
use Rattle.proof_cert.proofs.Spellings.{had_text}
use Rattle.proof_cert.proofs.claim_text.put_all_had.Goals as goal

pub loop-colouring-preserved : goal.loop-colouring-preserved
loop-colouring-preserved g c =
    let n = c.args.size in
    let cs = c.args.had.now in
    let i = c.loop-colouring.colouring-index in
    part_put _ _ c.args.pending.now c.loop-colouring.pending (lines_text n (map (had_spelled (version_number c.args.version)) cs)) (lines_text n (map (had_spelled (version_number c.args.version)) (drop i cs))) c.loop-colouring.invariant
    (line_text n (had_spelled (version_number c.args.version) c.colouring-item.result)) (lines_text n (map (had_spelled (version_number c.args.version)) (drop (i + 1) cs))) (had_text (version_number c.args.version) n cs i c.colouring-item.result (omega arith) c.colouring-item.is) c.put_had.ensures
