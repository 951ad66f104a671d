use Rattle.proof_cert.proofs.Common.{◌≡◌, IsTrue, ap, subst, Turn, At, ply_of, put_as, turn_fits, vertex_text}
use Rattle.proof_cert.proofs.Vertices.{letters_of}
use Rattle.proof_cert.proofs.line_text.put_vertex.Goals as goal

pub returns-in-At : goal.returns-in-At
returns-in-At g c on_board =
    let n = c.args.size in
    let fits : IsTrue (turn_fits n (ply_of n (At c.in-At.point))) = subst (λ (t : Turn). IsTrue (turn_fits n (ply_of n t))) c.in-At.is on_board in
    let letters = letters_of n c.in-At.point fits in
    let same : vertex_text n (ply_of n c.args.turn) ≡ vertex_text n (ply_of n (At c.in-At.point)) = ap (λ (t : Turn). vertex_text n (ply_of n t)) c.in-At.is in
    let whole : vertex_text n (ply_of n c.args.turn) ≡ c.to_sgf.result = cc in
    put_as (vertex_text n (ply_of n c.args.turn)) whole c.put-in-At.ensures
