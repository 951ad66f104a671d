use Rattle.first_moves.proofs.Common.{rules, ◌≡◌, subst, Turn, ply_of, GameProblem, start}
use Rattle.go_points.specs.declared.Colour.{Colour}
use Rattle.proof_cert.specs.Certificate.{claim_of}
use Rattle.target_game.specs.Next.{next}
use Rattle.target_game.specs.Wins.{Wins}
use Rattle.first_moves.proofs.judged.begun.Goals as goal

pub returns-then-eq-2 : goal.returns-then-eq-2
returns-then-eq-2 c =
    let q = c.args.problem.now in
    let first = c.in-Some.first in
    let winner = (claim_of c.args.checked.certificate).winner in
    let same : first ≡ c.args.turn = search rules in
    let side : winner ≡ q.mover = search rules in
    let there = subst (λ (r : GameProblem). Wins winner (next (start r) (ply_of r.game.size first))) c.requires c.in-Some.ensures.wins.wins in
    let turn = subst (λ (t : Turn). Wins winner (next (start q) (ply_of q.game.size t))) same there in
    (c.requires, side, search rules, subst (λ (x : Colour). Wins x (next (start q) (ply_of q.game.size c.args.turn))) side turn)
