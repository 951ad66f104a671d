use Rattle.target_game.proofs.Common.{◌+◌, ℕ, Some, None, sym, ap, subst, ◌∙◌, At, number_of, pass, ply_of, Takes}
use Rattle.target_game.proofs.Due.{taken_move, taken_pass}
use Rattle.target_game.proofs.state.State.next_child.Goals as goal

pub returns-in_default-next_move-clause-takes : goal.returns-in_default-next_move-clause-takes
returns-in_default-next_move-clause-takes g c =
    let s = c.args.self.now.state in
    subst (λ o. Takes s o (Some pass) None) (sym c.in-Some.is) (taken_pass s c.in-Some.first c.in_default-next_move.ensures.none)

pub returns-clause-takes : goal.returns-clause-takes
returns-clause-takes g c =
    let s = c.args.self.now.state in
    let p = c.in-Some-next_move.found.0 in
    let number = c.number.ensures.value ∙ ap (λ (m : ℕ). number_of m p) c.size.ensures in
    subst (λ o. Takes s o (Some (ply_of s.game.size (At p))) (Some (c.number.result + 1))) (sym c.in-Some.is)
    (subst (λ k. Takes s (Some c.in-Some.first) (Some (ply_of s.game.size (At p))) (Some (k + 1))) (sym number) (taken_move s c.in-Some.first p c.in-Some-next_move.ensures.some))
