use Rattle.target_game.proofs.Common.{◌+◌, ◌*◌, ℕ, IfSome, IfNone, Some, None, sym, ap, subst, ◌∙◌, At, number_of, pass, ply_of, Takes, IsNextMove, NoneLegal}
use Rattle.target_game.proofs.Due.{taken_move, taken_pass}
use Rattle.target_game.proofs.state.State.after_next.Goals as goal

pub returns-in-Some-2-clause-takes : goal.returns-in-Some-2-clause-takes
returns-in-Some-2-clause-takes g c =
    let s = c.args.self.now.state in
    let p = c.in-Some-2.point in
    let number = c.number.ensures.value ∙ ap (λ (m : ℕ). number_of m p) c.size-size.ensures in
    subst (λ o. Takes s o (Some (ply_of s.game.size (At p))) (Some (c.number.result + 1))) (sym c.in-Some.is)
    (subst (λ k. Takes s (Some c.in-Some.first) (Some (ply_of s.game.size (At p))) (Some (k + 1))) (sym number) (taken_move s c.in-Some.first p (subst (λ o. IfSome o (λ q. IsNextMove s c.in-Some.first q)) c.in-Some-2.is c.in_ok-point.ensures.some)))

pub returns-clause-takes : goal.returns-clause-takes
returns-clause-takes g c =
    let s = c.args.self.now.state in
    subst (λ o. Takes s o (Some pass) None) (sym c.in-Some.is) (taken_pass s c.in-Some.first (subst (λ o. IfNone o (NoneLegal s c.in-Some.first (s.game.size * s.game.size))) c.in_default-2.is c.in_ok-point.ensures.none))
