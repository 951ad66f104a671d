-- Where there are many targets, those at which the colouring differs from one in which they stand tell.
use Rattle.target_game.proofs.Common.{rules, ℕ, ◌≡◌, ◌∙◌, sym, ap, subst, not, list_all, Stone, side_of, cell_at, same_cell, number_of, Line, targets_stand}
use Rattle.target_game.proofs.Playing.{stand_is}
use Rattle.target_game.proofs.Standing.{by_difference}
use Rattle.target_game.proofs.state.State.stand_in.Goals as goal

pub returns-then-self : goal.returns-then-self
returns-then-self g c =
    let n = c.self.inside.played.size in
    let k = c.self.inside.defender in
    let d = c.args.colouring.now in
    let side : side_of d ≡ n = search rules in
    subst (λ (v : Line). not c.differ_at.result ≡ targets_stand (record v.state { colouring = d })) c.self.view_is
    (by_difference n c.self.inside.targets k c.self.inside.region c.self.inside.begin d c.self.invariant.2 c.self.invariant.0 (side_of d) side c.differ_at.result c.differ_at.ensures.same c.differ_at.ensures.differs)

pub returns : goal.returns
returns g c =
    let n = c.self.inside.played.size in
    let k = c.self.inside.defender in
    let d = c.args.colouring.now in
    let side : side_of d ≡ n = search rules in
    subst (λ (v : Line). c.all_hold.result ≡ targets_stand (record v.state { colouring = d })) c.self.view_is
    (c.all_hold.ensures ∙ ap (λ (m : ℕ). list_all (λ t. same_cell (cell_at d (number_of m t)) (Stone k)) c.self.inside.targets) side ∙ sym (stand_is n d k c.self.inside.targets))
