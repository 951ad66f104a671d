-- A move that changes no other point leaves the targets where they are.
use Rattle.target_game.proofs.Common.{◌≡◌, true, sym, ◌∙◌, ap, set, Stone, number_of, over, targets_stand}
use Rattle.target_game.proofs.Playing.{still_stand, winner_is}
use Rattle.target_game.proofs.state.State.winner_after_quiet.Goals as goal

pub returns-then-targets_stand : goal.returns-then-targets_stand
returns-then-targets_stand g c =
    let s = c.args.self.now.state in
    let p = number_of s.game.size c.args.point in
    let d = set s.colouring p (Stone s.mover) in
    let stand : targets_stand (record s { colouring = d }) ≡ true =
    still_stand s.game.targets s.colouring s.game.defender s.mover p c.requires.empty (sym c.targets_stand.ensures ∙ c.if-targets_stand.true) in
    sym (ap (λ e. over (record s { colouring = e; passes = 0 })) c.requires.quiet ∙ winner_is s d true (sym stand))

pub returns : goal.returns
returns g c =
    let s = c.args.self.now.state in
    c.winner_at.ensures ∙ ap (λ e. over (record s { colouring = e; passes = 0 })) (c.colouring.ensures ∙ c.position_after.ensures.value)
