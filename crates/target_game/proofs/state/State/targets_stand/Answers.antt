use Rattle.target_game.proofs.Common.{rules, ◌≡◌, ◌∙◌, sym, ap, subst, true, false, Stone, cell_at, same_cell, Place, IsOn, number_of, colouring_of, Line, targets_stand, kept_state, kept_game}
use Rattle.target_game.proofs.Loops.{left_on}
use Rattle.target_game.proofs.Playing.{stand_is, stand_no, stand_yes}
use Rattle.target_game.proofs.state.State.targets_stand.Goals as goal

pub loop-point-preserved : goal.loop-point-preserved
loop-point-preserved g c = (search rules, search rules, left_on (IsOn c.self.inside.played.size) c.loop-point.point-iterator c.next.new.self c.in-Some.point c.in-Some.ensures.steps c.loop-point.invariant.2, search rules)

pub returns-then-not-is_stone_of : goal.returns-then-not-is_stone_of
returns-then-not-is_stone_of g c =
    let n = c.self.inside.played.size in
    let cells = colouring_of c.self.inside.played.present in
    let k = c.self.inside.defender in
    let f = λ (t : Place). same_cell (cell_at cells (number_of n t)) (Stone k) in
    subst (λ (v : Line). false ≡ targets_stand v.state) c.self.view_is
    (sym (stand_is n cells k c.self.inside.targets
    ∙ stand_no f c.self.inside.targets c.loop-point.point-iterator c.next.new.self c.in-Some.point c.is_stone_of.result c.in-Some.ensures.steps (c.is_stone_of.ensures ∙ ap (λ a. same_cell a (Stone k)) c.cell.ensures) c.if-not-is_stone_of.true c.loop-point.invariant.3))

pub returns : goal.returns
returns g c =
    let n = c.self.inside.played.size in
    let cells = colouring_of c.self.inside.played.present in
    let k = c.self.inside.defender in
    let f = λ (t : Place). same_cell (cell_at cells (number_of n t)) (Stone k) in
    subst (λ (v : Line). true ≡ targets_stand v.state) c.self.view_is
    (sym (stand_is n cells k c.self.inside.targets ∙ stand_yes f c.self.inside.targets c.loop-point.point-iterator c.in-None.ensures.steps.0 c.loop-point.invariant.3))

pub returns-then-self : goal.returns-then-self
returns-then-self g c =
    let r = c.self.inside.played in
    let s = kept_state (kept_game r.size c.self.inside.targets c.self.inside.defender c.self.inside.region) c.self.inside.mover r.present in
    subst (λ (v : Line). c.stand_in.result ≡ targets_stand v.state) c.self.view_is
    (subst (λ (v : Line). c.stand_in.result ≡ targets_stand (record v.state { colouring = c.colouring.result })) (sym c.self.view_is) c.stand_in.ensures
    ∙ ap (λ d. targets_stand (record s { colouring = d })) c.colouring.ensures.value)
