-- The step that is kept, and the colouring that joins the history.
use Rattle.go_turns.proofs.Common.{◌≡◌, ◌*◌, ◌<◌, ◌++◌, [], ◌∷◌, List, map, reverse, take, true, Some, None, Ok, Err, sym, ◌∙◌, ap, subst, arith, take_at, Cell, Empty, side_of, same_cell, cell_at, first_without_liberty, IsOn, number_of, after_move, move, number_below, Step, place_in, Moment, GameRecord, colouring_of, play_of, Did, IsAt, IsNotAdded}
use Rattle.go_turns.proofs.Steps.{at_end, fit_longer, fit_kept, earlier_split}
use Rattle.go_turns.proofs.Turns.{did_move, did_not_move, found_at, was_empty, was_moved}
use Rattle.go_turns.proofs.record.Record.move_at.Given.{Over}
use Rattle.go_turns.proofs.record.Record.move_at.Goals as goal

pub invariant_of-self-2 : goal.invariant_of-self-2
invariant_of-self-2 g c =
    let whole = g.S.Seen.content c.self.inside.seen in
    let old = g.B.Board.content c.self.inside.board in
    let after = c.colouring-after.result in
    let steps = c.self.inside.steps.items in
    let step : Step = record { place = c.self.inside.place; occurred = c.len.result; passes = c.self.inside.passes; last_colour = c.self.inside.last_colour } in
    let fit = fit_kept whole old steps step c.len.ensures.value c.self.invariant.here c.self.invariant.liberties c.self.invariant.few c.self.invariant.steps in
    record {
      steps = rw (c.play.ensures.size, c.in_default.ensures.history, c.in_default.ensures.steps) (fit_longer _ _ _ (side_of old) whole (after ∷ []) (steps ++ step ∷ []) fit);
      here = rw (c.in_default.ensures.history, c.len.ensures.value, ← c.colouring-after.ensures.value) (at_end whole after);
      liberties = c.colouring-after.ensures.liberties;
      few = omega arith;
    }

-- the colouring that is taken over again is that of the board before the move
is_old : (g : Over) (c : goal.After-at g) → c.at.result.now ≡ g.B.Board.content c.self.inside.board
is_old g c =
    let here : IsAt (g.S.Seen.content c.add_step.new.seen) c.self.inside.place (g.B.Board.content c.self.inside.board) = rw (c.in-Err.ensures.history_kept) c.self.invariant.here in
    found_at (g.S.Seen.content c.add_step.new.seen) c.self.inside.place (g.B.Board.content c.self.inside.board) c.at.result.now here c.at.ensures

pub restore-requires-clause-size : goal.restore-requires-clause-size
restore-requires-clause-size g c = ap side_of (is_old g c) ∙ sym c.play.ensures.size

pub restore-requires-clause-liberties : goal.restore-requires-clause-liberties
restore-requires-clause-liberties g c = subst (λ d. first_without_liberty (side_of d) d ≡ None) (sym (is_old g c)) c.self.invariant.liberties

pub invariant_of-self-in-Err : goal.invariant_of-self-in-Err
invariant_of-self-in-Err g c =
    let old = g.B.Board.content c.self.inside.board in
    let at = c.at.result.now in
    let here : IsAt (g.S.Seen.content c.add_step.new.seen) c.self.inside.place old = rw (c.in-Err.ensures.history_kept) c.self.invariant.here in
    let back = c.restore.ensures ∙ found_at (g.S.Seen.content c.add_step.new.seen) c.self.inside.place old at here c.at.ensures in
    record {
      steps = rw (back, c.in-Err.ensures.history_kept, c.in-Err.ensures.steps_kept) c.self.invariant.steps;
      here = rw (back) here;
      liberties = rw (back) c.self.invariant.liberties;
      few = rw (c.in-Err.ensures.steps_kept) c.self.invariant.few;
    }

pub returns-in-Err : goal.returns-in-Err
returns-in-Err g c =
    let whole = g.S.Seen.content c.self.inside.seen in
    let left = g.S.Seen.content c.add_step.new.seen in
    let old = g.B.Board.content c.self.inside.board in
    let at = c.at.result.now in
    let n = side_of old in
    let k = c.args.colour in
    let p = number_of n c.args.point in
    let after = c.colouring-after.result in
    let moment : List (List Cell) → Step → Moment = λ h s. record { history = h; place = s.place; passes = s.passes; last_colour = s.last_colour } in
    let step : Step = record { place = c.self.inside.place; occurred = c.len.result; passes = c.self.inside.passes; last_colour = c.self.inside.last_colour } in
    let was : GameRecord = record { size = n; present = moment whole step; earlier = reverse (map (λ s. moment (take s.occurred whole) s) c.self.inside.steps.items) } in
    let is : GameRecord = record { size = side_of (g.B.Board.content c.restore.new.board); present = moment left step; earlier = reverse (map (λ s. moment (take s.occurred left) s) c.add_step.new.steps.items) } in
    let here : IsAt left c.self.inside.place old = rw (c.in-Err.ensures.history_kept) c.self.invariant.here in
    let back = c.restore.ensures ∙ found_at left c.self.inside.place old at here c.at.ensures in
    let same : is ≡ was = λ i. record {
      size = side_of (back i);
      present = moment (c.in-Err.ensures.history_kept i) step;
      earlier = reverse (map (λ s. moment (take s.occurred (c.in-Err.ensures.history_kept i)) s) (c.in-Err.ensures.steps_kept i));
    } in
    let here_old : colouring_of was.present ≡ old = c.self.invariant.here.same in
    let on : p < n * n = number_below n c.args.point (subst (λ (r : GameRecord). IsOn r.size c.args.point) (sym c.self.view_is) c.requires) in
    let free : same_cell (cell_at (colouring_of was.present) p) Empty ≡ true =
    was_empty (colouring_of was.present) old p c.play.result here_old (sym c.is_err.ensures.value ∙ c.if-is_err.false) c.play.ensures.variant in
    let made : after ≡ after_move n (colouring_of was.present) k p =
    was_moved n (colouring_of was.present) old (g.B.Board.content c.play.new.self) after k p c.play.result here_old (sym c.is_err.ensures.value ∙ c.if-is_err.false) c.play.ensures.ok c.colouring-after.ensures.value in
    let why = subst (λ d. IsNotAdded (place_in whole d) c.in-Err.fault) made c.in-Err.ensures.fault in
    subst (λ (r : GameRecord). Did (play_of r k (move (number_of r.size c.args.point))) r (Err c.in-Err.fault) is) c.self.view_is (did_not_move was k p is c.in-Err.fault on free why same)

pub returns : goal.returns
returns g c =
    let whole = g.S.Seen.content c.self.inside.seen in
    let old = g.B.Board.content c.self.inside.board in
    let n = side_of old in
    let k = c.args.colour in
    let p = number_of n c.args.point in
    let after = c.colouring-after.result in
    let steps = c.self.inside.steps.items in
    let moment : List (List Cell) → Step → Moment = λ h s. record { history = h; place = s.place; passes = s.passes; last_colour = s.last_colour } in
    let step : Step = record { place = c.self.inside.place; occurred = c.len.result; passes = c.self.inside.passes; last_colour = c.self.inside.last_colour } in
    let was : GameRecord = record { size = n; present = moment whole step; earlier = reverse (map (λ s. moment (take s.occurred whole) s) steps) } in
    let is : GameRecord = record {
      size = side_of (g.B.Board.content c.play.new.self);
      present = record { history = g.S.Seen.content c.add_step.new.seen; place = c.len.result; passes = 0; last_colour = Some k };
      earlier = reverse (map (λ s. moment (take s.occurred (g.S.Seen.content c.add_step.new.seen)) s) c.add_step.new.steps.items);
    } in
    let here : colouring_of was.present ≡ old = c.self.invariant.here.same in
    let on : p < n * n = number_below n c.args.point (subst (λ (r : GameRecord). IsOn r.size c.args.point) (sym c.self.view_is) c.requires) in
    let free : same_cell (cell_at (colouring_of was.present) p) Empty ≡ true =
    was_empty (colouring_of was.present) old p c.play.result here (sym c.is_err.ensures.value ∙ c.if-is_err.false) c.play.ensures.variant in
    let made : after ≡ after_move n (colouring_of was.present) k p =
    was_moved n (colouring_of was.present) old (g.B.Board.content c.play.new.self) after k p c.play.result here (sym c.is_err.ensures.value ∙ c.if-is_err.false) c.play.ensures.ok c.colouring-after.ensures.value in
    let fresh : place_in whole (after_move n (colouring_of was.present) k p) ≡ None = ap (place_in whole) (sym made) ∙ c.in_default.ensures.new in
    let longer : g.S.Seen.content c.add_step.new.seen ≡ whole ++ after_move n (colouring_of was.present) k p ∷ [] = c.in_default.ensures.history ∙ ap (λ d. whole ++ d ∷ []) made in
    let earlier : reverse (map (λ s. moment (take s.occurred (g.S.Seen.content c.add_step.new.seen)) s) c.add_step.new.steps.items) ≡ was.present ∷ was.earlier =
    earlier_split (λ s. s.occurred) moment (g.S.Seen.content c.add_step.new.seen) whole c.add_step.new.steps.items steps step c.in_default.ensures.steps
    (sym (ap (take c.len.result) c.in_default.ensures.history ∙ take_at whole (after ∷ []) c.len.result (sym c.len.ensures.value)))
    (λ j d in_steps. omega (arith, c.self.invariant.steps.within j d in_steps, c.len.ensures.value)) in
    subst (λ (r : GameRecord). Did (play_of r k (move (number_of r.size c.args.point))) r (Ok tt) is) c.self.view_is
    (did_move was k p is on free fresh (λ i. record {
      size = c.play.ensures.size i;
      present = record { history = longer i; place = c.len.ensures.value i; passes = 0; last_colour = Some k };
      earlier = earlier i;
    }) tt)
