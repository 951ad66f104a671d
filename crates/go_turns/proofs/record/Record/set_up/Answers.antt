-- The step that is kept, and the colouring that has its place in the history.
use Rattle.go_turns.proofs.Common.{◌≡◌, ℕ, ◌++◌, [], ◌∷◌, List, map, reverse, take, Some, None, Ok, Err, sym, ◌∙◌, ap, subst, arith, Cell, side_of, Place, IsOn, number_of, first_without_liberty, NoLiberty, Step, place_in, Moment, GameRecord, set_up, Did}
use Rattle.go_turns.proofs.Steps.{fit_kept, earlier_split}
use Rattle.go_turns.proofs.Setups.{joined_at, joined_front, joined_fit, did_smother, did_set}
use Rattle.go_turns.proofs.record.Record.set_up.Goals as goal

pub invariant_of-self-2 : goal.invariant_of-self-2
invariant_of-self-2 g c =
    let whole = g.S.Seen.content c.self.inside.seen in
    let now = g.S.Seen.content c.add_setup.new.seen in
    let old = g.B.Board.content c.self.inside.board in
    let after : List Cell = c.args.colouring.now in
    let steps = c.self.inside.steps.items in
    let step : Step = record { place = c.self.inside.place; occurred = c.len.result; passes = c.self.inside.passes; last_colour = c.self.inside.last_colour } in
    let fit = fit_kept whole old steps step c.len.ensures.value c.self.invariant.here c.self.invariant.liberties c.self.invariant.few c.self.invariant.steps in
    let size : side_of (g.B.Board.content c.assign.new.self) ≡ side_of old = ap side_of c.in_default.ensures.ok ∙ c.requires ∙ sym (ap (λ (r : GameRecord). r.size) c.self.view_is) in
    record {
      steps = rw (size, c.in-Ok.ensures.steps) (joined_fit whole now after c.in-Ok.place _ _ _ (side_of old) (steps ++ step ∷ []) (place_in whole after) c.in-Ok.ensures.history fit);
      here = rw c.in_default.ensures.ok (joined_at whole now after c.in-Ok.place c.in-Ok.ensures.history);
      liberties = rw c.in_default.ensures.ok c.in_default.ensures.liberties;
      few = omega arith;
    }

pub returns-in-Err : goal.returns-in-Err
returns-in-Err g c =
    let whole = g.S.Seen.content c.self.inside.seen in
    let old = g.B.Board.content c.self.inside.board in
    let n = side_of old in
    let after : List Cell = c.args.colouring.now in
    let steps = c.self.inside.steps.items in
    let p : Place = c.in-Err.refused.point in
    let moment : List (List Cell) → Step → Moment = λ h s. record { history = h; place = s.place; passes = s.passes; last_colour = s.last_colour } in
    let present : Moment = record { history = whole; place = c.self.inside.place; passes = c.self.inside.passes; last_colour = c.self.inside.last_colour } in
    let earlier : List Moment = reverse (map (λ s. moment (take s.occurred whole) s) steps) in
    let was : GameRecord = record { size = n; present = present; earlier = earlier } in
    let is : GameRecord = record { size = side_of (g.B.Board.content c.assign.new.self); present = present; earlier = earlier } in
    let size : side_of after ≡ n = c.requires ∙ sym (ap (λ (r : GameRecord). r.size) c.self.view_is) in
    let first : first_without_liberty n after ≡ Some (number_of n p) = subst (λ (m : ℕ). first_without_liberty m after ≡ Some (number_of m p)) size c.in-Err.ensures.fault in
    let on : IsOn n p = subst (λ (m : ℕ). IsOn m p) size c.in-Err.ensures.fault_on_board in
    let kept : is ≡ was = λ i. record { size = side_of (c.in-Err.ensures.err i); present = present; earlier = earlier } in
    subst (λ (r : GameRecord). Did (set_up r after) r (Err (NoLiberty p)) is) c.self.view_is (did_smother was after p is first on kept)

pub returns : goal.returns
returns g c =
    let whole = g.S.Seen.content c.self.inside.seen in
    let now = g.S.Seen.content c.add_setup.new.seen in
    let old = g.B.Board.content c.self.inside.board in
    let n = side_of old in
    let after : List Cell = c.args.colouring.now in
    let steps = c.self.inside.steps.items in
    let moment : List (List Cell) → Step → Moment = λ h s. record { history = h; place = s.place; passes = s.passes; last_colour = s.last_colour } in
    let step : Step = record { place = c.self.inside.place; occurred = c.len.result; passes = c.self.inside.passes; last_colour = c.self.inside.last_colour } in
    let was : GameRecord = record { size = n; present = moment whole step; earlier = reverse (map (λ s. moment (take s.occurred whole) s) steps) } in
    let next : Moment = record { history = now; place = c.in-Ok.place; passes = 0; last_colour = c.self.inside.last_colour } in
    let is : GameRecord = record {
      size = side_of (g.B.Board.content c.assign.new.self);
      present = next;
      earlier = reverse (map (λ s. moment (take s.occurred now) s) c.add_setup.new.steps.items);
    } in
    let size : side_of after ≡ n = c.requires ∙ sym (ap (λ (r : GameRecord). r.size) c.self.view_is) in
    let first : first_without_liberty n after ≡ None = ap (λ m. first_without_liberty m after) (sym size) ∙ c.in_default.ensures.liberties in
    let new_size : side_of (g.B.Board.content c.assign.new.self) ≡ n = ap side_of c.in_default.ensures.ok ∙ size in
    let earlier : is.earlier ≡ was.present ∷ was.earlier =
    earlier_split (λ s. s.occurred) moment now whole c.add_setup.new.steps.items steps step c.in-Ok.ensures.steps
    (sym (ap (λ m. take m now) c.len.ensures.value ∙ joined_front whole now after c.in-Ok.place (place_in whole after) c.in-Ok.ensures.history))
    (λ j d in_steps. omega (arith, c.self.invariant.steps.within j d in_steps, c.len.ensures.value)) in
    subst (λ (r : GameRecord). Did (set_up r after) r (Ok tt) is) c.self.view_is
    (did_set was after c.in-Ok.place now is first c.in-Ok.ensures.history (λ i. record { size = new_size i; present = next; earlier = earlier i }) tt)
