-- The point that the board names is that of the definition.
use Rattle.go_turns.proofs.Common.{◌≡◌, ℕ, [], ◌∷◌, List, map, reverse, take, Some, None, Err, refl, sym, ◌∙◌, ap, subst, Cell, side_of, Place, IsOn, number_of, first_without_liberty, NoLiberty, Step, Moment, GameRecord, reopened, Did}
use Rattle.go_turns.specs.Record.{opened}
use Rattle.go_turns.proofs.Openings.{reopens_refused}
use Rattle.go_turns.proofs.record.Record.reopen.Goals as goal

pub returns-in-Err : goal.returns-in-Err
returns-in-Err g c =
    let whole = g.S.Seen.content c.self.inside.seen in
    let n = side_of (g.B.Board.content c.self.inside.board) in
    let wanted : List Cell = c.args.colouring.now in
    let p : Place = c.in-Err.refused.point in
    let moment : List (List Cell) → Step → Moment = λ h s. record { history = h; place = s.place; passes = s.passes; last_colour = s.last_colour } in
    let present : Moment = record { history = whole; place = c.self.inside.place; passes = c.self.inside.passes; last_colour = c.self.inside.last_colour } in
    let earlier : List Moment = reverse (map (λ s. moment (take s.occurred whole) s) c.self.inside.steps.items) in
    let was : GameRecord = record { size = n; present = present; earlier = earlier } in
    let is : GameRecord = record { size = side_of (g.B.Board.content c.assign.new.self); present = present; earlier = earlier } in
    let size : side_of wanted ≡ n = c.requires.size ∙ sym (ap (λ (r : GameRecord). r.size) c.self.view_is) in
    let first : first_without_liberty n wanted ≡ Some (number_of n p) = subst (λ (m : ℕ). first_without_liberty m wanted ≡ Some (number_of m p)) size c.in-Err.ensures.fault in
    let on : IsOn n p = subst (λ (m : ℕ). IsOn m p) size c.in-Err.ensures.fault_on_board in
    let kept : is ≡ was = λ i. record { size = side_of (c.in-Err.ensures.err i); present = present; earlier = earlier } in
    let alone : Moment = record { history = wanted ∷ []; place = 0; passes = c.args.passes; last_colour = None } in
    subst (λ (r : GameRecord). Did (reopened r.size (opened r.size (wanted ∷ []) 0 c.args.passes)) r (Err (NoLiberty p)) is) c.self.view_is
    (subst (λ due. Did due was (Err (NoLiberty p)) is) (sym (reopens_refused n (first_without_liberty n wanted) alone p first on)) (refl, kept))
