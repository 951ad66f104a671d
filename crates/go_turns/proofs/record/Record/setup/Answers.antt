-- The points make a colouring, and the record is set up to it.
use Rattle.go_turns.proofs.Common.{◌≡◌, ℕ, ◌*◌, List, map, nat_lt, true, sym, ◌∙◌, ap, subst, list_all, Cell, side_of, GameRecord, colouring_of, numbered, assigned, Did}
use Rattle.go_turns.proofs.Setups.{setup_is}
use Rattle.go_turns.proofs.record.Record.setup.Goals as goal

pub returns : goal.returns
returns g c =
    let r : GameRecord = c.args.self.now in
    let old : List Cell = g.B.Board.content c.self.inside.board in
    let size : side_of old ≡ r.size = ap (λ (x : GameRecord). x.size) c.self.view_is in
    let here : c.colouring.result ≡ colouring_of r.present = c.colouring.ensures.value ∙ sym c.self.invariant.here.same ∙ ap (λ (x : GameRecord). colouring_of x.present) c.self.view_is in
    let side : side_of c.colouring.result ≡ r.size = ap side_of c.colouring.ensures.value ∙ size in
    let cells = map (numbered r.size) c.args.cells.now in
    let all : list_all (λ a. nat_lt a.0 (r.size * r.size)) cells ≡ true =
    subst (λ (m : ℕ). list_all (λ a. nat_lt a.0 (m * m)) (map (numbered m) c.args.cells.now) ≡ true) side (sym c.in-Some.ensures.on_board) in
    let made : c.in-Some.after ≡ assigned (colouring_of r.present) cells =
    subst (λ (x : List Cell). c.in-Some.after ≡ assigned x (map (numbered r.size) c.args.cells.now)) here
    (subst (λ (m : ℕ). c.in-Some.after ≡ assigned c.colouring.result (map (numbered m) c.args.cells.now)) side c.in-Some.ensures.value) in
    subst (λ d. Did d r c.set_up.result c.set_up.new.self) (sym (setup_is r cells c.in-Some.after all made)) c.set_up.ensures
