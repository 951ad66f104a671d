use Rattle.target_game.proofs.Common.{◌≡◌, ◌&&◌, true, false, Result, Ok, Err, sym, ap, subst, ◌∙◌, At, Empty, same_cell, cell_at, IsOn, number_of, move, ply_of, Did, play_of, Line, legal, holds_point, line_after, kept_line, kept_game}
use Rattle.go_turns.specs.declared.fault.TurnFault.{TurnFault}
use Rattle.target_game.proofs.Playing.{ply_at}
use Rattle.target_game.proofs.Tried.{IsFree, tried_yes, tried_no, tried_line, free_move}
use Rattle.target_game.proofs.state.State.try_move.Given.{Over}
use Rattle.target_game.proofs.state.State.try_move.Goals as goal
use Rattle.target_game.proofs.state.State.try_move.Goals.{After-play}

-- the move is free, and what was played is that move
module _ (g : Over) (c : After-play g) where
  on_board : IsOn c.self.inside.played.size c.args.point
  on_board = subst (λ (v : Line). IsOn v.state.game.size c.args.point) (sym c.self.view_is) c.requires.on_board

  is_free : IsFree (kept_line (kept_game c.self.inside.played.size c.self.inside.targets c.self.inside.defender c.self.inside.region) c.self.inside.mover c.self.inside.played).state (move (number_of c.self.inside.played.size c.args.point))
  is_free =
      free_move (kept_line (kept_game c.self.inside.played.size c.self.inside.targets c.self.inside.defender c.self.inside.region) c.self.inside.mover c.self.inside.played).state c.args.point on_board
      (subst (λ (v : Line). (holds_point v.state.game.region (number_of v.state.game.size c.args.point) && same_cell (cell_at v.state.colouring (number_of v.state.game.size c.args.point)) Empty) ≡ true) (sym c.self.view_is) c.requires.free)

  did : (o : Result (Unit {0}) TurnFault) → c.play.result ≡ o → Did (play_of c.self.inside.played c.self.inside.mover (move (number_of c.self.inside.played.size c.args.point))) c.self.inside.played o c.play.new.self
  did o is =
      let r = c.self.inside.played in
      subst (λ t. Did (play_of r c.self.inside.mover t) r o c.play.new.self) (ply_at r.size c.args.point on_board) (subst (λ u. Did (play_of r c.self.inside.mover (ply_of r.size (At c.args.point))) r u c.play.new.self) is c.play.ensures)

pub returns-then-repeats-clause-legal : goal.returns-then-repeats-clause-legal
returns-then-repeats-clause-legal g c =
    let r = c.self.inside.played in
    let at = (goal.at.returns-then-repeats-clause-legal g c).After-play in
    subst (λ (v : Line). false ≡ legal v.state (move (number_of v.state.game.size c.args.point))) c.self.view_is
    (sym (tried_no c.self.inside.targets c.self.inside.defender c.self.inside.region c.self.inside.mover r (move (number_of r.size c.args.point)) c.in-Err.fault c.play.new.self (is_free g at) (did g at (Err c.in-Err.fault) c.in-Err.is) (sym c.repeats.ensures ∙ c.if-repeats.true)))

pub returns-clause-legal : goal.returns-clause-legal
returns-clause-legal g c =
    let r = c.self.inside.played in
    let at = (goal.at.returns-clause-legal g c).After-play in
    subst (λ (v : Line). true ≡ legal v.state (move (number_of v.state.game.size c.args.point))) c.self.view_is
    (sym (tried_yes c.self.inside.targets c.self.inside.defender c.self.inside.region c.self.inside.mover r (move (number_of r.size c.args.point)) c.in_default.field-0 c.play.new.self (is_free g at) (did g at (Ok c.in_default.field-0) c.in_default.is)))

pub returns-clause-state : goal.returns-clause-state
returns-clause-state g c =
    let r = c.self.inside.played in
    let at = (goal.at.returns-clause-state g c).After-play in
    subst (λ (v : Line). kept_line (kept_game c.play.new.self.size c.self.inside.targets c.self.inside.defender c.self.inside.region) c.opponent-self-inside.result c.play.new.self ≡ line_after v (move (number_of v.state.game.size c.args.point))) c.self.view_is
    (ap (λ k. kept_line (kept_game c.play.new.self.size c.self.inside.targets c.self.inside.defender c.self.inside.region) k c.play.new.self) c.opponent-self-inside.ensures
    ∙ tried_line c.self.inside.targets c.self.inside.defender c.self.inside.region c.self.inside.mover r (move (number_of r.size c.args.point)) c.in_default.field-0 c.play.new.self (is_free g at) (did g at (Ok c.in_default.field-0) c.in_default.is))
