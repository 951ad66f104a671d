use Rattle.target_game.proofs.Due.{first_move, first_pass}
use Rattle.target_game.proofs.state.State.next_turn.Goals as goal

pub returns-in-Some : goal.returns-in-Some
returns-in-Some g c = first_move c.args.self.now.state c.args.from c.in-Some.point c.in-Some.ensures.some

pub returns-in-None : goal.returns-in-None
returns-in-None g c = first_pass c.args.self.now.state c.args.from c.in-None.ensures.none
