use Rattle.first_moves.proofs.Common.{IfSome, Option, subst, GameProblem, Position, IsNext, IsPosition}
use Rattle.first_moves.proofs.Reaching.{made_weaker, next_reached}
use Rattle.first_moves.proofs.line.position_after.Goals as goal

pub returns-in-Some-clause-reached : goal.returns-in-Some-clause-reached
returns-in-Some-clause-reached c =
    let p = c.args.position.now in
    let m = c.in-Some.middle in
    let first : IsNext p c.args.turn m =
    subst (λ (o : Option Position). IfSome o (λ (n : Position). IsNext p c.args.turn n)) c.in-Some.is c.in_ok-middle.ensures in
    made_weaker (λ (n : Position). IsNext m c.args.reply n) (λ (n : Position). (q : GameProblem) → IsPosition q p → IsPosition q n) c.next_position-in-Some.result
    (λ n more q is. next_reached q m c.args.reply n (next_reached q p c.args.turn m is first) more) c.next_position-in-Some.ensures
