use Rattle.first_moves.proofs.Common.{◌≡◌, ◌<◌, [], length, AreLater, IsPosition}
use Rattle.first_moves.proofs.Reaching.{last_turns}
use Rattle.first_moves.proofs.line.judge_along.Given as goal

abbrev pub invariant-loop : goal.invariant-loop
invariant-loop g l =
    AreLater l.depth l.problem l.later.items × IsPosition l.problem l.position
    × (last_turns [] l.later.items ≡ l.position.turns.items) × (length l.later.items < l.counter)
