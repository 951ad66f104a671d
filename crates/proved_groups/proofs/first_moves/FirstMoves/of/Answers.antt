use Rattle.proved_groups.proofs.Pairing.{one_stone}
use Rattle.proved_groups.proofs.first_moves.FirstMoves.of.Goals as goal

pub invariant_of-result : goal.invariant_of-result
invariant_of-result c =
    record { same = ∣ one_stone c.args.problem.now c.args.point c.in_ok-attack.attack c.in_ok-defence.defence c.in_ok-attack.ensures c.in_ok-defence.ensures ∣₁ }
