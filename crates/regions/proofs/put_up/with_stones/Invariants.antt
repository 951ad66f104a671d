use Rattle.std.proofs.Common.{◌≡◌, ℕ, ◌<◌}
use Rattle.go_points.specs.Grid.{cell_at, side_of}
use Rattle.regions.specs.PutUp.{cell_put}
use Rattle.regions.proofs.put_up.with_stones.Given as goal

abbrev pub invariant-loop-number : goal.invariant-loop-number
invariant-loop-number l =
    (side_of l.after ≡ side_of l.before)
    × ((i : ℕ) → i < l.number → cell_at l.after i ≡ cell_put l.inside l.points l.colour l.before i)
