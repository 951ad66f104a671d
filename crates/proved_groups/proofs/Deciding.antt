-- What was accepted of a first move decides one way or the other.
use Rattle.std.specs.Prelude.{◌⊎◌}
use Rattle.std.proofs.Common.{inl, inr}
use Rattle.go_points.specs.Place.{Place}
use Rattle.proved_groups.specs.Proven.{Dies, LivesBy}
use Rattle.proved_groups.specs.declared.proven.AcceptedByMove.{AcceptedByMove}
use Rattle.proved_groups.specs.declared.proven.AcceptedByMove.TheVariants as one

pub decides : (a : AcceptedByMove) → ((m : Place) × LivesBy a m) ⊎ Dies a
decides (one.Alive safe) = inl (safe.first, safe.safe)
decides (one.Dead dead) = inr dead.dead
