use Rattle.go_points.proofs.Common.{ℕ, ◌-◌, ◌<◌, ◌≤◌, AreAlike}
use Rattle.go_points.proofs.point_bits.next_unlike.Given as goal

abbrev pub invariant-words : goal.invariant-words
invariant-words l = record {
  later : l.from ≤ l.at;
  alike : (i : ℕ) → l.from ≤ i → i < l.at → AreAlike l.bits l.others l.more l.more_others i;
}

abbrev pub decreases-words : goal.decreases-words
decreases-words l = l.area - l.at
