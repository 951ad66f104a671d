use Rattle.target_game.proofs.Common.{◌≡◌, ℕ, ◌-◌, ◌<◌, ◌≤◌, ◌⊎◌, false, [], get_or, same_cells, bucket_at}
use Rattle.target_game.proofs.repeated.stands_before.Given as goal

abbrev pub invariant-chain : goal.invariant-chain
invariant-chain l = record {
  low : l.at ≤ l.from;
  kind : 0 < l.at → bucket_at l.history (l.at - 1) ≡ l.bucket;
  passed : (k : ℕ) → k < l.from → bucket_at l.history k ≡ l.bucket → (k < l.at) ⊎ (same_cells l.colouring (get_or l.history k []) ≡ false);
}

abbrev pub decreases-chain : goal.decreases-chain
decreases-chain l = l.at
