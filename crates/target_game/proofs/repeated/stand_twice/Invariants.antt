use Rattle.target_game.proofs.Common.{◌≡◌, false, length, take, repeats, AreChained, bucket_count, history_most}
use Rattle.target_game.proofs.repeated.stand_twice.Given as goal

abbrev pub invariant-loop-place : goal.invariant-loop-place
invariant-loop-place l = record {
  latest_full : length l.latest ≡ bucket_count;
  before_full : length l.before ≡ history_most;
  chained : AreChained l.history l.latest l.before l.place;
  once : repeats (take l.place l.history) ≡ false;
}
