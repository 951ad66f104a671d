-- The colourings of a history in buckets by their keys. These definitions are for private fields and functions only: no public clause
-- rests on them.
use Rattle.std.specs.Prelude.{◌≡◌, ℕ, ◌%◌, ◌<◌, ◌≤◌, List, [], length, slice_index, slice_index_or}
use Rattle.go_points.specs.declared.Cell.{Cell}
use Rattle.stone_key.specs.Key.{key_of}

abbrev pub bucket_count : ℕ
bucket_count = 512

-- No colouring of a bucket stands before the place that is kept for the bucket.
pub record NoneBefore (h : List (List Cell)) (places : List ℕ) : Type 0 where
  pub full : length places ≡ bucket_count
  pub none : (k : ℕ) → k < length h → slice_index places (key_of (slice_index_or h k []) % bucket_count) ≤ k
