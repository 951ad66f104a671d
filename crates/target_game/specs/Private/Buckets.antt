-- Colourings of a history in buckets by their keys. These definitions are for private functions only: no public clause rests on
-- them.
use Rattle.std.specs.Prelude.{◌≡◌, ℕ, ◌-◌, ◌%◌, ◌<◌, ◌≤◌, List, [], slice_index, slice_index_or}
use Rattle.go_points.specs.declared.Cell.{Cell}
use Rattle.stone_key.specs.Key.{key_of}

abbrev pub bucket_count : ℕ
bucket_count = 1024

-- The most colourings of a history.
abbrev pub history_most : ℕ
history_most = 1000

-- The bucket of the colouring at a place.
unfoldable pub bucket_at : List (List Cell) → ℕ → ℕ
bucket_at h k = key_of (slice_index_or h k []) % bucket_count

-- Below i each place names the one before it in its bucket, and each bucket names its latest place. A place is named by its number
-- plus one, and 0 means that there is none.
pub record AreChained (h : List (List Cell)) (latest before : List ℕ) (i : ℕ) : Type 0 where
  pub down : (j : ℕ) → j < i → slice_index before j ≤ j
  pub met : (j k : ℕ) → k < j → j < i → bucket_at h k ≡ bucket_at h j → k < slice_index before j
  pub kind : (j : ℕ) → j < i → 0 < slice_index before j → bucket_at h (slice_index before j - 1) ≡ bucket_at h j
  pub latest_low : (b : ℕ) → slice_index latest b ≤ i
  pub latest_met : (k : ℕ) → k < i → k < slice_index latest (bucket_at h k)
  pub latest_kind : (b : ℕ) → 0 < slice_index latest b → bucket_at h (slice_index latest b - 1) ≡ b
