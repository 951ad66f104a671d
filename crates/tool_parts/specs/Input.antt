-- What a run has read.
use Rattle.std.specs.Prelude.{◌≡◌, ℕ, List, Option, Some, None}

-- the bytes are all that the reader tells of, if it tells of any
abbrev pub Tells : Option (List ℕ) → List ℕ → Type 0
Tells None bytes = Unit {0}
Tells (Some told) bytes = bytes ≡ told
