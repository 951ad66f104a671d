-- The key of a colouring: the exclusive or of one word of 64 bits for each stone. No rule of the game rests on it.
use Rattle.std.specs.Prelude.{ℕ, zero, suc, ◌+◌, ◌*◌, List, map, bit_xor}
use Rattle.std.specs.List.{fold}
use Rattle.rand_core.specs.Pcg32Seed.{pcg32_seed}
use Rattle.rand_pcg.specs.Lcg.{Lcg}
use Rattle.rand_pcg.specs.Pcg.{pcg64, pcg64_of_seed}
use Rattle.go_points.specs.declared.Colour.TheVariants.{Black, White}
use Rattle.go_points.specs.declared.Cell.{Cell}
use Rattle.go_points.specs.declared.Cell.TheVariants.{Empty, Stone}
use Rattle.go_points.specs.Grid.{cell_at, points, side_of}

-- The generator PCG64, seeded with the number 1, after it has drawn this many words.
unfoldable pub generator_after : ℕ → Lcg
generator_after zero = pcg64_of_seed (pcg32_seed 32 1)
generator_after (suc count) = (pcg64 (generator_after count)).1

-- The word that it draws next.
abbrev pub word_after : ℕ → ℕ
word_after count = (pcg64 (generator_after count)).0

-- The word of what a point holds, out of the two words of that point. An empty point has none.
abbrev pub word_for : Cell → ℕ → ℕ → ℕ
word_for Empty black white = 0
word_for (Stone Black) black white = black
word_for (Stone White) black white = white

-- Two words are drawn for each point in order, whatever the size of the board: first the word of a black stone, then the word of a
-- white one.
abbrev pub point_word : List Cell → ℕ → ℕ
point_word c p = word_for (cell_at c p) (word_after (2 * p)) (word_after (2 * p + 1))

unfoldable pub key_of : List Cell → ℕ
key_of c = fold bit_xor 0 (map (point_word c) (points (side_of c)))
