-- The word at a place of the generator's first words is the word that it draws after so many others.
use Rattle.std.proofs.Common.{◌≡◌, ℕ, zero, suc, ◌+◌, ◌<◌, slice_index, refl, sym, ap, ◌∙◌, arith}
use Rattle.rand_core.specs.Steps.{first_words}
use Rattle.rand_core.specs.Pcg32Seed.{pcg32_seed}
use Rattle.rand_pcg.specs.Pcg.{pcg64, pcg64_of_seed}
use Rattle.stone_key.specs.declared.words.TheConstants.{WORD_COUNT}
use Rattle.stone_key.specs.Key.{generator_after, word_after}

first_generator : generator_after 0 ≡ pcg64_of_seed (pcg32_seed 32 1)
unfolding generator_after
first_generator = refl

next_generator : (i : ℕ) → generator_after (suc i) ≡ (pcg64 (generator_after i)).1
unfolding generator_after
next_generator i = refl

-- from the generator after i words, the word at place k is the one after i + k words
word_at : (count k i : ℕ) → k < count → slice_index (first_words pcg64 count (generator_after i)) k ≡ word_after (i + k)
unfolding first_words
word_at zero k i h = absurd (omega (arith, h))
word_at (suc count) zero i h = ap word_after (omega arith)
word_at (suc count) (suc k) i h =
    let next = sym (next_generator i) in
    ap (λ g. slice_index (first_words pcg64 count g) k) next
    ∙ word_at count k (suc i) (omega (arith, h))
    ∙ ap word_after (omega arith)

pub drawn_at : (k : ℕ) → k < WORD_COUNT → slice_index (first_words pcg64 WORD_COUNT (pcg64_of_seed (pcg32_seed 32 1))) k ≡ word_after k
drawn_at k h = ap (λ g. slice_index (first_words pcg64 WORD_COUNT g) k) (sym first_generator) ∙ word_at WORD_COUNT k 0 h ∙ ap word_after (omega arith)
