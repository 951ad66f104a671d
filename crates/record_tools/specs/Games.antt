-- The game trees of a collection, one after another.
use Rattle.std.specs.Prelude.{ℕ, zero, suc, List, drop}
use Rattle.sgf_text.specs.Trees.{GameTree}
use Rattle.sgf_text.specs.Grammar.{Reads}

-- FF[4], Collection: the tree is the one with this number, counted from 0; each tree is looked for after the end of the one before
abbrev pub IsGame : ℕ → List ℕ → GameTree → Type 0
IsGame zero text tree = (n : ℕ) × Reads text tree n
IsGame (suc k) text tree = (first : GameTree) × (n : ℕ) × Reads text first n × IsGame k (drop n text) tree
