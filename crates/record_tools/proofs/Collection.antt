-- The trees after the first.
use Rattle.std.proofs.Common.{◌≡◌, ◌<◌, ℕ, zero, suc, ◌+◌, ◌-◌, List, drop, subst, arith}
use Rattle.sgf_text.specs.Trees.{GameTree}
use Rattle.sgf_text.specs.Grammar.{Reads}
use Rattle.record_tools.specs.Games.{IsGame}

-- the trees that are still to be passed decide which tree is wanted
abbrev pub Decides : ℕ → List ℕ → ℕ → List ℕ → Type 0
Decides left rest number text = (tree : GameTree) → IsGame left rest tree → IsGame number text tree

later_game : (k : ℕ) (text : List ℕ) (first : GameTree) (n : ℕ) (tree : GameTree) → 0 < k → Reads text first n → IsGame (k - 1) (drop n text) tree → IsGame k text tree
later_game zero text first n tree some reads is = absurd (omega arith)
later_game (suc k) text first n tree some reads is =
    let e : suc k - 1 ≡ k = omega arith in
    (first, n, reads, subst (λ (j : ℕ). IsGame j (drop n text) tree) e is)

pub decides_later : (i number : ℕ) (text rest : List ℕ) (first : GameTree) (n : ℕ) → i < number → Reads rest first n → Decides (number - i) rest number text → Decides (number - (i + 1)) (drop n rest) number text
decides_later i number text rest first n left reads decides tree is =
    let e : number - (i + 1) ≡ number - i - 1 = omega arith in
    decides tree (later_game (number - i) rest first n tree (omega arith) reads (subst (λ (j : ℕ). IsGame j (drop n rest) tree) e is))
