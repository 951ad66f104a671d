-- The nodes of an answer tree, one line of turns after another.
use Rattle.solution_tree.proofs.Common.{◌≡◌, ℕ, zero, suc, ◌+◌, ◌<◌, ◌≤◌, length, drop, get_or, refl, sym, ◌∙◌, ap, arith, rules, nat_tests, append-nil, Colour, Turn, ply_of, AnswerTree, turn, replies, ReplyTrees, none, reply_sizes, Node, tree_then, GameTree, forest_of, rest_of, forest_of_replies, Answer, answer_of, replies_of, is_single}
use Rattle.std.specs.Prelude.{false, nat_eq, List, [], ◌∷◌, ◌++◌, map}
use Rattle.std.proofs.lemmas.List.{drop_all}
use Rattle.target_game.specs.Answers.{answer_size}
use Rattle.tsumego_problem.specs.Canonical.{Rest, rest_of_replies}
use Rattle.solution_tree.specs.Private.Written.{is_one}

-- ---- one turn alone, or not

pub one_reply : (n : ℕ) (rs : List (Turn × Answer)) → is_one (replies_of n rs) ≡ nat_eq (length rs) 1
one_reply n [] = refl
one_reply n (r ∷ []) = refl
one_reply n (r ∷ s ∷ rs) = grind (arith, nat_tests)

pub only_reply : (n : ℕ) (k : Colour) (rs : List (Turn × Answer)) (r : Turn × Answer) → length rs ≡ 1 → r ≡ get_or rs 0 r → rest_of_replies n k (replies_of n rs) ≡ rest_of n k (turn (ply_of n r.0) (answer_of n r.1))
only_reply n k [] r one at = absurd (omega (arith, one))
only_reply n k (s ∷ []) r one at = ap (λ (x : Turn × Answer). rest_of n k (turn (ply_of n x.0) (answer_of n x.1))) (sym at)
only_reply n k (s ∷ t ∷ rs) r one at = absurd (omega (arith, one))

pub only_size : (n : ℕ) (rs : List (Turn × Answer)) (r : Turn × Answer) → length rs ≡ 1 → r ≡ get_or rs 0 r → reply_sizes (replies_of n rs) ≡ 1 + answer_size (answer_of n r.1)
unfolding answer_size
only_size n [] r one at = absurd (omega (arith, one))
only_size n (s ∷ []) r one at = ap (λ (x : Turn × Answer). 1 + answer_size (answer_of n x.1) + 0) (sym at) ∙ (let z : 1 + answer_size (answer_of n r.1) + 0 ≡ 1 + answer_size (answer_of n r.1) = omega arith in z)
only_size n (s ∷ t ∷ rs) r one at = absurd (omega (arith, one))

branched : (n : ℕ) (k : Colour) (rs : ReplyTrees) → is_one rs ≡ false → rest_of_replies n k rs ≡ ([], forest_of_replies n k rs)
branched n k rs h = search rules

pub several_rest : (n : ℕ) (k : Colour) (a : AnswerTree) (rs : ReplyTrees) → a ≡ replies rs → is_single a ≡ false → rest_of n k a ≡ ([], forest_of_replies n k rs)
several_rest n k a rs is h = ap (rest_of n k) is ∙ branched n k rs (sym (ap is_single is) ∙ h)

-- ---- a line of turns

-- These nodes and what follows are those nodes and what follows there.
pub record Continues (before : List Node) (r : Rest) (nodes : List Node) (s : Rest) : Type 0 where
  pub nodes_are : nodes ++ s.0 ≡ before ++ r.0
  pub trees_are : s.1 ≡ r.1

-- ---- a tree for each turn

abbrev pub tree_from : ℕ → Colour → Turn × Answer → GameTree
tree_from n k r = record { nodes = (rest_of n k (turn (ply_of n r.0) (answer_of n r.1))).0; children = (rest_of n k (turn (ply_of n r.0) (answer_of n r.1))).1 }

pub forest_from : (n : ℕ) (k : Colour) (rs : List (Turn × Answer)) → forest_of (map (tree_from n k) rs) ≡ forest_of_replies n k (replies_of n rs)
forest_from n k [] = refl
forest_from n k (r ∷ rs) = ap (tree_then (tree_from n k r).nodes (tree_from n k r).children) (forest_from n k rs)

abbrev pub TreesLeft : ℕ → Colour → List (Turn × Answer) → List GameTree → ℕ → Type 0
TreesLeft n k rs trees i = trees ++ map (tree_from n k) (drop i rs) ≡ map (tree_from n k) rs

pub trees_done : (n : ℕ) (k : Colour) (rs : List (Turn × Answer)) (trees : List GameTree) (i : ℕ) → length rs ≤ i → TreesLeft n k rs trees i → forest_of trees ≡ forest_of_replies n k (replies_of n rs)
trees_done n k rs trees i past had = ap forest_of (sym (append-nil trees) ∙ sym (ap (λ xs. trees ++ map (tree_from n k) xs) (drop_all i rs past)) ∙ had) ∙ forest_from n k rs

pub no_size : reply_sizes none ≡ 0
unfolding answer_size
no_size = refl

-- a turn's tree is smaller than all the turns together
pub reply_smaller : (n : ℕ) (rs : List (Turn × Answer)) (i : ℕ) (r : Turn × Answer) → i < length rs → r ≡ get_or rs i r → answer_size (answer_of n r.1) + 1 ≤ reply_sizes (replies_of n rs)
unfolding answer_size
reply_smaller n [] i r within at = absurd (omega arith)
reply_smaller n (s ∷ rs) zero r within at = let same : answer_size (answer_of n r.1) ≡ answer_size (answer_of n s.1) = ap (λ (x : Turn × Answer). answer_size (answer_of n x.1)) at in omega (arith, same)
reply_smaller n (s ∷ rs) (suc i) r within at = omega (arith, reply_smaller n rs i r (omega arith) at)
