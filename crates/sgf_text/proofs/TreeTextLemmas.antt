-- The text of a tree, child by child.
use Rattle.sgf_text.proofs.Common.{◌≡◌, ℕ, zero, suc, ◌<◌, List, [], ◌∷◌, get_or, ap, refl, length, arith, flat_map, append_assoc, nat_tests, tree_text, forest_text, GameTree, forest_of, tree_count}
use Rattle.sgf_text.specs.Trees.{forest_count}

pub forest_flat : (kids : List GameTree) → forest_text (forest_of kids) ≡ flat_map tree_text kids
forest_flat [] = refl
forest_flat (k ∷ ks) = let i0 = forest_flat ks in grind (arith, nat_tests, append_assoc)

kid_within : (kids : List GameTree) (i : ℕ) (x : GameTree) → i < length kids → x ≡ get_or kids i x → forest_count x.children < forest_count (forest_of kids)
kid_within [] i x h e = absurd (omega arith)
kid_within (k ∷ ks) zero x h e = let f : forest_count x.children ≡ forest_count k.children = ap (λ (t : GameTree). forest_count t.children) e in omega arith
kid_within (k ∷ ks) (suc i) x h e = let r = kid_within ks i x (omega arith) e in omega arith

-- a child tree has fewer trees
pub kid_is_smaller : (tree : GameTree) (kids : List GameTree) (i : ℕ) (x : GameTree) → forest_of kids ≡ tree.children → i < length kids → x ≡ get_or kids i x → tree_count x < tree_count tree
kid_is_smaller tree kids i x e h is = let r = kid_within kids i x h is in let f : forest_count (forest_of kids) ≡ forest_count tree.children = ap forest_count e in omega arith
