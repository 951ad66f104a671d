-- Forests one after another.
use Rattle.sgf_text.proofs.Common.{◌≡◌, ℕ, ◌+◌, ◌<◌, List, [], ◌∷◌, ◌++◌, length, get_or, take, sym, ap, ◌∙◌, subst, refl, Bool, true, false, ◌&&◌, IsTrue, and_from, is_forest, is_tree, are_nodes, Node, Forest, no_tree, tree_then, GameTree, forest_of, forest_join, with_child}
use Rattle.std.proofs.lemmas.List.{take_more}
use Rattle.sgf_text.specs.Trees.{tree_of}

pub join_none : (f : Forest) → forest_join f no_tree ≡ f
join_none no_tree = refl
join_none (tree_then nodes children others) = ap (tree_then nodes children) (join_none others)

pub join_joined : (f g h : Forest) → forest_join (forest_join f g) h ≡ forest_join f (forest_join g h)
join_joined no_tree g h = refl
join_joined (tree_then nodes children others) g h = ap (tree_then nodes children) (join_joined others g h)

pub forest_pushed : (ts : List GameTree) (t : GameTree) → forest_of (ts ++ t ∷ []) ≡ forest_join (forest_of ts) (tree_then t.nodes t.children no_tree)
forest_pushed [] t = refl
forest_pushed (x ∷ xs) t = ap (tree_then x.nodes x.children) (forest_pushed xs t)

pub child_pushed : (nodes : List Node) (ts new : List GameTree) (t : GameTree) → new ≡ ts ++ t ∷ [] → tree_of nodes new ≡ with_child (tree_of nodes ts) t
child_pushed nodes ts new t e = λ i. record { nodes = nodes; children = (ap forest_of e ∙ forest_pushed ts t) i }

pub join_good : (f g : Forest) → IsTrue (is_forest f) → IsTrue (is_forest g) → IsTrue (is_forest (forest_join f g))
join_good no_tree g h k = k
join_good (tree_then nodes children others) g h k = go (are_nodes nodes) (is_forest children) (is_forest others) refl refl refl h (λ e. join_good others g e k)
  where
    go : (a b c : Bool) → are_nodes nodes ≡ a → is_forest children ≡ b → is_forest others ≡ c → (a && b && c) ≡ true → (is_forest others ≡ true → IsTrue (is_forest (forest_join others g))) → IsTrue (is_forest (tree_then nodes children (forest_join others g)))
    go true true true x y z h ih = rw (x, y, ih z) refl
    go true true false x y z h ih = absurd cc
    go true false c x y z h ih = absurd cc
    go false b c x y z h ih = absurd cc

-- one good tree more
pub forest_more : (ts : List GameTree) (i : ℕ) (t : GameTree) → i < length ts → t ≡ get_or ts i t → IsTrue (is_tree t) → IsTrue (is_forest (forest_of (take i ts))) → IsTrue (is_forest (forest_of (take (i + 1) ts)))
forest_more ts i t h e g k =
    subst (λ f. IsTrue (is_forest f)) (sym (ap forest_of (take_more ts i t h ∙ ap (λ (x : GameTree). take i ts ++ x ∷ []) (sym e)) ∙ forest_pushed (take i ts) t))
    (join_good (forest_of (take i ts)) (tree_then t.nodes t.children no_tree) k (and_from (are_nodes t.nodes && is_forest t.children) true g refl))
