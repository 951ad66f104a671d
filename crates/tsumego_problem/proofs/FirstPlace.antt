-- The first place that passes, in a list and in one with more after it.
use Rattle.tsumego_problem.proofs.Common.{◌≡◌, ℕ, suc, ◌+◌, ◌-◌, Bool, true, false, cond, if◌then◌else◌, List, [], ◌∷◌, ◌++◌, length, take, drop, Option, Some, None, is_some, position, option_map, option_and_then, slice_get, refl, sym, ◌∙◌, ap, arith, rules, nat_tests, take_rest, Node, Forest, GameTree, is_marked, line_below, main_line, problem_node, children_of, below_in, below_line}
use Rattle.sgf_text.specs.Trees.{forest_of}
use Rattle.tsumego_problem.specs.Walk.{usize_of}
use Rattle.tsumego_problem.specs.Below.{below_problem}

module _ {X : Type 0} (f : X → Bool) where
  pub first_place : (x : X) (xs : List X) → position f (x ∷ xs) ≡ cond (f x) (Some 0) (option_map (λ k. 1 + k) (position f xs))
  first_place x xs = search rules

  abbrev pub behind : List X → Option ℕ → Option ℕ → Option ℕ
  behind xs (Some k) o = Some k
  behind xs None o = option_map (λ k. length xs + k) o

  pub place_in_both : (xs ys : List X) → position f (xs ++ ys) ≡ behind xs (position f xs) (position f ys)
  place_in_both [] ys = whole (position f ys)
    where
      whole : (o : Option ℕ) → o ≡ option_map (λ k. 0 + k) o
      whole None = refl
      whole (Some k) = let e : k ≡ 0 + k = omega arith in ap Some e
  place_in_both (x ∷ xs) ys = let i0 = place_in_both xs ys in search rules

-- a number that a `usize` holds, and more
pub usize_add : (b k : ℕ) → option_and_then (λ n. usize_of (n + k)) (usize_of b) ≡ usize_of (b + k)
usize_add b k = grind (arith, nat_tests)

-- what follows the first marked node of a sequence, by its place
abbrev below_at : List Node → Forest → Option Forest → Option ℕ → Option Forest
below_at nodes inner deeper None = deeper
below_at nodes inner deeper (Some at) = Some (children_of (drop (at + 1) nodes) inner)

below_in_at : (nodes : List Node) (inner : Forest) (deeper : Option Forest) → below_in nodes inner deeper ≡ below_at nodes inner deeper (position is_marked nodes)
below_in_at [] inner deeper = refl
below_in_at (node ∷ nodes) inner deeper =
    ap (λ d. if is_marked node then Some (children_of nodes inner) else d) (below_in_at nodes inner deeper)
    ∙ go (is_marked node) (position is_marked nodes)
    ∙ ap (below_at (node ∷ nodes) inner deeper) (sym (first_place is_marked node nodes))
  where
    go : (b : Bool) (o : Option ℕ) → (if b then Some (children_of nodes inner) else below_at nodes inner deeper o) ≡ below_at (node ∷ nodes) inner deeper (cond b (Some 0) (option_map (λ k. 1 + k) o))
    go true o = refl
    go false None = refl
    go false (Some k) = let e : suc (k + 1) ≡ 1 + k + 1 = omega arith in ap (λ j. Some (children_of (drop j (node ∷ nodes)) inner)) e

-- The walk to the problem node has come to a part of the tree, after so many nodes of the main line.
pub record HasGone (tree part : GameTree) (before : Option ℕ) : Type 0 where
  pub count : ℕ
  pub counted : before ≡ usize_of count
  pub number : problem_node tree ≡ option_map (λ k. count + k) (problem_node part)
  pub below : below_problem tree ≡ below_problem part

module _ (tree part : GameTree) (before : Option ℕ) (nodes : List Node) (ts : List GameTree) (gone : HasGone tree part before) (same : nodes ≡ part.nodes) (trees : forest_of ts ≡ part.children) where
  -- by the first marked place of the part's own sequence
  number_by : (o : Option ℕ) → o ≡ position is_marked nodes → problem_node tree ≡ option_map (λ k. gone.count + k) (behind is_marked nodes o (position is_marked (line_below (forest_of ts))))
  number_by o e = rw (e, same, trees) (gone.number ∙ ap (option_map (λ k. gone.count + k)) (place_in_both is_marked part.nodes (line_below part.children)))

  below_by : (o : Option ℕ) → o ≡ position is_marked nodes → below_problem tree ≡ below_at nodes (forest_of ts) (below_line (forest_of ts)) o
  below_by o e = rw (e, same, trees) (gone.below ∙ below_in_at part.nodes part.children (below_line part.children))

  module _ (at : ℕ) (here : Some at ≡ position is_marked nodes) where
    pub found : true ≡ is_some (problem_node tree)
    found = ap is_some (sym (number_by (Some at) here))

    pub found_number : (number : Option ℕ) → number ≡ option_and_then (λ n. usize_of (n + at)) before → number ≡ option_and_then usize_of (problem_node tree)
    found_number number e =
        e ∙ ap (option_and_then (λ n. usize_of (n + at))) gone.counted ∙ usize_add gone.count at ∙ ap (option_and_then usize_of) (sym (number_by (Some at) here))

    pub found_below : below_problem tree ≡ Some (children_of (take (length nodes - (at + 1)) (drop (at + 1) nodes)) (forest_of ts))
    found_below = below_by (Some at) here ∙ ap (λ ns. Some (children_of ns (forest_of ts))) (sym (take_rest nodes (at + 1)))

  module _ (none : None ≡ position is_marked nodes) where
    pub not_found : slice_get ts 0 ≡ None → false ≡ is_some (problem_node tree)
    not_found e = ap is_some (sym (number_by None none ∙ go ts e))
      where
        go : (ts : List GameTree) → slice_get ts 0 ≡ None → option_map (λ k. gone.count + k) (option_map (λ k. length nodes + k) (position is_marked (line_below (forest_of ts)))) ≡ None
        go [] e = refl
        go (t ∷ ts) e = absurd (cc)

    pub gone_on : (child : GameTree) (next : Option ℕ) → slice_get ts 0 ≡ Some child → next ≡ option_and_then (λ n. usize_of (n + length nodes)) before → HasGone tree child next
    gone_on child next first e = record {
      count = gone.count + length nodes;
      counted = e ∙ ap (option_and_then (λ n. usize_of (n + length nodes))) gone.counted ∙ usize_add gone.count (length nodes);
      number = number_by None none ∙ ap (λ ns. option_map (λ k. gone.count + k) (option_map (λ k. length nodes + k) (position is_marked ns))) (line ts first).0 ∙ sums (problem_node child);
      below = below_by None none ∙ (line ts first).1;
    }
      where
        line : (ts : List GameTree) → slice_get ts 0 ≡ Some child → (line_below (forest_of ts) ≡ main_line child) × (below_line (forest_of ts) ≡ below_problem child)
        line [] e = absurd (cc)
        line (t ∷ ts) e = let same : t ≡ child = cc e in (ap main_line same, ap below_problem same)

        sums : (o : Option ℕ) → option_map (λ k. gone.count + k) (option_map (λ k. length nodes + k) o) ≡ option_map (λ k. gone.count + length nodes + k) o
        sums None = refl
        sums (Some k) = ap Some (omega arith)
