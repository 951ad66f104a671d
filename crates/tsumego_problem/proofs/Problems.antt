-- The problem of a tree, by its parts.
use Rattle.tsumego_problem.proofs.Common.{◌≡◌, ℕ, ◌+◌, ◌<◌, Bool, true, false, List, [], ◌∷◌, ◌++◌, length, get_or, Option, Some, None, is_some, Result, Ok, Err, refl, sym, ◌∙◌, ap, ap₂, arith, if◌then◌else◌, rules, GameProblem, Node, GameTree, Walk, walk_node, ◌>>=◌, is_marked, opening, main_line, line_below, root_of, is_go, board_size, problem_node, problem_at, problem_on, problem_within, walk_to_mark, ProblemFault}
use Rattle.std.proofs.Common.{IsTrue, IfOk}
use Rattle.sgf_text.specs.Text.{is_tree}
use Rattle.tsumego_problem.specs.declared.fault.ProblemFault.TheVariants as faults
use Rattle.tsumego_problem.proofs.Reading.{after_mark, marked_walk}

-- the nodes of a tree, and its root
pub some_node : (nodes : List Node) (t : GameTree) → nodes ≡ t.nodes → IsTrue (is_tree t) → 0 < length nodes
some_node nodes t h g = search rules

pub root_is : (nodes : List Node) (t : GameTree) (d : Node) → nodes ≡ t.nodes → 0 < length nodes → get_or nodes 0 d ≡ root_of t
root_is [] t d e h = absurd (omega arith)
root_is (node ∷ nodes) t d e h = ap (λ xs. get_or (xs ++ line_below t.children) 0 []) e

root_first : (nodes : List Node) (t : GameTree) → nodes ≡ t.nodes → 0 < length nodes → (rest : List Node) × (main_line t ≡ root_of t ∷ rest)
root_first [] t e h = absurd (omega arith)
root_first (node ∷ nodes) t e h = (
  nodes ++ line_below t.children,
  ap (λ xs. xs ++ line_below t.children) (sym e) ∙ ap (λ x. x ∷ (nodes ++ line_below t.children)) (ap (λ xs. get_or (xs ++ line_below t.children) 0 []) e),
)

module _ (limit : Option ℕ) (t : GameTree) where
  within_by : (g : Bool) (s o : Option ℕ) → is_go (root_of t) ≡ g → board_size (root_of t) ≡ s → problem_node t ≡ o → problem_within limit t ≡ problem_on limit t g s o
  within_by g s o e f h = ap₂ (λ x y. problem_on limit t x y (problem_node t)) e f ∙ ap (problem_on limit t g s) h

  pub not_go : is_go (root_of t) ≡ false → problem_within limit t ≡ Err faults.Game
  not_go e = within_by false (board_size (root_of t)) (problem_node t) e refl refl

  pub no_size : is_go (root_of t) ≡ true → board_size (root_of t) ≡ None → problem_within limit t ≡ Err faults.Size
  no_size e f = within_by true None (problem_node t) e f refl

  pub no_mark : (n : ℕ) → is_go (root_of t) ≡ true → board_size (root_of t) ≡ Some n → is_some (problem_node t) ≡ false → problem_within limit t ≡ Err faults.NoProblemNode
  no_mark n h g e = search rules

  -- the walk decides
  pub by_walk : (n : ℕ) → is_go (root_of t) ≡ true → board_size (root_of t) ≡ Some n → is_some (problem_node t) ≡ true → problem_within limit t ≡ after_mark limit n (walk_to_mark limit n 0 (main_line t) (opening n (root_of t)))
  by_walk n e f h = go (problem_node t) refl h
    where
      go : (o : Option ℕ) → problem_node t ≡ o → is_some o ≡ true → problem_within limit t ≡ after_mark limit n (walk_to_mark limit n 0 (main_line t) (opening n (root_of t)))
      go None p h = absurd (cc h)
      go (Some k) p h = within_by true (Some n) (Some k) e f p ∙ marked_walk limit n (main_line t) 0 k (opening n (root_of t)) p

  pub walk_leads : (n : ℕ) (node : Node) (w : Walk) → is_go (root_of t) ≡ true → board_size (root_of t) ≡ Some n → is_some (problem_node t) ≡ true
      → walk_to_mark limit n 0 (main_line t) (opening n (root_of t)) ≡ Ok (node, w) → problem_within limit t ≡ Ok (problem_at n node w)
  walk_leads n node w e f h leads = by_walk n e f h ∙ ap (after_mark limit n) leads

  pub walk_refuses : (n : ℕ) (fault : ProblemFault) → is_go (root_of t) ≡ true → board_size (root_of t) ≡ Some n → is_some (problem_node t) ≡ true
      → walk_to_mark limit n 0 (main_line t) (opening n (root_of t)) ≡ Err fault → problem_within limit t ≡ Err fault
  walk_refuses n fault e f h refuses = by_walk n e f h ∙ ap (after_mark limit n) refuses

  -- the first node may be refused before the walk begins
  pub root_refuses : (n : ℕ) (nodes : List Node) (fault : ProblemFault) → nodes ≡ t.nodes → 0 < length nodes → is_go (root_of t) ≡ true → board_size (root_of t) ≡ Some n → is_some (problem_node t) ≡ true
      → walk_node limit n 0 (root_of t) (opening n (root_of t)) ≡ Err fault → problem_within limit t ≡ Err fault
  root_refuses n nodes fault same some e f h refuses =
      let line = root_first nodes t same some in
      walk_refuses n fault e f h
      (ap (λ xs. walk_to_mark limit n 0 xs (opening n (root_of t))) line.1
      ∙ ap (λ r. r >>= (λ v. if is_marked (root_of t) then Ok (root_of t, v) else walk_to_mark limit n (0 + 1) line.0 v)) refuses)

-- what a call that makes the problem gives
pub led_to : (r : Result GameProblem ProblemFault) (due : Result GameProblem ProblemFault) (q : GameProblem) → IfOk r (λ p. p ≡ q) → due ≡ Ok q → IfOk r (λ p. due ≡ Ok p)
led_to r due q h g = search rules
