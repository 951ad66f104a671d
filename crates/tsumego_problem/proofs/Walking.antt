-- The walk, one node after another.
use Rattle.tsumego_problem.proofs.Common.{◌≡◌, ◌≢◌, ℕ, suc, ◌+◌, ◌<◌, Bool, true, false, cond, List, ◌∷◌, ◌++◌, drop, map, length, get_or, Option, Some, None, Result, Ok, Err, sym, ◌∙◌, ap, arith, list_all, drop-cons, nat_tests, Cell, Empty, cell_at, same_cell, Place, number_of, same_cell_refl, Node, Walk, are_targets, is_marked, node_fault, late_fault, changed, unless, ◌>>=◌, walk_node, walk_to_mark, ProblemFault}
use Rattle.go_points.specs.Points.{first_place}
use Rattle.target_game.proofs.Facts.{map_all}
use Rattle.tsumego_problem.specs.declared.fault.ProblemFault.TheVariants as faults

-- stones of one colour, by the first of them
pub targets_hold : (n : ℕ) (c : List Cell) (ps : List Place) (p : Place) (cell : Cell) (b : Bool) → first_place ps ≡ Some p → cell ≡ cell_at c (number_of n p) → same_cell cell Empty ≡ false
    → b ≡ list_all (λ q. same_cell (cell_at c (number_of n q)) cell) ps → b ≡ are_targets c (map (number_of n) ps)
targets_hold n c ps p cell b h g e f = grind (arith, nat_tests, same_cell_refl, map_all)

module _ (limit : Option ℕ) (n k : ℕ) (node : Node) (w v : Walk) where
  -- a node that does something
  pub walked : node_fault n k node ≡ None → changed n k node w ≡ Ok v → walk_node limit n k node w ≡ unless (late_fault limit n k node v) v
  walked fine does = ap (λ o. unless o w >>= changed n k node >>= (λ v. unless (late_fault limit n k node v) v)) fine ∙ ap (λ r. r >>= (λ v. unless (late_fault limit n k node v) v)) does

  pub walked_on : node_fault n k node ≡ None → changed n k node w ≡ Ok v → late_fault limit n k node v ≡ None → walk_node limit n k node w ≡ Ok v
  walked_on fine does late = walked fine does ∙ ap (λ o. unless o v) late

  pub walked_to : (fault : ProblemFault) → node_fault n k node ≡ None → changed n k node w ≡ Ok v → late_fault limit n k node v ≡ Some fault → walk_node limit n k node w ≡ Err fault
  walked_to fault fine does late = walked fine does ∙ ap (λ o. unless o v) late

-- the nodes of a sequence from the place i on, with what stands after it
abbrev pub left_of : List Node → List Node → ℕ → List Node
left_of nodes rest i = drop i nodes ++ rest

module _ (limit : Option ℕ) (n first : ℕ) (nodes rest : List Node) (i : ℕ) (node : Node) (low : i < length nodes) (at : get_or nodes i node ≡ node) (w : Walk) (whole : Result (Node × Walk) ProblemFault)
    (had : walk_to_mark limit n (first + i) (left_of nodes rest i) w ≡ whole) where
  here : left_of nodes rest i ≡ node ∷ left_of nodes rest (i + 1)
  here = let next : suc i ≡ i + 1 = omega arith in ap (λ xs. xs ++ rest) (drop-cons nodes i node low ∙ ap (λ y. y ∷ drop (suc i) nodes) at ∙ ap (λ k. node ∷ drop k nodes) next)

  step : (walk_node limit n (first + i) node w >>= (λ v. cond (is_marked node) (Ok (node, v)) (walk_to_mark limit n (first + i + 1) (left_of nodes rest (i + 1)) v))) ≡ whole
  step = sym (ap (λ xs. walk_to_mark limit n (first + i) xs w) here) ∙ had

  pub step_on : (v : Walk) → walk_node limit n (first + i) node w ≡ Ok v → is_marked node ≡ false → walk_to_mark limit n (first + (i + 1)) (left_of nodes rest (i + 1)) v ≡ whole
  step_on v h g = grind (arith, nat_tests, step)

  pub step_marked : (v : Walk) → walk_node limit n (first + i) node w ≡ Ok v → is_marked node ≡ true → whole ≡ Ok (node, v)
  step_marked v h g = grind (arith, nat_tests, step)

  pub step_fault : (fault : ProblemFault) → (fault ≢ faults.Memory → walk_node limit n (first + i) node w ≡ Err fault) → fault ≢ faults.Memory → whole ≡ Err fault
  step_fault fault h g = grind (arith, nat_tests, step)
