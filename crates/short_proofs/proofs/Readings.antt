-- A record for readers, from the nodes below its problem.
use Rattle.std.proofs.Common.{◌≡◌, Bool, false, IsTrue, List, [], ◌∷◌, Some, Result, Ok, Err, refl, sym, ◌∙◌, ap, subst}
use Rattle.std.specs.Prelude.{IfOk}
use Rattle.go_points.specs.declared.Colour.{Colour}
use Rattle.target_game.specs.State.{GameState}
use Rattle.sgf_text.specs.Trees.{GameTree, Node, forest_of}
use Rattle.tsumego_problem.specs.Below.{below_problem, children_of}
use Rattle.solution_tree.specs.Below.{nodes_in, nodes_of, nodes_below}
use Rattle.solution_tree.specs.Questions.{follows}
use Rattle.short_proofs.specs.Sound.{AreSound, IsAnswered, IsReading}

module _ (x : Colour) (s : GameState) (tree : GameTree) (nodes : List Node) (trees : List GameTree) (below : below_problem tree ≡ Some (children_of nodes (forest_of trees))) where
  follows_problem : nodes_below tree ≡ follows nodes trees
  follows_problem = ap nodes_in below ∙ go nodes
    where
      go : (ns : List Node) → nodes_of (children_of ns (forest_of trees)) ≡ follows ns trees
      go [] = refl
      go (n ∷ ns) = refl

  pub reading : {E : Type 0} → IsAnswered x s false (follows nodes trees) → (r : Result Bool E) → IfOk r (λ b. IsTrue b → AreSound x s (follows nodes trees)) → IfOk r (λ b. IsTrue b → IsReading x s tree)
  reading answered (Ok b) sound = λ is. (subst (λ ns. IsAnswered x s false ns) (sym follows_problem) answered, subst (λ ns. AreSound x s ns) (sym follows_problem) (sound is))
  reading answered (Err e) sound = tt
