-- Nodes that say who wins.
use Rattle.std.proofs.Common.{◌≡◌, ℕ, List, [], ◌∷◌, ◌++◌, codes, Some, Result, Ok, Err, inr, refl, sym, ◌∙◌, ap, subst, append_assoc}
use Rattle.std.specs.Prelude.{IfOk}
use Rattle.go_points.specs.declared.Colour.{Colour}
use Rattle.go_points.specs.declared.Colour.TheVariants.{Black, White}
use Rattle.sgf_text.specs.Trees.{GameTree, Node}
use Rattle.tool_parts.specs.Says.{winner_text}
use Rattle.tsumego_problem.specs.Canonical.{property, verdict_text}
use Rattle.short_proofs.specs.Says.{HasVerdict, IsSaidOf, Says, SaysWinner}
use Rattle.short_proofs.specs.declared.words.Request.{Request}
use Rattle.target_game.specs.State.{GameProblem}
use Rattle.tool_parts.specs.declared.output.Output.{Output}
use Rattle.tsumego_problem.specs.Walk.{problem_within, history_limit}

verdict_is : (x : Colour) → verdict_text x ≡ winner_text x ++ []
verdict_is Black = refl
verdict_is White = refl

marked : (x : Colour) (front node : Node) → node ≡ front ++ property (codes "C") (verdict_text x ∷ []) → SaysWinner x node
marked x front node is = (front, [], is ∙ ap (λ v. front ++ property (codes "C") (v ∷ [])) (verdict_is x))

pub marked_result : {E : Type 0} (x : Colour) (front : Node) (r : Result Node E) → IfOk r (λ node. node ≡ front ++ property (codes "C") (verdict_text x ∷ [])) → IfOk r (SaysWinner x)
marked_result x front (Ok node) is = marked x front node is
marked_result x front (Err e) is = tt

-- a record whose main sequence goes on after such a node
module _ {E : Type 0} (x : Colour) (past nodes : List Node) (node : Node) (is : nodes ≡ past ++ node ∷ []) (says : SaysWinner x node) where
  pub verdict_then : (r : Result GameTree E) → IfOk r (λ tree. (more : List Node) × (tree.nodes ≡ nodes ++ more)) → IfOk r (HasVerdict x)
  verdict_then (Ok tree) (more, goes) = (past, more, node, goes ∙ ap (λ l. l ++ more) is ∙ append_assoc past (node ∷ []) more, says)
  verdict_then (Err e) goes = tt

  pub verdict_last : (r : Result GameTree E) → IfOk r (λ tree. tree.nodes ≡ nodes) → IfOk r (HasVerdict x)
  verdict_last (Ok tree) ends = (past, [], node, ends ∙ is, says)
  verdict_last (Err e) ends = tt

-- what is said of the problem of a record is said of the record
pub said_of : {E : Type 0} (request asked : Request) (tree : GameTree) (q : GameProblem) (r : Result Output E) → problem_within (Some history_limit) tree ≡ Ok q → request ≡ asked → IfOk r (Says asked q) → IfOk r (IsSaidOf request tree)
said_of request asked tree q (Ok o) is same says = inr (q, is, subst (λ a. Says a q o) (sym same) says)
said_of request asked tree q (Err e) is same says = tt
