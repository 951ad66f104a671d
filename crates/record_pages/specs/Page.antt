-- A reader's copy of a solution record.
use Rattle.std.specs.Prelude.{◌≡◌, ◌⊎◌, ℕ, List, [], ◌∷◌, ◌++◌, codes, Bool, IsTrue, Ok, Some}
use Rattle.go_points.specs.declared.Colour.{Colour}
use Rattle.target_game.specs.State.{GameProblem}
use Rattle.sgf_text.specs.Trees.{GameTree, Node}
use Rattle.tsumego_problem.specs.Walk.{problem_within, history_limit}
use Rattle.solution_tree.specs.Audit.{audit}
use Rattle.tool_parts.specs.Says.{winner_text}
use Rattle.record_pages.specs.Bare.{IsBare}

-- The comment of the node, its last property, ends with who wins.
abbrev pub NamesWinner : Colour → Node → Type 0
NamesWinner x node = (front : Node) × (text : List ℕ) × (node ≡ front ++ record { ident = codes "C"; values = (text ++ winner_text x) ∷ [] } ∷ [])

-- one of the nodes of the record's main sequence does
abbrev pub HasNamedWinner : Colour → GameTree → Type 0
HasNamedWinner x tree = (before after : List Node) × (node : Node) × (tree.nodes ≡ before ++ node ∷ after) × NamesWinner x node

-- The answer has this problem, and this side wins it according to its tree. The page shows that problem, or the same problem
-- without the game before it, and names that side; if nothing is left out, it also wins what is shown according to the page's tree.
pub record IsPage (answer page : GameTree) (q shown : GameProblem) (winner : Colour) (is_whole : Bool) : Type 0 where
  pub problem : problem_within (Some history_limit) answer ≡ Ok q
  pub wins : audit q answer ≡ Ok winner
  pub named : HasNamedWinner winner page
  pub one : (shown ≡ q) ⊎ IsBare q shown
  pub same : problem_within (Some history_limit) page ≡ Ok shown
  pub whole : IsTrue is_whole → audit shown page ≡ Ok winner
