-- How the walk and the canonical record fit together.
use Rattle.std.specs.Prelude.{◌≡◌, ◌≢◌, ◌*◌, ◌≤◌, Bool, true, List, [], ◌∷◌, ◌++◌, length, IsTrue, not, ◌&&◌, ◌==◌, Ok, filter, Some}
use Rattle.std.specs.List.{list_all}
use Rattle.go_points.specs.declared.TheConstants.{MAX_SIZE}
use Rattle.go_points.specs.declared.Colour.{Colour}
use Rattle.go_points.specs.Grid.{points}
use Rattle.go_points.specs.declared.Cell.{Cell}
use Rattle.go_turns.specs.History.{place_in, has_occurred}
use Rattle.target_game.specs.State.{GameProblem, start}
use Rattle.target_game.specs.Legal.{holds_point}
use Rattle.target_game.specs.Answers.{AnswerTree, answers}
use Rattle.tsumego_problem.specs.Walk.{problem_of, has_no_liberty, are_targets, colour_of}
use Rattle.tsumego_problem.specs.Canonical.{canonical, solution, present}
use Rattle.tsumego_problem.specs.Below.{below_problem, Shows, Below}
use Rattle.sgf_text.specs.Trees.{Forest}

-- Is each colouring different from those before it?
abbrev pub each_new : List (List Cell) → List (List Cell) → Bool
each_new before [] = true
each_new before (c ∷ cs) = not (has_occurred before c) && each_new (before ++ c ∷ []) cs

-- What holds for each problem: a board of 1 to `MAX_SIZE` rows; colourings of its size, each once, in which every stone reaches
-- empty; a present one among them; at most one pass; and ascending points as targets, stones of the defender's colour, and as
-- region.
pub record IsProblem (q : GameProblem) : Type 0 where
  pub small : 1 ≤ q.game.size
  pub large : q.game.size ≤ MAX_SIZE
  pub sizes : IsTrue (list_all (λ c. length c == q.game.size * q.game.size) q.history)
  pub once : IsTrue (each_new [] q.history)
  pub liberties : IsTrue (list_all (λ c. not (has_no_liberty q.game.size c)) q.history)
  pub place : place_in q.history (present q) ≡ Some q.place
  pub passes : q.passes ≤ 1
  pub targets : q.game.targets ≡ filter (holds_point q.game.targets) (points q.game.size)
  pub stones : IsTrue (are_targets (present q) q.game.targets)
  pub defender : q.game.defender ≡ colour_of (present q) q.game.targets
  pub region : q.game.region ≡ filter (holds_point q.game.region) (points q.game.size)
  pub somewhere : q.game.region ≢ []

-- the canonical record holds the same problem, the order of the history included
abbrev pub CanonicalReads : Type 0
CanonicalReads = (q : GameProblem) → IsProblem q → problem_of (canonical q) ≡ Ok q

-- the solution record holds the same problem, and the answer tree below its problem node
abbrev pub SolutionReads : Type 0
SolutionReads = (q : GameProblem) (x : Colour) (a : AnswerTree) → IsProblem q → IsTrue (answers x (start q) a) →
    (problem_of (solution q x a) ≡ Ok q) × Below (solution q x a) x (start q)

-- the children of the problem node show exactly that answer tree
abbrev pub SolutionShows : Type 0
SolutionShows = (q : GameProblem) (x : Colour) (a : AnswerTree) → IsProblem q → IsTrue (answers x (start q) a) →
    (problem_of (solution q x a) ≡ Ok q) × (children : Forest) × (below_problem (solution q x a) ≡ Some children) × Shows q.game.size q.mover a children
