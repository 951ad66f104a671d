-- What a record stands for, stated without mentioning refusals: the state in which its problem is set.
use Rattle.std.specs.Prelude.{◌≡◌, ℕ, ◌+◌, Bool, true, false, List, [], ◌∷◌, ◌++◌, fold, map, take, slice_index_or, unwrap_or, Option, Some, None}
use Rattle.go_points.specs.declared.Colour.{Colour}
use Rattle.go_points.specs.declared.Colour.TheVariants.{Black}
use Rattle.go_points.specs.declared.Cell.{Cell}
use Rattle.go_points.specs.declared.Cell.TheVariants.{Empty}
use Rattle.go_points.specs.Grid.{points}
use Rattle.go_points.specs.Ply.{Ply}
use Rattle.target_game.specs.State.{Game, GameState}
use Rattle.target_game.specs.Next.{next}
use Rattle.sgf_text.specs.Trees.{Node, GameTree}
use Rattle.tsumego_problem.specs.Walk.{turn_at, player_at, has_setup, assigned, targets_at, region_at, colour_of, main_line, root_of, board_size, problem_node}

-- The main line begins with the colouring that the root's setup makes of the empty board, and with Black to move.
abbrev pub first_state : Game → Node → GameState
first_state g root = let c = assigned g.size root (map (λ p. Empty) (points g.size)) in
    record { game = g; colouring = c; history = c ∷ []; mover = Black; passes = 0 }

-- What a node does: its turn, by the colour that makes it; otherwise its setup, and PL.
abbrev pub state_after : Node → GameState → Option (Colour × Ply) → Bool → GameState
state_after node s (Some turn) setup = next (record s { mover = turn.0 }) turn.1
state_after node s None true = let c = assigned s.game.size node s.colouring in
    record s { colouring = c; history = s.history ++ c ∷ []; mover = unwrap_or (player_at node) s.mover; passes = 0 }
state_after node s None false = record s { mover = unwrap_or (player_at node) s.mover }

abbrev pub after_node : GameState → Node → GameState
after_node s node = state_after node s (turn_at s.game.size node) (has_setup node)

-- The game that a problem node sets: TR names the targets, which are defended by the colour of their stones, and SQ names the
-- region.
abbrev pub game_at : ℕ → Node → List Cell → Game
game_at n node c = record { size = n; targets = targets_at n node; defender = colour_of c (targets_at n node); region = region_at n node }

-- The board has n rows, the problem node has the number k on the main line, and the walk up to it ends in this state.
pub record StandsFor (tree : GameTree) (s : GameState) : Type 0 where
  pub n : ℕ
  pub k : ℕ
  pub size : board_size (root_of tree) ≡ Some n
  pub node : problem_node tree ≡ Some k
  pub game : s.game ≡ game_at n (slice_index_or (main_line tree) k []) s.colouring
  pub state : fold after_node (first_state s.game (root_of tree)) (take (k + 1) (main_line tree)) ≡ s
