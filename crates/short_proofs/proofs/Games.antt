-- Turns stay in the game.
use Rattle.std.proofs.Common.{◌≡◌, Option, Some, None, refl, rules}
use Rattle.go_points.specs.declared.Colour.{Colour}
use Rattle.go_points.specs.Ply.{Ply}
use Rattle.target_game.specs.State.{GameState}
use Rattle.target_game.specs.Next.{next}
use Rattle.sgf_text.specs.Trees.{Node}
use Rattle.solution_tree.specs.Audit.{after_turn}
use Rattle.solution_tree.specs.Below.{carried}
use Rattle.short_proofs.specs.Sound.{state_after}

next_game : (s : GameState) (t : Ply) → (next s t).game ≡ s.game
next_game s t = search rules

game_then : (s : GameState) (o : Option (Colour × Ply)) → (after_turn s o).game ≡ s.game
game_then s None = refl
game_then s (Some m) = next_game s m.1

pub game_after : (s : GameState) (node : Node) → (state_after s node).game ≡ s.game
game_after s node = game_then s (carried s.game.size node)
