-- Where the defender's win may be told from the shape alone.
--     play_bound n      so many turns are always enough on a board of n rows
--     LivesAt g c      the colouring is one of the game's board, each of its stones reaches empty, and the targets live by their shape
--     Tells g shape      the test is passed by exactly those colourings
use Rattle.std.specs.Prelude.{◌≡◌, ℕ, ◌+◌, ◌*◌, ◌^◌, ◌↔◌, Bool, IsTrue, List, length}
use Rattle.go_points.specs.Liberty.{all_reach_empty}
use Rattle.go_points.specs.declared.Cell.{Cell}
use Rattle.target_game.specs.State.{Game}
use Rattle.pass_alive.specs.Life.{PassAlive}

-- Each of the points is empty, black or white, so there are 3 ^ (n * n) colourings. None comes back after a move, at most two passes
-- come before each move and after the last one, and the second pass in a row ends play.
abbrev pub play_bound : ℕ → ℕ
play_bound n = 3 * 3 ^ (n * n) + 2

pub record LivesAt (g : Game) (c : List Cell) : Type 0 where
  pub whole : length c ≡ g.size * g.size
  pub liberties : IsTrue (all_reach_empty g.size c)
  pub shape : PassAlive g c

abbrev pub Tells : Game → (List Cell → Bool) → Type 0
Tells g shape = (c : List Cell) → IsTrue (shape c) ↔ LivesAt g c
