-- A turn of the game, by the numbers of the points: a pass, or a move (Tromp-Taylor rules).
use Rattle.std.specs.Prelude.{ℕ, ◌*◌, Bool, true, false, nat_eq, List, if◌then◌else◌}
use Rattle.std.specs.List.{list_any}
use Rattle.go_points.specs.declared.Turn.{Turn}
use Rattle.go_points.specs.declared.Turn.TheVariants.{Pass, At}
use Rattle.go_points.specs.Place.{on_board, number_of}

pub data Ply : Type 0 where
  pass : Ply
  move : ℕ → Ply

-- Are two turns the same?
abbrev pub same_ply : Ply → Ply → Bool
same_ply pass pass = true
same_ply (move p) (move q) = nat_eq p q
same_ply _ _ = false

-- Is the turn in the list?
abbrev pub holds_ply : List Ply → Ply → Bool
holds_ply turns t = list_any (same_ply t) turns

-- What a turn of the program is on a board of n rows and n columns. A move off the board gets a number that no point has, so no rule allows it.
abbrev pub ply_of : ℕ → Turn → Ply
ply_of n Pass = pass
ply_of n (At p) = move (if on_board n p then number_of n p else n * n)
