-- What a key alone tells of a move. This definition is for private calls only: no public clause rests on it.
use Rattle.std.specs.Prelude.{◌≡◌, ℕ, false, slice_set}
use Rattle.go_points.specs.declared.Cell.TheVariants.{Stone}
use Rattle.go_points.specs.Move.{after_move}
use Rattle.go_turns.specs.History.{has_occurred}
use Rattle.stone_key.specs.Key.{key_of}
use Rattle.target_game.specs.State.{GameState}

-- A move changes no other point, and its colouring, which has this key, has not occurred.
pub record IsNewKey (s : GameState) (p key : ℕ) : Type 0 where
  pub quiet : after_move s.game.size s.colouring s.mover p ≡ slice_set s.colouring p (Stone s.mover)
  pub is_key : key ≡ key_of (after_move s.game.size s.colouring s.mover p)
  pub fresh : has_occurred s.history (after_move s.game.size s.colouring s.mover p) ≡ false
