-- What is told of the state after a turn.
use Rattle.target_game.proofs.Common.{◌≡◌, Bool, true, false, if◌then◌else◌, Option, Some, None, is_some, refl, subst, Ply, key_of, Child, GameState, legal, next, over}
use Rattle.target_game.specs.Child.{child_of}

abbrev child_at : GameState → Ply → Child
child_at s t = record { key = key_of (next s t).colouring; winner = over (next s t) }

-- what an answer says of the state after a turn
abbrev Tells : GameState → Ply → Option Child → Type 0
Tells s t None = legal s t ≡ false
Tells s t (Some k) = (legal s t ≡ true) × (k.winner ≡ over (next s t))

told : (s : GameState) (t : Ply) (b : Bool) → legal s t ≡ b → Tells s t (if b then Some (child_at s t) else None)
told s t true e = (e, refl)
told s t false e = e

tells : (s : GameState) (t : Ply) → Tells s t (child_of s t)
tells s t = told s t (legal s t) refl

pub child_winner : (s : GameState) (t : Ply) (k : Child) → child_of s t ≡ Some k → k.winner ≡ over (next s t)
child_winner s t k e = (subst (λ r. Tells s t r) e (tells s t)).1

pub child_is : (s : GameState) (t : Ply) → is_some (child_of s t) ≡ legal s t
child_is s t = go (legal s t)
  where
    go : (b : Bool) → is_some (if b then Some (child_at s t) else None) ≡ b
    go true = refl
    go false = refl
