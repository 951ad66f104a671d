-- The letters of points, one after the other.
use Rattle.std.proofs.Common.{◌≡◌, ℕ, List, [], ◌∷◌, ◌++◌, map, append_assoc, arith}
use Rattle.go_points.specs.Place.{Place}
use Rattle.go_points.specs.Sgf.{sgf_text}

pub letters_more : (values whole : List (List ℕ)) (old new : List Place) (p : Place) (v : List ℕ) → old ≡ p ∷ new → v ≡ sgf_text p → values ++ map sgf_text old ≡ whole
    → (values ++ v ∷ []) ++ map sgf_text new ≡ whole
letters_more values whole old new p v h e f = grind (arith, append_assoc)
