-- Worked examples of records, computed by the definitions.
use Rattle.go_turns.proofs.Common.{◌≡◌, List, [], ◌∷◌, Option, Some, None, Result, Ok, Err, refl, Colour, Black, White, Cell, Empty, neighbours, reaches, clear, after_move, Ply, move, TurnFault, Occupied, OffBoard, Moment, after_play, colouring_of}
use Rattle.std.proofs.Common.{replicate, codes}
use Rattle.go_points.specs.Reach.{reaches_within}
use Rattle.go_points.specs.Text.{cells_of}
use Rattle.go_turns.specs.declared.fault.TurnFault.TheVariants.{Repeats}

abbrev opening : Moment
opening = record { history = replicate 9 Empty ∷ []; place = 0; passes = 0; last_colour = None }

-- plays in a row on 3 by 3, up to the first refusal
abbrev plays : Moment → List (Colour × Ply) → Result Moment TurnFault
plays m [] = Ok m
plays m (t ∷ ts) = elim (after_play 3 m t.0 t.1) [ Ok n ↦ plays n ts | Err fault ↦ Err fault ]

abbrev shown : Result Moment TurnFault → Option (List Cell)
shown (Ok m) = Some (colouring_of m)
shown (Err fault) = None

-- Black ba, White ca, Black ab, White bb, White aa, which takes ba: `O.OXO....`
abbrev taken : List (Colour × Ply)
taken = (Black, move 1) ∷ (White, move 2) ∷ (Black, move 3) ∷ (White, move 4) ∷ (White, move 0) ∷ []

ba_is_taken : shown (plays opening taken) ≡ cells_of (codes "O.OXO....")
unfolding neighbours reaches_within reaches clear after_move
ba_is_taken = refl

-- Black's ba would take aa back and give the colouring that stood after White bb, the fourth after the opening
ba_repeats : plays opening ((Black, move 1) ∷ (White, move 2) ∷ (Black, move 3) ∷ (White, move 4) ∷ (White, move 0) ∷ (Black, move 1) ∷ []) ≡ Err (Repeats 4)
unfolding neighbours reaches_within reaches clear after_move
ba_repeats = refl

-- Black aa, White ab, White bb, White ca, Black ba: a suicide of two stones, which is legal
two_stones : shown (plays opening ((Black, move 0) ∷ (White, move 3) ∷ (White, move 4) ∷ (White, move 2) ∷ (Black, move 1) ∷ [])) ≡ cells_of (codes "..OOO....")
unfolding neighbours reaches_within reaches clear after_move
two_stones = refl

-- White ba then, and Black's aa would be a suicide of one stone, which repeats the present colouring
one_stone : plays opening ((Black, move 0) ∷ (White, move 3) ∷ (White, move 4) ∷ (White, move 2) ∷ (Black, move 1) ∷ (White, move 1) ∷ (Black, move 0) ∷ []) ≡ Err (Repeats 6)
unfolding neighbours reaches_within reaches clear after_move
one_stone = refl

-- an occupied point, and one off the board
occupied : plays opening ((Black, move 0) ∷ (White, move 0) ∷ []) ≡ Err Occupied
unfolding neighbours reaches_within reaches clear after_move
occupied = refl

off_board : plays opening ((Black, move 9) ∷ []) ≡ Err OffBoard
off_board = refl
