-- One pass over the tree of all legal play, as the program makes it: who wins in the part that was seen, and how many more states are allowed.
use Rattle.std.specs.Prelude.{ℕ, ◌-◌, Bool, not, ◌&&◌, ◌||◌, nat_lt, List, sum_by, if◌then◌else◌, Option, Some, None}
use Rattle.go_points.specs.declared.Colour.{Colour}
use Rattle.go_points.specs.declared.Colour.TheVariants.{Black, White}
use Rattle.go_points.specs.Grid.{same_colour}
use Rattle.go_points.specs.Ply.{Ply}
use Rattle.target_game.specs.declared.tally.Tally.{Tally}
use Rattle.target_game.specs.State.{GameState}
use Rattle.target_game.specs.Next.{next}
use Rattle.target_game.specs.Wins.{some_or_each, wins, nodes}

-- The tally of the tree of at most k turns; `None` if it has more states than allowed.
unfoldable pub tally_of : GameState → ℕ → ℕ → Option Tally
tally_of s k allowed = (if nat_lt allowed (nodes s k) then None else Some (record { left = allowed - nodes s k; black = wins Black s k; white = wins White s k }))

-- At x's own move either is enough; at the other side's move both are needed.
abbrev pub either_or_both : Bool → Bool → Bool → Bool
either_or_both own a b = (if own then a || b else a && b)

-- Before any turn of the mover, nothing is won by the mover and everything by the other side.
abbrev pub before_turns : Colour → ℕ → Tally
before_turns mover left = record { left = left; black = not (same_colour mover Black); white = not (same_colour mover White) }

-- What is known of some turns of the mover, together with the tally below one more.
abbrev pub with_below : Colour → Tally → Tally → Tally
with_below mover seen below = record {
  left = below.left;
  black = either_or_both (same_colour mover Black) seen.black below.black;
  white = either_or_both (same_colour mover White) seen.white below.white;
}

-- The tally with the trees of at most k turns below all these turns; `None` if they have more states than are left.
unfoldable pub with_turns : GameState → ℕ → List Ply → Tally → Option Tally
with_turns s k turns seen = (if nat_lt seen.left (sum_by (λ t. nodes (next s t) k) turns) then None else Some (record {
  left = seen.left - sum_by (λ t. nodes (next s t) k) turns;
  black = either_or_both (same_colour s.mover Black) seen.black (some_or_each (same_colour s.mover Black) (λ t. wins Black (next s t) k) turns);
  white = either_or_both (same_colour s.mover White) seen.white (some_or_each (same_colour s.mover White) (λ t. wins White (next s t) k) turns);
}))
