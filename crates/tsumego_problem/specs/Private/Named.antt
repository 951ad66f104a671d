-- Sets of points by the numbers of their points: definitions for the private calls that read points.
use Rattle.std.specs.Prelude.{◌≡◌, ℕ, Bool, true, false, List, ◌++◌, Option, Some, None}
use Rattle.go_points.specs.Place.{Place}
use Rattle.go_points.specs.Points.{places_that}
use Rattle.target_game.specs.Legal.{holds_point}

-- the set of the points of a board of n rows with these numbers
abbrev pub points_in : ℕ → List ℕ → List Place
points_in n ps = places_that n (holds_point ps)

-- The set has gained the points with these numbers.
abbrev pub Gains : ℕ → List ℕ → List Place → List Place → Type 0
Gains n qs old new = (ps : List ℕ) → old ≡ points_in n ps → new ≡ points_in n (ps ++ qs)

-- If there are points, the answer is yes and the set has gained them; otherwise it is no.
abbrev pub Adds : ℕ → Option (List ℕ) → Bool → List Place → List Place → Type 0
Adds n (Some qs) answer old new = (answer ≡ true) × Gains n qs old new
Adds n None answer old new = answer ≡ false
