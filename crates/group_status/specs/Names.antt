-- Names of points, as at the edge of the board of n rows, and on what stones a proof depends.
use Rattle.std.specs.Prelude.{ℕ, List, [], ◌∷◌, ◌++◌, codes, length, nat_eq, if◌then◌else◌}
use Rattle.go_points.specs.declared.Colour.{Colour}
use Rattle.go_points.specs.declared.Colour.TheVariants.{Black, White}
use Rattle.go_points.specs.Gtp.{gtp_text}
use Rattle.go_points.specs.Place.{Place, on_board}

-- nothing for a point that the board does not have
abbrev pub name_text : ℕ → Place → List ℕ
name_text n p = if on_board n p then gtp_text n p else []

-- the points, the first of them after this text, and the others after commas
abbrev pub names_after : List ℕ → ℕ → List Place → List ℕ
names_after between n [] = []
names_after between n (p ∷ ps) = between ++ (name_text n p ++ names_after (codes ", ") n ps)

abbrev pub names_text : ℕ → List Place → List ℕ
names_text n ps = names_after [] n ps

-- whose stones the owner's are taken by
abbrev pub killer_text : Colour → List ℕ
killer_text Black = codes "white"
killer_text White = codes "black"

abbrev pub stones_text : List Place → List ℕ
stones_text ps = if nat_eq (length ps) 1 then codes "stone" else codes "stones"

abbrev pub have_text : List Place → List ℕ
have_text ps = if nat_eq (length ps) 1 then codes "has" else codes "have"

-- What stands after the word `proved`: nothing if nothing is supposed, else that these stones have liberties elsewhere.
abbrev pub condition_text : ℕ → Colour → List Place → List ℕ
condition_text n owner ps = if nat_eq (length ps) 0 then [] else
    (codes ", as long as the " ++ (killer_text owner ++ (codes " " ++ (stones_text ps ++ (codes " at " ++ (names_text n ps
    ++ (codes " " ++ (have_text ps ++ codes " liberties elsewhere"))))))))
