-- What single words stand for (GTP 2, "Simple entity types"), and the bytes of a reply ("Response structure").
--     colour_named word      the colour, in any letter case
--     turn_at n v      the turn at a vertex on a board of n rows; `None` off the board
--     turn_text n t      a turn as a vertex
--     success id text, failure id text      the bytes of a reply
use Rattle.std.specs.Prelude.{ℕ, ◌-◌, Bool, true, ◌&&◌, nat_lt, List, [], ◌∷◌, ◌++◌, codes, Option, Some, None, option_map, if◌then◌else◌}
use Rattle.std.specs.Str.{str_to_ascii_lowercase}
use Rattle.go_points.specs.declared.Colour.{Colour}
use Rattle.go_points.specs.declared.Turn.{Turn}
use Rattle.go_points.specs.declared.Turn.TheVariants as turn
use Rattle.go_points.specs.declared.vertex.Vertex.{Vertex}
use Rattle.go_points.specs.declared.vertex.Vertex.TheVariants as vertex
use Rattle.go_points.specs.Gtp.{gtp_text}
use Rattle.go_points.specs.Place.{Place, on_board, place_of}
use Rattle.go_points.specs.Ply.{Ply, pass, move}
use Rattle.tsumego_problem.specs.Values.{colour_named as colour_in_lower}

abbrev pub colour_named : List ℕ → Option Colour
colour_named word = colour_in_lower (str_to_ascii_lowercase word)

-- The rows of a vertex are counted from the bottom, and those of a board from the top.
abbrev pub place_at : ℕ → ℕ → ℕ → Option Place
place_at n column row = (if nat_lt column n && nat_lt row n then Some (record { row = n - 1 - row; column = column }) else None)

abbrev pub turn_at : ℕ → Vertex → Option Turn
turn_at n vertex.Pass = Some turn.Pass
turn_at n (vertex.At column row) = option_map (λ p. turn.At p) (place_at n column row)

-- Does a board of n rows have the point of the turn?
abbrev pub is_on_board : ℕ → Turn → Bool
is_on_board n turn.Pass = true
is_on_board n (turn.At p) = on_board n p

abbrev pub turn_text : ℕ → Ply → List ℕ
turn_text n pass = codes "pass"
turn_text n (move p) = gtp_text n (place_of n p)

-- "=" or "?", the id, a space and the text if there is one, and two line feeds.
abbrev pub spaced_text : List ℕ → List ℕ
spaced_text [] = []
spaced_text (c ∷ text) = 32 ∷ c ∷ text

abbrev pub reply_bytes : ℕ → List ℕ → List ℕ → List ℕ
reply_bytes mark id text = mark ∷ id ++ spaced_text text ++ 10 ∷ 10 ∷ []

abbrev pub success : List ℕ → List ℕ → List ℕ
success id text = reply_bytes 61 id text

abbrev pub failure : List ℕ → List ℕ → List ℕ
failure id text = reply_bytes 63 id text
