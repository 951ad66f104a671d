-- Vertices as GTP writes them, there and back.
use Rattle.std.proofs.Common.{◌≡◌, ℕ, ◌+◌, ◌-◌, ◌/◌, ◌%◌, ◌<◌, ◌≤◌, Bool, true, false, ◌&&◌, cond, nat_eq, nat_lt, [], ◌∷◌, Some, codes, refl, ◌∙◌, ap, ap₂, arith}
use Rattle.std.specs.Char.{to_ascii_lowercase}
use Rattle.std.specs.Str.{bytes_eq, str_to_ascii_lowercase}
use Rattle.go_points.specs.Place.{Place, IsOn}
use Rattle.go_points.specs.Gtp.{column_named, row_named, vertex_at, vertex_named, column_letter, row_digits, gtp_text}
use Rattle.go_points.specs.declared.vertex.Vertex.TheVariants.{Pass, At}

letter_back : (c : ℕ) → c < 25 → column_named (to_ascii_lowercase (column_letter c)) ≡ Some c
letter_back c low = grind arith

row_back : (r : ℕ) → 1 ≤ r → r ≤ 25 → row_named (row_digits r) ≡ Some (r - 1)
row_back r least most = grind arith

two : (a b : Bool) → (a && (b && false)) ≡ false
two true true = refl
two true false = refl
two false b = refl

three : (a b c : Bool) → (a && (b && (c && false))) ≡ false
three true b c = two b c
three false b c = refl

-- a text of two or three bytes is not the word
pass_not : (c : ℕ) (r : ℕ) → bytes_eq (str_to_ascii_lowercase (c ∷ row_digits r)) (codes "pass") ≡ false
pass_not c r = go (nat_lt r 10)
  where
    go : (b : Bool) → bytes_eq (str_to_ascii_lowercase (c ∷ cond b ((48 + r) ∷ []) ((48 + r / 10) ∷ (48 + r % 10) ∷ []))) (codes "pass") ≡ false
    go true = two (nat_eq (to_ascii_lowercase c) 112) (nat_eq (to_ascii_lowercase (48 + r)) 97)
    go false = three (nat_eq (to_ascii_lowercase c) 112) (nat_eq (to_ascii_lowercase (48 + r / 10)) 97) (nat_eq (to_ascii_lowercase (48 + r % 10)) 115)

pub vertices_read_back : (n : ℕ) (p : Place) → IsOn n p → n ≤ 25 → vertex_named (gtp_text n p) ≡ Some (At p.column (n - 1 - p.row))
vertices_read_back n p on most =
    let low = on.row_within in
    let column = on.column_within in
    let row : n - p.row - 1 ≡ n - 1 - p.row = omega (arith, low) in
    ap (λ b. cond b (Some Pass) (vertex_at (column_named (to_ascii_lowercase (column_letter p.column))) (row_named (row_digits (n - p.row))))) (pass_not (column_letter p.column) (n - p.row))
    ∙ ap₂ vertex_at (letter_back p.column (omega (arith, column, most))) (row_back (n - p.row) (omega (arith, low)) (omega (arith, most)))
    ∙ ap (λ r. Some (At p.column r)) row
