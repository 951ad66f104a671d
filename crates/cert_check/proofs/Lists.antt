-- Lists of colourings: what is tested of each, and their order.
use Rattle.cert_check.proofs.Common.{◌≡◌, ℕ, Bool, true, false, cond, not, ◌&&◌, ◌||◌, nat_eq, nat_lt, List, [], ◌∷◌, length, Option, Some, None, is_some, Ordering, Less, Equal, Greater, refl, sym, ap, ◌∙◌, arith, list_all, is_lt, Cell, text_order, has_occurred, cells_before, is_listed}
use Rattle.std.proofs.Common.{is_none}
use Rattle.std.specs.Ordering.{ordering_then}
use Rattle.go_points.specs.Text.{cell_code}
use Rattle.go_turns.specs.History.{place_in}
use Rattle.target_game.proofs.Playing.{occurred_place}

-- whether a colouring is known, by its place
pub known_by : (h : List (List Cell)) (c : List Cell) (o : Option ℕ) (b : Bool) → o ≡ place_in h c → is_some o ≡ b → not (has_occurred h c) ≡ not b
known_by h c o b at there = occurred_place h c ∙ sym (ap is_none at) ∙ go o b there
  where
    go : (o' : Option ℕ) (b' : Bool) → is_some o' ≡ b' → is_none o' ≡ not b'
    go None true e = absurd (cc)
    go None false e = refl
    go (Some p) true e = refl
    go (Some p) false e = absurd (cc)

not_inverts : (a b : Bool) → not a ≡ not b → a ≡ b
not_inverts true true e = refl
not_inverts true false e = absurd (cc)
not_inverts false true e = absurd (cc)
not_inverts false false e = refl

pub known_here : (h : List (List Cell)) (c : List Cell) (o : Option ℕ) (b : Bool) → o ≡ place_in h c → is_some o ≡ b → has_occurred h c ≡ b
known_here h c o b at there = not_inverts (has_occurred h c) b (known_by h c o b at there)

-- the order of colourings of one size
before_step : (l e : Bool) (o : Ordering) (b : Bool) → is_lt o ≡ b → is_lt (ordering_then (cond l Less (cond e Equal Greater)) o) ≡ (l || (e && b))
before_step true e o b h = refl
before_step false true o b h = h
before_step false false o b h = refl

pub before_is : (c d : List Cell) → length c ≡ length d → is_lt (text_order c d) ≡ cells_before c d
before_is [] [] long = refl
before_is [] (b ∷ d) long = absurd (omega arith)
before_is (a ∷ c) [] long = absurd (omega arith)
before_is (a ∷ c) (b ∷ d) long = before_step (nat_lt (cell_code a) (cell_code b)) (nat_eq (cell_code a) (cell_code b)) (text_order c d) (cells_before c d) (before_is c d (omega arith))

-- where there is no list, each is listed
pub all_free : (cs : List (List Cell)) → list_all (is_listed None) cs ≡ true
all_free [] = refl
all_free (c ∷ cs) = all_free cs
