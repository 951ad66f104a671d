-- A set of turns, and the list that it stands for.
use Rattle.solution_tree.proofs.Common.{◌≡◌, ℕ, ◌*◌, Bool, true, false, ◌||◌, nat_eq, nat_lt, eq-eqb, List, [], ◌∷◌, ◌++◌, refl, sym, ◌∙◌, ap, subst, arith, list_any-append, Turn, Ply, pass, move, same_ply, holds_ply, ply_of, and_left, and_right, GameState, legal, Tells}
use Rattle.std.proofs.Common.{◌/◌, ◌%◌, if◌then◌else◌, eqb-true, ltb-true, ap₂}
use Rattle.std.proofs.lemmas.Nat.{div-mul-add, mod-mul-add}
use Rattle.go_points.specs.declared.Turn.TheVariants.{Pass, At}
use Rattle.go_points.specs.Place.{Place, IsOn, on_board, number_of}
use Rattle.go_points.specs.Points.{same_place, with_place}
use Rattle.go_points.specs.Equal.{same_place_decides}
use Rattle.go_points.proofs.Membership.{sets_gain}
use Rattle.target_game.specs.Legal.{holds_point}
use Rattle.target_game.proofs.Playing.{ply_at}
use Rattle.tsumego_problem.specs.Walked.{StandsOn}
use Rattle.solution_tree.specs.declared.given.Given.{Given}
use Rattle.go_points.proofs.Anywhere.{same_tests}

-- a turn that stands on the board is at a point of it
pub point_on : (n : ℕ) (p : Place) → StandsOn n (ply_of n (At p)) → IsOn n p
point_on n p h = go (on_board n p) refl h
  where
    go : (b : Bool) → on_board n p ≡ b → StandsOn n (move (if b then number_of n p else n * n)) → IsOn n p
    go true e h = record { row_within = ltb-true p.row n (and_left (nat_lt p.row n) (nat_lt p.column n) e); column_within = ltb-true p.column n (and_right (nat_lt p.row n) (nat_lt p.column n) e) }
    go false e h = absurd (omega (arith, h))

same_number : (n : ℕ) (p q : Place) → IsOn n p → IsOn n q → number_of n p ≡ number_of n q → p ≡ q
same_number n p q on other e =
    let r : p.row ≡ q.row = sym (div-mul-add p.row n p.column on.column_within) ∙ ap (λ k. k / n) e ∙ div-mul-add q.row n q.column other.column_within in
    let k : p.column ≡ q.column = sym (mod-mul-add p.row n p.column on.column_within) ∙ ap (λ k. k % n) e ∙ mod-mul-add q.row n q.column other.column_within in
    λ i. record { row = r i; column = k i }

-- two points of the board have one number where they are the same
same_point : (n : ℕ) (p q : Place) → IsOn n p → IsOn n q → same_place q p ≡ nat_eq (number_of n q) (number_of n p)
same_point n p q on other =
    same_tests (same_place q p) (nat_eq (number_of n q) (number_of n p))
    (λ h. eq-eqb (number_of n q) (number_of n p) (ap (number_of n) ((same_place_decides q p).0 h)))
    (λ h. (same_place_decides q p).1 (same_number n q p other on (eqb-true (number_of n q) (number_of n p) h)))

or_none : (a : Bool) → a ≡ (a || (false || false))
or_none true = refl
or_none false = refl

or_last : (a b : Bool) → (b || a) ≡ (a || (b || false))
or_last true true = refl
or_last true false = refl
or_last false true = refl
or_last false false = refl

-- the set with a move
pub move_told : (n : ℕ) (points : List Place) (b : Bool) (p : Place) (ts : List Ply) → StandsOn n (ply_of n (At p)) → Tells n (record { points = points; pass = b }) ts
    → Tells n (record { points = with_place points p; pass = b }) (ts ++ ply_of n (At p) ∷ [])
move_told n points b p ts on had Pass h = had Pass h ∙ or_none (holds_ply ts pass) ∙ sym (list_any-append (same_ply pass) ts (ply_of n (At p) ∷ []))
move_told n points b p ts on had (At q) h =
    let t = ply_of n (At q) in
    let here : IsOn n p = point_on n p on in
    let there : IsOn n q = point_on n q h in
    let test : same_place q p ≡ same_ply t (ply_of n (At p)) = same_point n p q here there ∙ sym (ap₂ same_ply (ply_at n q there) (ply_at n p here)) in
    sets_gain points p q
    ∙ ap₂ (λ a c. a || c) test (had (At q) h)
    ∙ or_last (holds_ply ts t) (same_ply t (ply_of n (At p)))
    ∙ sym (list_any-append (same_ply t) ts (ply_of n (At p) ∷ []))

-- a legal turn stands on the board
pub legal_stands : (s : GameState) (t : Ply) → legal s t ≡ true → StandsOn s.game.size t
legal_stands s pass fine = tt
legal_stands s (move p) fine = ltb-true p (s.game.size * s.game.size) (and_left (nat_lt p (s.game.size * s.game.size)) (holds_point s.game.region p) (and_left _ _ (and_left _ _ fine)))

pub move_put : (n : ℕ) (g : Given) (t : Turn) (p : Place) (points : List Place) (ts : List Ply) → t ≡ At p → points ≡ with_place g.points p → StandsOn n (ply_of n t) → Tells n g ts
    → Tells n (record { points = points; pass = g.pass }) (ts ++ ply_of n t ∷ [])
move_put n g t p points ts is put on had =
    subst (λ (u : Turn). Tells n (record { points = points; pass = g.pass }) (ts ++ ply_of n u ∷ [])) (sym is)
    (subst (λ ps. Tells n (record { points = ps; pass = g.pass }) (ts ++ ply_of n (At p) ∷ [])) (sym put)
    (move_told n g.points g.pass p ts (subst (λ (u : Turn). StandsOn n (ply_of n u)) is on) had))
