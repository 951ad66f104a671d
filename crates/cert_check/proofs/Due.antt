-- The turn that is due and the turn that is given.
use Rattle.cert_check.proofs.Common.{◌≡◌, ℕ, zero, suc, not, ◌*◌, ◌<◌, Bool, true, false, ◌&&◌, nat_eq, nat_lt, IsTrue, eqb-true, ltb-true, [], ◌∷◌, refl, sym, ap, ◌∙◌, arith, if◌then◌else◌, Empty, same_cell, cell_at, after_move, has_occurred, Place, Turn, Pass, At, Ply, pass, move, ply_of, same_ply, GameState, legal, holds_point, turn_fits}
use Rattle.std.specs.List.{All}
use Rattle.go_points.specs.Place.{IsOn, on_board, number_of}
use Rattle.go_points.specs.Points.{same_place}
use Rattle.go_points.specs.Equal.{same_place_decides}
use Rattle.target_game.proofs.Playing.{holds_numbered}
use Rattle.cert_check.proofs.Members.{and_first}
use Rattle.go_turns.proofs.Turns.{is_on_from}
use Rattle.std.proofs.Math.Bool.{or-false}

apart : (n : ℕ) (p q : Place) → IsOn n p → IsOn n q → (p ≡ q → ⊥) → nat_eq (number_of n p) (number_of n q) ≡ false
apart n p q on_p on_q other =
    sym (or-false (nat_eq (number_of n p) (number_of n q)))
    ∙ holds_numbered n (q ∷ []) p at on_p
    ∙ or-false (same_place p q) ∙ go (same_place p q) refl
  where
    at : All (IsOn n) (q ∷ [])
    at zero d low = on_q
    at (suc k) d low = absurd (omega arith)

    go : (b : Bool) → same_place p q ≡ b → b ≡ false
    go true e = absurd (other ((same_place_decides p q).0 e))
    go false e = refl

pub turns_apart : (n : ℕ) (due given : Turn) → IsTrue (turn_fits n (ply_of n due)) → (given ≡ due → ⊥) → same_ply (ply_of n due) (ply_of n given) ≡ false
turns_apart n Pass Pass fits other = absurd (other refl)
turns_apart n Pass (At q) fits other = refl
turns_apart n (At p) Pass fits other = refl
turns_apart n (At p) (At q) fits other = go (on_board n p) refl (on_board n q) refl fits
  where
    go : (a : Bool) → on_board n p ≡ a → (b : Bool) → on_board n q ≡ b → IsTrue (nat_lt (if a then number_of n p else n * n) (n * n))
        → nat_eq (if a then number_of n p else n * n) (if b then number_of n q else n * n) ≡ false
    go false e b f h = absurd (let low = ltb-true (n * n) (n * n) h in omega arith)
    go true e true f h = apart n p q (is_on_from n p e) (is_on_from n q f) (λ same. other (ap At (sym same)))
    go true e false f h = no (nat_eq (number_of n p) (n * n)) refl
      where
        no : (c : Bool) → nat_eq (number_of n p) (n * n) ≡ c → c ≡ false
        no true g = absurd (let low : number_of n p < n * n = ltb-true (number_of n p) (n * n) h in let same : number_of n p ≡ n * n = eqb-true (number_of n p) (n * n) g in omega arith)
        no false g = refl

-- a legal turn is one of the board
pub legal_fits : (s : GameState) (t : Ply) → IsTrue (legal s t) → IsTrue (turn_fits s.game.size t)
legal_fits s pass h = refl
legal_fits s (move p) h =
    let on : Bool = nat_lt p (s.game.size * s.game.size) in
    let held : Bool = holds_point s.game.region p in
    let empty : Bool = same_cell (cell_at s.colouring p) Empty in
    and_first on held (and_first (on && held) empty (and_first (on && held && empty) (not (has_occurred s.history (after_move s.game.size s.colouring s.mover p))) h))
