-- The letters of a turn that the board has.
use Rattle.proof_cert.proofs.Common.{◌≡◌, ℕ, ◌+◌, ◌*◌, ◌/◌, ◌%◌, ◌<◌, Bool, true, false, cond, nat_lt, ltb-true, [], ◌∷◌, IsTrue, sym, ap, ◌∙◌, refl, arith, At, ply_of, move, turn_fits, vertex_text}
use Rattle.std.proofs.lemmas.Nat.{div-mul-add, mod-mul-add}
use Rattle.go_points.specs.Place.{Place, on_board, number_of}
use Rattle.go_points.specs.Sgf.{sgf_text}
use Rattle.proof_cert.proofs.Words.{and_second}

pub letters_of : (n : ℕ) (p : Place) → IsTrue (turn_fits n (ply_of n (At p))) → sgf_text p ≡ vertex_text n (ply_of n (At p))
letters_of n p fits = go (on_board n p) refl fits
  where
    go : (t : Bool) → on_board n p ≡ t → IsTrue (turn_fits n (move (cond t (number_of n p) (n * n)))) → sgf_text p ≡ vertex_text n (move (cond t (number_of n p) (n * n)))
    go false e fits' = let less : n * n < n * n = ltb-true (n * n) (n * n) fits' in absurd (omega arith)
    go true e fits' =
        let within : p.column < n = ltb-true p.column n (and_second (nat_lt p.row n) (nat_lt p.column n) e) in
        let column : (p.row * n + p.column) % n ≡ p.column = mod-mul-add p.row n p.column within in
        let row : (p.row * n + p.column) / n ≡ p.row = div-mul-add p.row n p.column within in
        ap (λ x. (97 + p.column) ∷ (97 + x) ∷ []) (sym row) ∙ ap (λ x. (97 + x) ∷ (97 + (p.row * n + p.column) / n) ∷ []) (sym column)
