-- Points in SGF's letters, there and back.
use Rattle.std.proofs.Common.{◌≡◌, ℕ, ◌+◌, ◌-◌, ◌<◌, ◌≤◌, Bool, true, false, ◌&&◌, cond, nat_le, nat_lt, leb-true, ltb-true, List, [], ◌∷◌, Some, None, refl, sym, ◌∙◌, ap, ap₂, subst, arith}
use Rattle.std.proofs.lemmas.Bool.{lt-ltb, le-leb}
use Rattle.go_points.specs.Place.{Place, IsOn}
use Rattle.go_points.specs.Sgf.{is_letter, sgf_place, sgf_text}
use Rattle.go_points.proofs.Lists.{and_left, and_right, and_both, some_same, none_some}

letter_of : (n k : ℕ) → k < n → is_letter n (97 + k) ≡ true
letter_of n k low = and_both _ _ (le-leb 97 (97 + k) (omega arith)) (lt-ltb (97 + k - 97) n (omega arith))

letter_back : (k : ℕ) → 97 + k - 97 ≡ k
letter_back k = omega arith

pub letters_read_back : (n : ℕ) (p : Place) → IsOn n p → sgf_place n (sgf_text p) ≡ Some p
letters_read_back n p on =
    ap (λ b. cond b (Some (record { row = 97 + p.row - 97; column = 97 + p.column - 97 })) None) (and_both _ _ (letter_of n p.column on.column_within) (letter_of n p.row on.row_within))
    ∙ ap Some (λ i. record { row = letter_back p.row i; column = letter_back p.column i })

letter_low : (n x : ℕ) → is_letter n x ≡ true → 97 ≤ x
letter_low n x h = leb-true 97 x (and_left (nat_le 97 x) (nat_lt (x - 97) n) h)

letter_within : (n x : ℕ) → is_letter n x ≡ true → x - 97 < n
letter_within n x h = ltb-true (x - 97) n (and_right (nat_le 97 x) (nat_lt (x - 97) n) h)

there : (x : ℕ) → 97 ≤ x → 97 + (x - 97) ≡ x
there x h = omega arith

pub points_have_their_letters : (n : ℕ) (text : List ℕ) (p : Place) → sgf_place n text ≡ Some p → IsOn n p × (sgf_text p ≡ text)
points_have_their_letters n [] p e = absurd (none_some p e)
points_have_their_letters n (x ∷ []) p e = absurd (none_some p e)
points_have_their_letters n (x ∷ y ∷ z ∷ more) p e = absurd (none_some p e)
points_have_their_letters n (x ∷ y ∷ []) p e = go (is_letter n x && is_letter n y) refl e
  where
    on : is_letter n x ≡ true → is_letter n y ≡ true → IsOn n (record { row = y - 97; column = x - 97 })
    on is_x is_y = record { row_within = letter_within n y is_y; column_within = letter_within n x is_x }

    go : (b : Bool) → (is_letter n x && is_letter n y) ≡ b → cond b (Some (record { row = y - 97; column = x - 97 })) None ≡ Some p → IsOn n p × (sgf_text p ≡ x ∷ y ∷ [])
    go false is h = absurd (none_some p h)
    go true is h =
        let is_x = and_left (is_letter n x) (is_letter n y) is in
        let is_y = and_right (is_letter n x) (is_letter n y) is in
        let same : record { row = y - 97; column = x - 97 } ≡ p = some_same _ p h in (
          subst (IsOn n) same (on is_x is_y),
          ap sgf_text (sym same) ∙ ap₂ (λ a b. a ∷ b ∷ []) (there x (letter_low n x is_x)) (there y (letter_low n y is_y)),
        )
