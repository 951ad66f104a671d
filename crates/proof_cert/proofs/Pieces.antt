-- The first line of a text, by the place of its line feed.
use Rattle.proof_cert.proofs.Common.{◌≡◌, ℕ, suc, ◌+◌, ◌-◌, ◌<◌, ◌≤◌, Bool, true, false, cond, not, nat_eq, nat_lt, ltb-true, ltb-false, List, [], ◌∷◌, length, map, take, drop, Option, Some, None, position, refl, ◌∙◌, ap, arith, position_or_len, with_byte, lines, pieces, line_of_piece, line_of, rest_is}
use Rattle.std.proofs.Math.Seq.{drop-length}

abbrev pub place : List ℕ → ℕ
place b = position_or_len (λ x. nat_eq x 10) b

pieces_at : (b : List ℕ) → place b < length b → pieces b ≡ (take (place b) b, true) ∷ pieces (drop (suc (place b)) b)
pieces_at [] h = absurd (omega arith)
pieces_at (x ∷ b) h = go (nat_eq x 10) h (pieces_at b)
  where
    go : (t : Bool) → cond (not t) (1 + place b) 0 < suc (length b) → (place b < length b → pieces b ≡ (take (place b) b, true) ∷ pieces (drop (suc (place b)) b))
        → ◌≡◌ {A = List (List ℕ × Bool)} (elim t [ true ↦ ([], true) ∷ pieces b | false ↦ with_byte x (pieces b) ]) ((take (cond (not t) (1 + place b) 0) (x ∷ b), true) ∷ pieces (drop (suc (cond (not t) (1 + place b) 0)) (x ∷ b)))
    go true h' more = refl
    go false h' more =
        let next : suc (place b) ≡ 1 + place b = omega arith in
        ap (with_byte x) (more (omega arith)) ∙ ap (λ j. (take j (x ∷ b), true) ∷ pieces (drop (suc j) (x ∷ b))) next

pieces_none : (b : List ℕ) → length b ≤ place b → 0 < length b → pieces b ≡ (b, false) ∷ []
pieces_none [] h some = absurd (omega arith)
pieces_none (x ∷ b) h some = go (nat_eq x 10) h (λ h'. rest b (pieces_none b h'))
  where
    rest : (c : List ℕ) → (0 < length c → pieces c ≡ (c, false) ∷ []) → with_byte x (pieces c) ≡ (x ∷ c, false) ∷ []
    rest [] more = refl
    rest (y ∷ c) more = ap (with_byte x) (more (omega arith))

    go : (t : Bool) → suc (length b) ≤ cond (not t) (1 + place b) 0 → (length b ≤ place b → with_byte x (pieces b) ≡ (x ∷ b, false) ∷ [])
        → ◌≡◌ {A = List (List ℕ × Bool)} (elim t [ true ↦ ([], true) ∷ pieces b | false ↦ with_byte x (pieces b) ]) ((x ∷ b, false) ∷ [])
    go true h' more = absurd (omega arith)
    go false h' more = more (omega arith)

pub first_read : (n : ℕ) (b : List ℕ) (k : ℕ) → position (λ x. nat_eq x 10) b ≡ Some k → lines n b ≡ line_of n (take k b) ∷ lines n (drop (k + 1) b)
first_read n b k e = go (nat_lt (place b) (length b)) refl e
  where
    go : (t : Bool) → nat_lt (place b) (length b) ≡ t → cond t (Some (place b)) None ≡ Some k → lines n b ≡ line_of n (take k b) ∷ lines n (drop (k + 1) b)
    go false low e' = absurd (cc)
    go true low e' =
        let same : place b ≡ k = cc e' in
        let next : suc k ≡ k + 1 = omega arith in
        ap (λ ps. map (line_of_piece n) ps) (pieces_at b (ltb-true (place b) (length b) low) ∙ ap (λ j. (take j b, true) ∷ pieces (drop (suc j) b)) same ∙ ap (λ j. (take k b, true) ∷ pieces (drop j b)) next)

pub unended_read : (n : ℕ) (b : List ℕ) → position (λ x. nat_eq x 10) b ≡ None → 0 < length b → lines n b ≡ None ∷ []
unended_read n b e some = go (nat_lt (place b) (length b)) refl e
  where
    go : (t : Bool) → nat_lt (place b) (length b) ≡ t → ◌≡◌ {A = Option ℕ} (cond t (Some (place b)) None) None → lines n b ≡ None ∷ []
    go true low e' = absurd (cc)
    go false low e' = ap (λ ps. map (line_of_piece n) ps) (pieces_none b (ltb-false (place b) (length b) low) some)

pub rest_none : (b : List ℕ) → take (length b - length b) (drop (length b) b) ≡ []
rest_none b = rest_is b (length b) ∙ drop-length b
