-- The lines that are read are those that the bytes spell, and no others are.
use Rattle.std.proofs.Common.{◌≡◌, ℕ, Bool, true, false, List, [], ◌∷◌, map, Option, Some, None, refl, sym, ◌∙◌, ap, ap₂, if◌then◌else◌}
use Rattle.target_game.specs.State.{GameProblem}
use Rattle.proof_cert.specs.Lines.{Line}
use Rattle.proof_cert.specs.Text.{spelling_of, is_spelled, line_bytes, line_of, line_of_piece, lines, pieces}
use Rattle.proof_cert.proofs.Texts.{line_of-written, line_of-is}
use Rattle.cert_check.specs.Verdict.{Verdict, verdict}
use Rattle.tsumego_replies.specs.Claims.{IsLineOf, AreLinesOf, HasVerdict}

-- what has these bytes as its spelling is read from them
spelt : (n : ℕ) (b : List ℕ) (l : Line) → spelling_of n l ≡ Some b → line_of n b ≡ Some l
spelt n b l h = go (is_spelled n (Some l)) refl h
  where
    go : (t : Bool) → is_spelled n (Some l) ≡ t → (if t then Some (line_bytes n l) else None) ≡ Some b → line_of n b ≡ Some l
    go true e h = let same : line_bytes n l ≡ b = cc h in ap (line_of n) (sym same) ∙ line_of-written n l e
    go false e h = absurd (cc h)

is_line : (n : ℕ) (p : List ℕ × Bool) → IsLineOf n p (line_of_piece n p)
is_line n p = go (p.1) refl
  where
    read : (o : Option Line) → line_of n p.0 ≡ o → p.1 ≡ true → IsLineOf n p o
    read (Some l) is ended = let h = line_of-is n p.0 l is in (ap (λ t. if t then Some (line_bytes n l) else None) h.0 ∙ ap Some h.1, ended)
    read None is ended = λ l spelled _. absurd (cc (sym is ∙ spelt n p.0 l spelled))

    go : (t : Bool) → p.1 ≡ t → IsLineOf n p (elim t [ true ↦ line_of n p.0 | false ↦ None ])
    go true e = read (line_of n p.0) refl e
    go false e = λ l spelled ended. absurd (cc (sym e ∙ ended))

pub are_lines : (n : ℕ) (ps : List (List ℕ × Bool)) → AreLinesOf n ps (map (line_of_piece n) ps)
are_lines n [] = tt
are_lines n (p ∷ ps) = (is_line n p, are_lines n ps)

one_line : (n : ℕ) (p : List ℕ × Bool) (o : Option Line) → IsLineOf n p o → o ≡ line_of_piece n p
one_line n p o h = go (p.1) refl o h
  where
    read : (o x : Option Line) → line_of n p.0 ≡ x → p.1 ≡ true → IsLineOf n p o → o ≡ x
    read (Some l) x is ended h = sym (spelt n p.0 l h.0) ∙ is
    read None None is ended h = refl
    read None (Some l) is ended h = let s = line_of-is n p.0 l is in absurd (h l (ap (λ t. if t then Some (line_bytes n l) else None) s.0 ∙ ap Some s.1) ended)

    go : (t : Bool) → p.1 ≡ t → (o : Option Line) → IsLineOf n p o → o ≡ elim t [ true ↦ line_of n p.0 | false ↦ None ]
    go true e o h = read o (line_of n p.0) refl e h
    go false e (Some l) h = absurd (cc (sym e ∙ h.1))
    go false e None h = refl

one_text : (n : ℕ) (ps : List (List ℕ × Bool)) (ls : List (Option Line)) → AreLinesOf n ps ls → ls ≡ map (line_of_piece n) ps
one_text n [] [] h = refl
one_text n [] (l ∷ ls) h = absurd h
one_text n (p ∷ ps) [] h = absurd h
one_text n (p ∷ ps) (l ∷ ls) h = ap₂ (λ a b. a ∷ b) (one_line n p l h.0) (one_text n ps ls h.1)

pub has_verdict : (q : GameProblem) (bytes : List ℕ) → HasVerdict q bytes (verdict q (lines q.game.size bytes))
has_verdict q bytes = (lines q.game.size bytes, are_lines q.game.size (pieces bytes), refl)

pub one_verdict : (q : GameProblem) (bytes : List ℕ) (v w : Verdict) → HasVerdict q bytes v → HasVerdict q bytes w → v ≡ w
one_verdict q bytes v w (ls, are, is) (ms, too, so) =
    let n = q.game.size in
    sym is ∙ ap (verdict q) (one_text n (pieces bytes) ls are ∙ sym (one_text n (pieces bytes) ms too)) ∙ so
