-- The line that bytes spell, by the word at their front: no two words begin alike.
use Rattle.proof_cert.proofs.Common.{◌≡◌, ℕ, Bool, true, false, nat_eq, List, [], ◌∷◌, eqb-true, Option, Some, None, codes, refl, sym, Line, main_line, won_line, end_line, after_word, at_end, header_tail, or_else, body_line_of, other_line_of}
use Rattle.std.proofs.Common.{is_some}

pub or_none : {A : Type 0} (o : Option A) → or_else o None ≡ o
or_none None = refl
or_none (Some a) = refl

-- a word at the front, and then what follows its first letter

pub line_tsucert : (n : ℕ) (b r : List ℕ) → after_word (codes "tsucert ") b ≡ Some r → other_line_of n b ≡ header_tail r
line_tsucert n [] r e = absurd (cc)
line_tsucert n (x ∷ b) r e = go (nat_eq 116 x) refl e
  where
    go : (t : Bool) → nat_eq 116 x ≡ t → elim t [ true ↦ after_word (codes "sucert ") b | false ↦ None ] ≡ Some r → other_line_of n (x ∷ b) ≡ header_tail r
    go false t e' = absurd (cc)
    go true t e' = rw (sym (eqb-true 116 x t), e') (or_none (header_tail r))

-- a word that is not the whole
pub not_whole : (l : Line) (o : Option (List ℕ)) → is_some (at_end true o) ≡ false → at_end l o ≡ None
not_whole l None e = refl
not_whole l (Some []) e = absurd (cc)
not_whole l (Some (x ∷ b)) e = refl

-- where none of the words stands at the front
pub other_none : (n : ℕ) (b : List ℕ)
    → after_word (codes "tsucert ") b ≡ None → after_word (codes "lemma ") b ≡ None → after_word (codes "had ") b ≡ None → after_word (codes "not ") b ≡ None
    → at_end main_line (after_word (codes "main") b) ≡ None
    → other_line_of n b ≡ None
other_none n b t l h o m = rw (t, l, h, o, m) refl

pub body_none : (n : ℕ) (b : List ℕ)
    → after_word (codes "reply ") b ≡ None → after_word (codes "play ") b ≡ None → after_word (codes "all ") b ≡ None → at_end won_line (after_word (codes "won") b) ≡ None
    → after_word (codes "use ") b ≡ None → at_end end_line (after_word (codes "end") b) ≡ None
    → body_line_of n b ≡ None
body_none n b r p a w u d = rw (r, p, a, w, u, d) refl
