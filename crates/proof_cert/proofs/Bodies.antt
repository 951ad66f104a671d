-- A line is that of a body or another one, and a short claim spells those of a body alike.
use Rattle.proof_cert.proofs.Common.{◌≡◌, ℕ, ◌⊎◌, inl, inr, Bool, true, false, nat_eq, eqb-true, List, [], ◌∷◌, ◌++◌, Option, Some, None, codes, refl, sym, ap, ◌∙◌, subst, option_and_then, Spelling, Ordinary, Short, Line, won_line, use_line, play_line, all_line, reply_line, end_line, after_word, at_end, behind, header_rest, line_by, line_of, no_header, number_of, or_else, vertex_of, body_line_of, other_line_of}
use Rattle.std.specs.Prelude.{option_map}
use Rattle.proof_cert.proofs.Chains.{or_none}
use Rattle.proof_cert.proofs.Texts.{behind_is, end_is}

pub none_of : {A : Type 0} (o : Option A) → ((a : A) → o ≡ Some a → ⊥) → o ≡ None
none_of None h = refl
none_of (Some a) h = absurd (h a refl)

letter : (w x : ℕ) → (x ≡ w) ⊎ (nat_eq w x ≡ false)
letter w x = at (nat_eq w x) refl
  where
    at : (t : Bool) → nat_eq w x ≡ t → (x ≡ w) ⊎ (nat_eq w x ≡ false)
    at true e = inl (sym (eqb-true w x e))
    at false e = inr e

-- no two words begin alike
module _ (n : ℕ) (b : List ℕ) where
  abbrev Parts : ℕ → Type 0
  Parts x = line_of n (x ∷ b) ≡ or_else (body_line_of n (x ∷ b)) (other_line_of n (x ∷ b))

  parts_of : (x : ℕ)
      → (x ≡ 114) ⊎ (nat_eq 114 x ≡ false) → (x ≡ 112) ⊎ (nat_eq 112 x ≡ false) → (x ≡ 97) ⊎ (nat_eq 97 x ≡ false) → (x ≡ 119) ⊎ (nat_eq 119 x ≡ false)
      → (x ≡ 117) ⊎ (nat_eq 117 x ≡ false) → (x ≡ 101) ⊎ (nat_eq 101 x ≡ false) → (x ≡ 109) ⊎ (nat_eq 109 x ≡ false)
      → (nat_eq 114 x ≡ false → nat_eq 112 x ≡ false → nat_eq 97 x ≡ false → nat_eq 119 x ≡ false → nat_eq 117 x ≡ false → nat_eq 101 x ≡ false → nat_eq 109 x ≡ false → Parts x)
      → Parts x
  parts_of x (inl e) p a w u d m rest = subst Parts (sym e) (sym (or_none (or_else (behind (codes "reply ") (λ r. option_map reply_line (vertex_of n r)) (114 ∷ b)) None)))
  parts_of x r (inl e) a w u d m rest = subst Parts (sym e) (sym (or_none (or_else (behind (codes "play ") (λ r. option_map play_line (vertex_of n r)) (112 ∷ b)) None)))
  parts_of x r p (inl e) w u d m rest = subst Parts (sym e) (sym (or_none (or_else (behind (codes "all ") (λ r. option_map all_line (number_of r)) (97 ∷ b)) None)))
  parts_of x r p a (inl e) u d m rest = subst Parts (sym e) (sym (or_none (or_else (at_end won_line (after_word (codes "won") (119 ∷ b))) None)))
  parts_of x r p a w (inl e) d m rest = subst Parts (sym e) (sym (or_none (or_else (behind (codes "use ") (λ r. option_map use_line (number_of r)) (117 ∷ b)) None)))
  parts_of x r p a w u (inl e) m rest = subst Parts (sym e) (sym (or_none (at_end end_line (after_word (codes "end") (101 ∷ b)))))
  parts_of x r p a w u d (inl e) rest = subst Parts (sym e) (or_none _)
  parts_of x (inr r) (inr p) (inr a) (inr w) (inr u) (inr d) (inr m) rest = rest r p a w u d m

absent : (w : ℕ) (ws : List ℕ) (x : ℕ) (b : List ℕ) → nat_eq w x ≡ false → after_word (w ∷ ws) (x ∷ b) ≡ None
absent w ws x b e = ap (λ t. elim t [ true ↦ after_word ws b | false ↦ None ]) e

none_begins : (n : ℕ) (b : List ℕ)
    → after_word (codes "reply ") b ≡ None → after_word (codes "play ") b ≡ None → after_word (codes "all ") b ≡ None → after_word (codes "won") b ≡ None
    → after_word (codes "use ") b ≡ None → after_word (codes "end") b ≡ None → after_word (codes "main") b ≡ None
    → line_of n b ≡ or_else (body_line_of n b) (other_line_of n b)
none_begins n b r p a w u d m = rw (r, p, a, w, u, d, m) refl

pub body_or_other : (n : ℕ) (b : List ℕ) → line_of n b ≡ or_else (body_line_of n b) (other_line_of n b)
body_or_other n [] = refl
body_or_other n (x ∷ b) =
    parts_of n b x (letter 114 x) (letter 112 x) (letter 97 x) (letter 119 x) (letter 117 x) (letter 101 x) (letter 109 x)
    (λ r p a w u d m. none_begins n (x ∷ b) (absent 114 (codes "eply ") x b r) (absent 112 (codes "lay ") x b p) (absent 97 (codes "ll ") x b a) (absent 119 (codes "on") x b w) (absent 117 (codes "se ") x b u) (absent 101 (codes "nd") x b d) (absent 109 (codes "ain") x b m))

-- a line of a body is no first line
module _ where
  no_header_or : (o p : Option Line) → no_header o ≡ o → no_header p ≡ p → no_header (or_else o p) ≡ or_else o p
  no_header_or None p f g = g
  no_header_or (Some l) p f g = f

  no_header_behind : {A : Type 0} (word : List ℕ) (make : A → Line) (read : List ℕ → Option A) (b : List ℕ) → ((a : A) → no_header (Some (make a)) ≡ Some (make a)) → no_header (behind word (λ r. option_map make (read r)) b) ≡ behind word (λ r. option_map make (read r)) b
  no_header_behind {A} word make read b same = at (after_word word b)
    where
      made : (o : Option A) → no_header (option_map make o) ≡ option_map make o
      made None = refl
      made (Some a) = same a

      at : (o : Option (List ℕ)) → no_header (option_and_then (λ r. option_map make (read r)) o) ≡ option_and_then (λ r. option_map make (read r)) o
      at None = refl
      at (Some r) = made (read r)

  no_header_end : (l : Line) (o : Option (List ℕ)) → no_header (Some l) ≡ Some l → no_header (at_end l o) ≡ at_end l o
  no_header_end l None same = refl
  no_header_end l (Some []) same = same
  no_header_end l (Some (x ∷ b)) same = refl

body_no_header : (n : ℕ) (b : List ℕ) → no_header (body_line_of n b) ≡ body_line_of n b
body_no_header n b =
    no_header_or _ _ (no_header_behind (codes "reply ") reply_line (vertex_of n) b (λ t. refl))
    (no_header_or _ _ (no_header_behind (codes "play ") play_line (vertex_of n) b (λ t. refl))
    (no_header_or _ _ (no_header_behind (codes "all ") all_line number_of b (λ m. refl))
    (no_header_or _ _ (no_header_end won_line (after_word (codes "won") b) refl)
    (no_header_or _ _ (no_header_behind (codes "use ") use_line number_of b (λ j. refl))
    (no_header_end end_line (after_word (codes "end") b) refl)))))

body_ordinary : (n : ℕ) (b : List ℕ) (l : Line) → body_line_of n b ≡ Some l → line_of n b ≡ Some l
body_ordinary n b l is = body_or_other n b ∙ ap (λ (o : Option Line). or_else o (other_line_of n b)) is

pub body_by : (k : Spelling) (n : ℕ) (b : List ℕ) (l : Line) → body_line_of n b ≡ Some l → line_by k n b ≡ Some l
body_by Ordinary n b l is = body_ordinary n b l is
body_by Short n b l is =
    ap (λ (o : Option Line). or_else o (or_else (at_end (use_line 0) (after_word (codes "alive") b)) (no_header (line_of n b)))) first
    ∙ ap (λ (o : Option Line). or_else o (no_header (line_of n b))) lives
    ∙ ap no_header (body_ordinary n b l is) ∙ sym (ap no_header is) ∙ body_no_header n b ∙ is
  where
    first : behind (codes "tsushort 1 ") (header_rest 2) b ≡ None
    first = none_of _ (λ h e.
        let parts = behind_is (codes "tsushort 1 ") (header_rest 2) b h e in
        let other : body_line_of n (codes "tsushort 1 " ++ parts.0) ≡ Some l = subst (λ c. body_line_of n c ≡ Some l) parts.1 is in
        cc)

    lives : at_end (use_line 0) (after_word (codes "alive") b) ≡ None
    lives = none_of _ (λ h e.
        let same = (end_is (use_line 0) (codes "alive") b h e).1 in
        let other : body_line_of n (codes "alive") ≡ Some l = subst (λ c. body_line_of n c ≡ Some l) (sym same) is in
        cc)

pub alive_by : (k : Spelling) (n : ℕ) (b : List ℕ) → k ≡ Short → at_end true (after_word (codes "alive") b) ≡ Some true → line_by k n b ≡ Some (use_line 0)
alive_by k n b short e =
    let same = (end_is true (codes "alive") b true e).1 in
    subst (λ c. line_by k n c ≡ Some (use_line 0)) same (subst (λ j. line_by j n (codes "alive") ≡ Some (use_line 0)) (sym short) refl)
