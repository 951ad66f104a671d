-- Tokens at a place of a text.
use Rattle.sgf_text.proofs.Common.{◌≡◌, ℕ, zero, suc, ◌+◌, ◌-◌, ◌<◌, List, [], ◌∷◌, length, get_or, take, drop, refl, sym, ap, ◌∙◌, arith, rules, true, false, drop-cons, nat_tests, is_white, tokens_after}
use Rattle.std.proofs.lemmas.List.{drop-drop}
use Rattle.sgf_text.specs.declared.token.TokenKind.{TokenKind}
use Rattle.byte_writer.proofs.TakenLemmas.{rest_is}
use Rattle.sgf_text.specs.Tokens.{Span, token_len, kind_of, first_len}

-- white space is passed over
white_head : (at c : ℕ) (rest : List ℕ) → is_white c ≡ true → tokens_after 0 at (c ∷ rest) ≡ tokens_after 0 (at + 1) rest
white_head at c rest e = rw (e, tokens_after) refl

-- so is the rest of a token
pub tokens_passed : (skip at : ℕ) (s : List ℕ) → tokens_after skip at s ≡ tokens_after 0 (at + skip) (drop skip s)
tokens_passed zero at s = ap (λ n. tokens_after 0 n s) (omega arith)
tokens_passed (suc skip) at [] = refl
tokens_passed (suc skip) at (c ∷ rest) = tokens_passed skip (at + 1) rest ∙ ap (λ n. tokens_after 0 n (drop skip rest)) (omega arith)

abbrev pub span : TokenKind → List ℕ → ℕ → Span
span kind text at = record { kind = kind; text = text; at = at }

first_head : (at c : ℕ) (rest : List ℕ) → is_white c ≡ false → (n : ℕ) → n ≡ token_len c rest
    → tokens_after 0 at (c ∷ rest) ≡ span (kind_of c) (take n (c ∷ rest)) at ∷ tokens_after (n - 1) (at + 1) rest
first_head at c rest h n g = search rules

module _ (s : List ℕ) (i : ℕ) (within : i < length s) (solid : is_white (get_or s i 0) ≡ false) where
  tokens_first : (n : ℕ) → n ≡ first_len (drop i s) → 0 < n
      → tokens_after 0 i (drop i s) ≡ span (kind_of (get_or s i 0)) (take n (drop i s)) i ∷ tokens_after 0 (i + n) (drop (i + n) s)
  tokens_first zero l p = absurd (omega arith)
  tokens_first (suc m) l p =
      let e = drop-cons s i 0 within in
      let f : suc m ≡ token_len (get_or s i 0) (drop (suc i) s) = l ∙ ap first_len e in
      ap (tokens_after 0 i) e ∙ first_head i (get_or s i 0) (drop (suc i) s) solid (suc m) f
      ∙ ap (λ (t : List ℕ). span (kind_of (get_or s i 0)) (take (suc m) t) i ∷ tokens_after (suc m - 1) (i + 1) (drop (suc i) s)) (sym e)
      ∙ ap (λ (t : List Span). span (kind_of (get_or s i 0)) (take (suc m) (drop i s)) i ∷ t) others
    where
      others : tokens_after (suc m - 1) (i + 1) (drop (suc i) s) ≡ tokens_after 0 (i + suc m) (drop (i + suc m) s)
      others =
          ap (λ k. tokens_after k (i + 1) (drop (suc i) s)) (omega arith) ∙ tokens_passed m (i + 1) (drop (suc i) s)
          ∙ ap (tokens_after 0 (i + 1 + m)) (drop-drop m (suc i) s) ∙ ap (λ k. tokens_after 0 k (drop (suc i + m) s)) (omega arith) ∙ ap (λ k. tokens_after 0 (i + suc m) (drop k s)) (omega arith)

  -- as the code has its parts
  pub tokens_step : (n : ℕ) (k : TokenKind) → n ≡ first_len (take (length s - i) (drop i s)) → 0 < n → k ≡ kind_of (get_or (take (length s - i) (drop i s)) 0 0)
      → tokens_after 0 i (drop i s) ≡ span k (take n (take (length s - i) (drop i s))) i ∷ tokens_after 0 (i + n) (drop (i + n) s)
  tokens_step n k h g e = grind (arith, nat_tests, rest_is, drop-cons, tokens_first)
