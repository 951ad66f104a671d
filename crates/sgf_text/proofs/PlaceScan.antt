-- Where a tree begins, found in one pass.
use Rattle.sgf_text.proofs.Common.{◌≡◌, ℕ, suc, ◌+◌, ◌<◌, ◌≤◌, List, [], ◌∷◌, length, get_or, drop, sym, ap, ◌∙◌, arith, rules, true, false, cond, ◌==◌, Option, Some, None, option_map, drop-cons, drop_of_length-le, is_white, starts_node, tree_place}

-- the tree begins at the last "(" where what comes starts a node, or else in what comes
abbrev pub scan : Option ℕ → ℕ → List ℕ → Option ℕ
scan None at rest = option_map (λ k. at + k) (tree_place rest)
scan (Some last) at rest = cond (starts_node rest) (Some last) (option_map (λ k. at + k) (tree_place rest))

pub scan_end : (x : Option ℕ) (at : ℕ) → scan x at [] ≡ None
scan_end x at = search rules

-- ---- one byte

scan_open : (x : Option ℕ) (at : ℕ) (rest : List ℕ) → scan (Some at) (at + 1) rest ≡ scan x at (40 ∷ rest)
scan_open x at rest = search rules

scan_white : (x : Option ℕ) (at c : ℕ) (rest : List ℕ) → is_white c ≡ true → scan x (at + 1) rest ≡ scan x at (c ∷ rest)
scan_white x at c rest h = search rules

scan_other : (x : Option ℕ) (at c : ℕ) (rest : List ℕ) → is_white c ≡ false → (c == 40) ≡ false → ((c == 59) ≡ true → x ≡ None) → scan None (at + 1) rest ≡ scan x at (c ∷ rest)
scan_other x at c rest h g e = search rules

-- ---- the same at a place of a text

module _ (text : List ℕ) (at : ℕ) (within : at < length text) (c : ℕ) (is : get_or text at 0 ≡ c) where
  head : drop at text ≡ c ∷ drop (at + 1) text
  head = let e : suc at ≡ at + 1 = omega arith in drop-cons text at 0 within ∙ ap (λ k. k ∷ drop (suc at) text) is ∙ ap (λ n. c ∷ drop n text) e

  pub next_open : (x : Option ℕ) → c ≡ 40 → scan x at (drop at text) ≡ tree_place text → scan (Some at) (at + 1) (drop (at + 1) text) ≡ tree_place text
  next_open x e i = scan_open x at (drop (at + 1) text) ∙ ap (λ k. scan x at (k ∷ drop (at + 1) text)) (sym e) ∙ ap (scan x at) (sym head) ∙ i

  pub next_white : (x : Option ℕ) → is_white c ≡ true → scan x at (drop at text) ≡ tree_place text → scan x (at + 1) (drop (at + 1) text) ≡ tree_place text
  next_white x e i = scan_white x at c (drop (at + 1) text) e ∙ ap (scan x at) (sym head) ∙ i

  pub next_other : (x : Option ℕ) → is_white c ≡ false → (c == 40) ≡ false → ((c == 59) ≡ true → x ≡ None) → scan x at (drop at text) ≡ tree_place text → scan None (at + 1) (drop (at + 1) text) ≡ tree_place text
  next_other x e f g i = scan_other x at c (drop (at + 1) text) e f g ∙ ap (scan x at) (sym head) ∙ i

  pub found_here : (p : ℕ) → c ≡ 59 → scan (Some p) at (drop at text) ≡ tree_place text → Some p ≡ tree_place text
  found_here p e i = ap (λ k. scan (Some p) at (k ∷ drop (at + 1) text)) (sym e) ∙ ap (scan (Some p) at) (sym head) ∙ i

pub none_found : (text : List ℕ) (x : Option ℕ) (at : ℕ) → length text ≤ at → scan x at (drop at text) ≡ tree_place text → None ≡ tree_place text
none_found text x at h i = sym (scan_end x at) ∙ ap (scan x at) (sym (drop_of_length-le text h)) ∙ i
