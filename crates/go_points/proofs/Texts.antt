-- Colourings and their texts: reading and writing, and what has been read of a text.
use Rattle.go_points.proofs.Common.{◌≡◌, ℕ, zero, suc, ◌*◌, ◌<◌, Bool, true, false, cond, nat_eq, eqb-true, eq-eqb, List, [], ◌∷◌, length, get_or, Option, Some, None, refl, sym, ◌∙◌, ap, ap₂, arith, length-map, Black, White, Cell, Empty, Stone, side_of, cell_code, text_of}
use Rattle.go_points.proofs.Lists.{some_same, none_some}
use Rattle.go_points.specs.Text.{cell_of, cons_cell, cells_of, colouring_from_text}

code_back : (a : Cell) → cell_of (cell_code a) ≡ Some a
code_back Empty = refl
code_back (Stone Black) = refl
code_back (Stone White) = refl

cells_back : (c : List Cell) → cells_of (text_of c) ≡ Some c
cells_back [] = refl
cells_back (a ∷ c) = ap₂ cons_cell (code_back a) (cells_back c)

pub texts_read_back : (n : ℕ) (c : List Cell) → length c ≡ n * n → colouring_from_text n (text_of c) ≡ Some c
texts_read_back n c e = ap (λ b. cond b (cells_of (text_of c)) None) (eq-eqb (length (text_of c)) (n * n) (length-map c cell_code ∙ e)) ∙ cells_back c

-- what is read has the byte that was read
code_of : (b : ℕ) (a : Cell) → cell_of b ≡ Some a → cell_code a ≡ b
code_of b a e = go (nat_eq b 46) (nat_eq b 88) (nat_eq b 79) refl refl refl e
  where
    go : (x y z : Bool) → nat_eq b 46 ≡ x → nat_eq b 88 ≡ y → nat_eq b 79 ≡ z → cond x (Some Empty) (cond y (Some (Stone Black)) (cond z (Some (Stone White)) None)) ≡ Some a → cell_code a ≡ b
    go true y z is_x is_y is_z h = ap cell_code (sym (some_same Empty a h)) ∙ sym (eqb-true b 46 is_x)
    go false true z is_x is_y is_z h = ap cell_code (sym (some_same (Stone Black) a h)) ∙ sym (eqb-true b 88 is_y)
    go false false true is_x is_y is_z h = ap cell_code (sym (some_same (Stone White) a h)) ∙ sym (eqb-true b 79 is_z)
    go false false false is_x is_y is_z h = absurd (none_some a h)

text_back : (text : List ℕ) (c : List Cell) → cells_of text ≡ Some c → text_of c ≡ text
text_back [] c e = ap text_of (sym (some_same [] c e))
text_back (b ∷ bs) c e = go (cell_of b) (cells_of bs) refl refl e (text_back bs)
  where
    go : (r : Option Cell) (s : Option (List Cell)) → cell_of b ≡ r → cells_of bs ≡ s → cons_cell r s ≡ Some c → ((d : List Cell) → cells_of bs ≡ Some d → text_of d ≡ bs) → text_of c ≡ b ∷ bs
    go (Some a) (Some d) is_r is_s h rest = ap text_of (sym (some_same (a ∷ d) c h)) ∙ ap₂ (λ x xs. x ∷ xs) (code_of b a is_r) (rest d is_s)
    go (Some a) None is_r is_s h rest = absurd (none_some c h)
    go None s is_r is_s h rest = absurd (none_some c h)

pub readings_have_their_texts : (n : ℕ) (text : List ℕ) (c : List Cell) → colouring_from_text n text ≡ Some c → text_of c ≡ text
readings_have_their_texts n text c e = go (nat_eq (length text) (n * n)) e
  where
    go : (b : Bool) → cond b (cells_of text) None ≡ Some c → text_of c ≡ text
    go true h = text_back text c h
    go false h = absurd (none_some c h)

-- the first k bytes of the text are read into the colouring
pub record ReadSoFar (n : ℕ) (text : List ℕ) (c : List Cell) (k : ℕ) : Type 0 where
  pub side : side_of c ≡ n
  pub full : length c ≡ length text
  pub read : (i : ℕ) → i < k → cell_of (get_or text i 0) ≡ Some (get_or c i Empty)

read_whole : (text : List ℕ) (c : List Cell) → length c ≡ length text → ((i : ℕ) → i < length text → cell_of (get_or text i 0) ≡ Some (get_or c i Empty)) → cells_of text ≡ Some c
read_whole [] [] full read = refl
read_whole [] (a ∷ c) full read = absurd (omega arith)
read_whole (b ∷ bs) [] full read = absurd (omega arith)
read_whole (b ∷ bs) (a ∷ c) full read = ap₂ cons_cell (read zero (omega arith)) (read_whole bs c (omega arith) (λ i low. read (suc i) (omega (arith, low))))

pub read_all : (n : ℕ) (text : List ℕ) (c : List Cell) → length text ≡ n * n → ReadSoFar n text c (length text) → colouring_from_text n text ≡ Some c
read_all n text c long so_far =
    ap (λ b. cond b (cells_of text) None) (eq-eqb (length text) (n * n) long) ∙ read_whole text c so_far.full so_far.read

-- a byte that no cell has
read_none : (text : List ℕ) (k : ℕ) → k < length text → cell_of (get_or text k 0) ≡ None → cells_of text ≡ None
read_none [] k within none = absurd (omega arith)
read_none (b ∷ bs) zero within none = ap (λ r. cons_cell r (cells_of bs)) none
read_none (b ∷ bs) (suc k) within none = ap (cons_cell (cell_of b)) (read_none bs k (omega arith) none) ∙ nothing_after (cell_of b)
  where
    nothing_after : (r : Option Cell) → cons_cell r None ≡ None
    nothing_after (Some a) = refl
    nothing_after None = refl

pub unreadable : (n : ℕ) (text : List ℕ) (k : ℕ) → k < length text → cell_of (get_or text k 0) ≡ None → colouring_from_text n text ≡ None
unreadable n text k within none = go (nat_eq (length text) (n * n))
  where
    go : (b : Bool) → cond b (cells_of text) None ≡ None
    go true = read_none text k within none
    go false = refl
