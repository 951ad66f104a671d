-- Lines and words, parted at a byte.
use Rattle.gtp_core.proofs.Common.{◌≡◌, ℕ, ◌<◌, Bool, true, false, nat_eq, eqb-true, eq-eqb, List, [], ◌∷◌, ◌++◌, length, take, inl, inr, refl, sym, ap, ◌∙◌, subst, arith, cases_lt, length-append, length-take-le, take_all, take-append-le, Consumes-trans, LineFeed, Bounded, Gives, kept, IsRawLine, words_of, HasNone, IsAtSpace}
use Rattle.std.proofs.lemmas.List.{append-nil}
use Rattle.gtp_core.specs.Private.Taking.{Stops}
use Rattle.gtp_core.specs.Lines.{with_byte, parted_at, whole_words}

-- one byte more, without and with a piece's end
pub parted_other : (k c : ℕ) (rest : List ℕ) → nat_eq c k ≡ false → parted_at k (c ∷ rest) ≡ with_byte c (parted_at k rest)
parted_other k c rest h = ap (λ (b : Bool). elim b [ true ↦ [] ∷ parted_at k rest | false ↦ with_byte c (parted_at k rest) ]) h

pub parted_here : (k c : ℕ) (rest : List ℕ) → nat_eq c k ≡ true → parted_at k (c ∷ rest) ≡ [] ∷ parted_at k rest
parted_here k c rest h = ap (λ (b : Bool). elim b [ true ↦ [] ∷ parted_at k rest | false ↦ with_byte c (parted_at k rest) ]) h

pub parted_one : (k : ℕ) (xs : List ℕ) → HasNone k xs → parted_at k xs ≡ xs ∷ []
parted_one k [] h = refl
parted_one k (c ∷ cs) h = parted_other k c cs h.0 ∙ ap (with_byte c) (parted_one k cs h.1)

pub parted_more : (k : ℕ) (xs ys : List ℕ) → HasNone k xs → parted_at k (xs ++ k ∷ ys) ≡ xs ∷ parted_at k ys
parted_more k [] ys h = parted_here k k ys (eq-eqb k k refl)
parted_more k (c ∷ cs) ys h = parted_other k c (cs ++ k ∷ ys) h.0 ∙ ap (with_byte c) (parted_more k cs ys h.1)

pub none_more : (k : ℕ) (xs : List ℕ) (c : ℕ) → HasNone k xs → nat_eq c k ≡ false → HasNone k (xs ++ c ∷ [])
none_more k [] c h other = (other, tt)
none_more k (x ∷ xs) c h other = (h.0, none_more k xs c h.1 other)

-- ---- words

pub words_later : (c : ℕ) (cs : List ℕ) → nat_eq c 32 ≡ true → words_of (c ∷ cs) ≡ words_of cs
words_later c cs h = ap whole_words (parted_here 32 c cs h)

first_word : (c : ℕ) (cs rest : List ℕ) → HasNone 32 (c ∷ cs) → IsAtSpace rest → words_of ((c ∷ cs) ++ rest) ≡ (c ∷ cs) ∷ words_of rest
first_word c cs [] h at = ap words_of (append-nil (c ∷ cs)) ∙ ap whole_words (parted_one 32 (c ∷ cs) h)
first_word c cs (r ∷ rs) h at =
    let space : r ≡ 32 = eqb-true r 32 at in
    ap (λ (x : ℕ). words_of ((c ∷ cs) ++ x ∷ rs)) space
    ∙ ap whole_words (parted_more 32 (c ∷ cs) rs h)
    ∙ ap (λ (ws : List (List ℕ)). (c ∷ cs) ∷ ws) (sym (words_later r rs at))

-- the first word of a text that begins with one
pub word_taken : (word rest : List ℕ) → 0 < length word → HasNone 32 word → IsAtSpace rest → words_of (word ++ rest) ≡ word ∷ words_of rest
word_taken [] rest some h at = absurd (omega (arith, some))
word_taken (c ∷ cs) rest some h at = first_word c cs rest h at

-- ---- what is kept of a line

pub keep_full : (items : List ℕ) (b : ℕ) → length items ≡ 4097 → items ≡ kept (items ++ b ∷ [])
keep_full items b long = sym (take_all 4097 items (omega (arith, long))) ∙ sym (take-append-le 4097 items (b ∷ []) (omega (arith, long)))

pub keep_room : (items : List ℕ) (b : ℕ) → length items < 4097 → items ++ b ∷ [] ≡ kept (items ++ b ∷ [])
keep_room items b short = sym (take_all 4097 (items ++ b ∷ []) (omega (arith, short, length-append items (b ∷ []))))

kept_more : (line : List ℕ) (b : ℕ) → kept (kept line ++ b ∷ []) ≡ kept (line ++ b ∷ [])
kept_more line b = elim (cases_lt 4097 (length line)) [
  | inl long ↦
      let all : length (take 4097 line) ≡ 4097 = length-take-le 4097 line (omega (arith, long)) in
      sym (keep_full (take 4097 line) b all) ∙ sym (take-append-le 4097 line (b ∷ []) (omega (arith, long)))
  | inr short ↦ ap (λ xs. kept (xs ++ b ∷ [])) (take_all 4097 line short)
]

-- ---- what is taken of an input

pub gives_all : (old mid new : Bounded) (xs ys : List ℕ) → Gives old mid xs → Gives mid new ys → Gives old new (xs ++ ys)
gives_all old mid new xs ys h k =
    let a = h.1 in let b = k.1 in
    (Consumes-trans old.left mid.left new.left xs ys h.0 k.0, omega (arith, a, b, length-append xs ys))

-- what stops at once stops after the bytes that were taken before
pub stops_after : (failed : Type 0) (held : List ℕ) (old mid new : Bounded) (xs : List ℕ) → Gives old mid xs → Stops failed held mid new [] → Stops failed held old new xs
stops_after failed held old mid new xs h (inl (known, none, given)) =
    inl (known, none, subst (Gives old new) (append-nil xs) (gives_all old mid new xs [] h given))
stops_after failed held old mid new xs h (inr (b, consumed, full)) =
    let a = h.1 in
    inr (b, Consumes-trans old.left mid.left new.left xs (b ∷ []) h.0 consumed, omega (arith, a, full))

-- a byte more of a raw line
pub line_more : (old left new : Bounded) (items next : List ℕ) (b : ℕ) → (line : List ℕ) × HasNone 10 line × (items ≡ kept line) × Gives old left line → nat_eq b 10 ≡ false
    → Gives left new (b ∷ []) → next ≡ kept (items ++ b ∷ []) → (line : List ℕ) × HasNone 10 line × (next ≡ kept line) × Gives old new line
line_more old left new items next b (line, none, is, given) other one more =
    (line ++ b ∷ [], none_more 10 line b none other, more ∙ ap (λ xs. kept (xs ++ b ∷ [])) is ∙ kept_more line b, gives_all old left new line (b ∷ []) given one)

pub line_fed : (old left new : Bounded) (items : List ℕ) (b : ℕ) → (line : List ℕ) × HasNone 10 line × (items ≡ kept line) × Gives old left line → b ≡ 10
    → Gives left new (b ∷ []) → IsRawLine old new items LineFeed
line_fed old left new items b (line, none, is, given) feed one =
    (line, none, is, gives_all old left new line (10 ∷ []) given (subst (λ x. Gives left new (x ∷ [])) feed one))
