-- The values of the names in a text, read one after the other.
use Rattle.std.proofs.Common.{◌≡◌, ℕ, ◌+◌, Bool, true, false, cond, nat_lt, List, [], ◌∷◌, ◌++◌, take, drop, length, position, Option, Some, None, option_map, option_and_then, refl, sym, ◌∙◌, ap, subst, append_assoc, arith}
use Rattle.std.specs.List.{slice_split, position_or_len}
use Rattle.std.proofs.lemmas.Bool.Decides.{nat_tests}
use Rattle.std.proofs.lemmas.List.Splits.{slice_split_first, slice_split_none}
use Rattle.std.proofs.lemmas.List.Sums.{fails_before_first}
use Rattle.record_marks.specs.Named.{is_comma, value_named, values_of_each, values_named}

-- a text with a comma has the part before it first
split_first : (text : List ℕ) (i : ℕ) → position is_comma text ≡ Some i → slice_split is_comma text ≡ take i text ∷ slice_split is_comma (drop (i + 1) text)
split_first text i h = go (nat_lt (position_or_len is_comma text) (length text)) refl h
  where
    go : (b : Bool) → nat_lt (position_or_len is_comma text) (length text) ≡ b → cond b (Some (position_or_len is_comma text)) None ≡ Some i
        → slice_split is_comma text ≡ take i text ∷ slice_split is_comma (drop (i + 1) text)
    go true e f =
        let same : position_or_len is_comma text ≡ i = cc f in
        subst (λ (k : ℕ). slice_split is_comma text ≡ take k text ∷ slice_split is_comma (drop (k + 1) text)) same (slice_split_first is_comma text 0 (grind (arith, nat_tests, e)))
    go false e f = absurd (cc f)

-- a text without a comma is one part
split_one : (text : List ℕ) → position is_comma text ≡ None → slice_split is_comma text ≡ text ∷ []
split_one text h = go (nat_lt (position_or_len is_comma text) (length text)) refl h
  where
    go : (b : Bool) → nat_lt (position_or_len is_comma text) (length text) ≡ b → cond b (Some (position_or_len is_comma text)) None ≡ None → slice_split is_comma text ≡ text ∷ []
    go true e f = absurd (cc f)
    go false e f = slice_split_none is_comma text (λ k d on. fails_before_first is_comma text k d (grind (arith, nat_tests, e, on)))

-- what was read, and then what is left, is what the whole text gives
abbrev pub NamesLeft : ℕ → List ℕ → List (List ℕ) → List ℕ → Type 0
NamesLeft n rest values text = option_map (λ vs. values ++ vs) (values_named n rest) ≡ values_named n text

pub names_first : (n : ℕ) (text : List ℕ) → NamesLeft n text [] text
names_first n text = go (values_named n text)
  where
    go : (o : Option (List (List ℕ))) → option_map (λ vs. [] ++ vs) o ≡ o
    go None = refl
    go (Some vs) = refl

module _ (n : ℕ) (rest : List ℕ) (values : List (List ℕ)) (text : List ℕ) (left : NamesLeft n rest values text) where
  pub names_more : (i : ℕ) (v : List ℕ) → position is_comma rest ≡ Some i → Some v ≡ value_named n (take i rest) → NamesLeft n (drop (i + 1) rest) (values ++ v ∷ []) text
  names_more i v at is = go (values_named n (drop (i + 1) rest)) ∙ ap (option_map (λ vs. values ++ vs)) (sym whole) ∙ left
    where
      whole : values_named n rest ≡ option_map (λ vs. v ∷ vs) (values_named n (drop (i + 1) rest))
      whole = ap (values_of_each n) (split_first rest i at) ∙ ap (option_and_then (λ value. option_map (λ vs. value ∷ vs) (values_named n (drop (i + 1) rest)))) (sym is)

      go : (o : Option (List (List ℕ))) → option_map (λ vs. (values ++ v ∷ []) ++ vs) o ≡ option_map (λ vs. values ++ vs) (option_map (λ vs. v ∷ vs) o)
      go None = refl
      go (Some vs) = ap Some (append_assoc values (v ∷ []) vs)

  pub names_none : (i : ℕ) → position is_comma rest ≡ Some i → None ≡ value_named n (take i rest) → None ≡ values_named n text
  names_none i at is = ap (option_map (λ vs. values ++ vs)) (sym whole) ∙ left
    where
      whole : values_named n rest ≡ None
      whole = ap (values_of_each n) (split_first rest i at) ∙ ap (option_and_then (λ value. option_map (λ vs. value ∷ vs) (values_named n (drop (i + 1) rest)))) (sym is)

  pub names_last : (v : List ℕ) → position is_comma rest ≡ None → Some v ≡ value_named n rest → Some (values ++ v ∷ []) ≡ values_named n text
  names_last v at is = ap (option_map (λ vs. values ++ vs)) (sym whole) ∙ left
    where
      whole : values_named n rest ≡ Some (v ∷ [])
      whole = ap (values_of_each n) (split_one rest at) ∙ ap (option_and_then (λ value. option_map (λ vs. value ∷ vs) (Some []))) (sym is)

  pub names_not_last : position is_comma rest ≡ None → None ≡ value_named n rest → None ≡ values_named n text
  names_not_last at is = ap (option_map (λ vs. values ++ vs)) (sym whole) ∙ left
    where
      whole : values_named n rest ≡ None
      whole = ap (values_of_each n) (split_one rest at) ∙ ap (option_and_then (λ value. option_map (λ vs. value ∷ vs) (Some []))) (sym is)
