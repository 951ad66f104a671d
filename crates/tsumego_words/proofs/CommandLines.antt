-- The command that the words give, by what a parse of them found.
use Rattle.tsumego_words.proofs.Common.{◌≡◌, ℕ, Bool, true, false, cond, ◌&&◌, List, [], ◌∷◌, codes, Option, Some, None, is_some, option_and_then, inl, inr, refl, sym, ◌∙◌, ap, subst, option_map_or, bytes_eq, ParsesUnsigned, digits_value, without_leading_plus, Text, fault_of, subcommand_of, is_unsigned_in, Unsigned, and_left, and_right, and_both, command_named, command_of, grammar, number_in, unless_faulty}
use Rattle.std.proofs.Common.{◌^◌, ◌<◌, ◌≤◌, nat_le, leb-true, le-leb, Result, Ok, Err}
use Rattle.std.specs.Str.Parse.{IsNumeral, ParsesBool}
use Rattle.clap.specs.Words.{App, HasKind, HasMatchesOf, ReadsOne, is_simple, is_simple_and_free, kind_of, subcommand_rows_of}
use Rattle.clap.specs.Kinds.{Kinds, IsAmong}
use Rattle.clap.specs.declared.error.Error.{Error}
use Rattle.clap.specs.declared.error.kind.ErrorKind.TheVariants.{OutOfMemory}
use Rattle.clap.specs.declared.parser.matches.ArgMatches.{ArgMatches}
use Rattle.clap.proofs.ValueTestLemmas.{accepts-Accepts, Accepts-accepts}
use Rattle.sgf_text.proofs.AddedLemmas.{same_name}
use Rattle.tsumego_words.specs.CommandLine.{HasFault}
use Rattle.tsumego_words.proofs.SubcommandNames.{parse_gives}

-- a number that was read, where it is at least so much and at most so much
abbrev pub between : ℕ → ℕ → Option ℕ → Option ℕ
between least most None = None
between least most (Some n) = cond (nat_le least n && nat_le n most) (Some n) None

pub fits_between : (least most n : ℕ) → least ≤ n → n ≤ most → Some n ≡ between least most (Some n)
fits_between least most n low high = sym (ap (λ b. cond b (Some n) None) (and_both (nat_le least n) (nat_le n most) (le-leb least n low) (le-leb n most high)))

pub not_between : (least most n : ℕ) → (least ≤ n → n ≤ most → ⊥) → None ≡ between least most (Some n)
not_between least most n not = go (nat_le least n && nat_le n most) refl
  where
    go : (b : Bool) → (nat_le least n && nat_le n most) ≡ b → None ≡ cond b (Some n) None
    go true e = absurd (not (leb-true least n (and_left (nat_le least n) (nat_le n most) e)) (leb-true n most (and_right (nat_le least n) (nat_le n most) e)))
    go false e = refl

-- the number of a text that `u64` reads, and of one that it does not
number_right : (least most n : ℕ) (t : Text) → IsNumeral 10 (without_leading_plus t) → digits_value 10 (without_leading_plus t) < 2 ^ 64 → n ≡ digits_value 10 (without_leading_plus t)
    → number_in least most t ≡ between least most (Some n)
number_right least most n t numeral fits is = go (nat_le least n && nat_le n most) refl (is_unsigned_in least most t) refl
  where
    go : (b : Bool) → (nat_le least n && nat_le n most) ≡ b → (c : Bool) → is_unsigned_in least most t ≡ c → cond c (Some (digits_value 10 (without_leading_plus t))) None ≡ cond b (Some n) None
    go true e true f = ap Some (sym is)
    go false e false f = refl
    go true e false f =
        let low = leb-true least n (and_left (nat_le least n) (nat_le n most) e) in
        let high = leb-true n most (and_right (nat_le least n) (nat_le n most) e) in
        absurd (cc (f, Accepts-accepts false (Unsigned least most) t (numeral, fits, subst (λ m. least ≤ m) is low, subst (λ m. m ≤ most) is high)))
    go false e true f =
        let h = accepts-Accepts false (Unsigned least most) t f in
        absurd (cc (e, and_both (nat_le least n) (nat_le n most) (le-leb least n (subst (λ m. least ≤ m) (sym is) h.2)) (le-leb n most (subst (λ m. m ≤ most) (sym is) h.3))))

number_wrong : (least most : ℕ) (t : Text) → (IsNumeral 10 (without_leading_plus t) × (digits_value 10 (without_leading_plus t) < 2 ^ 64) → ⊥) → number_in least most t ≡ None
number_wrong least most t wrong = go (is_unsigned_in least most t) refl
  where
    go : (b : Bool) → is_unsigned_in least most t ≡ b → cond b (Some (digits_value 10 (without_leading_plus t))) None ≡ None
    go true e = let h = accepts-Accepts false (Unsigned least most) t e in absurd (wrong (h.0, h.1))
    go false e = refl

pub reads_number : {E : Type 0} (G : List ℕ → Result ℕ E → Type 0) → ((u : List ℕ) (x : Result ℕ E) → G u x → ParsesUnsigned 64 10 u x)
    → (least most : ℕ) (o : Option Text) (r : Option ℕ) → (o ≡ None → r ≡ None) → ((t : Text) → o ≡ Some t → ReadsOne G t r)
    → option_and_then (number_in least most) o ≡ between least most r
reads_number G only least most None r none some = sym (ap (between least most) (none refl))
reads_number G only least most (Some t) None none some =
    let got = some t refl in
    number_wrong least most t (only t (Err got.0) got.1)
reads_number G only least most (Some t) (Some n) none some =
    let right = only t (Ok n) (some t refl) in
    number_right least most n t right.0.0 right.0.1 right.1

-- whether a text that `bool` reads, or does not, is `true`
abbrev pub or_false : Option Bool → Bool
or_false None = false
or_false (Some b) = b

pub reads_flag : (E : Type 0) (o : Option Text) (r : Option Bool) → (o ≡ None → r ≡ None) → ((t : Text) → o ≡ Some t → ReadsOne {E = E} ParsesBool t r)
    → or_false r ≡ option_map_or (λ text. bytes_eq text (codes "true")) o false
reads_flag E None r none some = ap or_false (none refl)
reads_flag E (Some t) (Some true) none some = sym (ap (λ u. bytes_eq u (codes "true")) (some t refl))
reads_flag E (Some t) (Some false) none some = sym (ap (λ u. bytes_eq u (codes "true")) (some t refl))
reads_flag E (Some t) None none some = go (bytes_eq t (codes "true")) refl
  where
    go : (b : Bool) → bytes_eq t (codes "true") ≡ b → false ≡ b
    go true e = absurd ((some t refl).1.0 (same_name t (codes "true") e))
    go false e = refl

-- the command that a parse gives, and none at a fault of the words
pub command_found : (a : App) (ws : List Text) (m : ArgMatches) → a ≡ grammar → HasMatchesOf a ws m → (is_simple_and_free a ≡ true → fault_of a ws ≡ [])
    → command_of ws ≡ option_and_then (λ p. command_named p.0 p.1) (subcommand_rows_of m)
unfolding command_of
command_found a ws m is matches faults =
    let same : subcommand_rows_of m ≡ subcommand_of grammar ws = (matches (ap is_simple is)).1 ∙ ap (λ b. subcommand_of b ws) is in
    let none : fault_of grammar ws ≡ [] = sym (ap (λ b. fault_of b ws) is) ∙ faults (ap is_simple_and_free is) in
    ap (λ (k : Kinds). unless_faulty k (option_and_then (λ p. command_named p.0 p.1) (subcommand_of grammar ws))) none
    ∙ ap (option_and_then (λ p. command_named p.0 p.1)) (sym same)

pub command_faulty : (a : App) (ws : List Text) (e : Error) → a ≡ grammar → (is_simple_and_free a ≡ true → HasKind (fault_of a ws) e) → (kind_of e ≡ OutOfMemory → ⊥) → command_of ws ≡ None
unfolding command_of
command_faulty a ws e is faults whole =
    elim (subst (λ b. HasKind (fault_of b ws) e) is (faults (ap is_simple_and_free is))) [
      | inl short ↦ absurd (whole short)
      | inr among ↦ some (fault_of grammar ws) among
    ]
  where
    some : (k : Kinds) → IsAmong (kind_of e) k → unless_faulty k (option_and_then (λ p. command_named p.0 p.1) (subcommand_of grammar ws)) ≡ None
    some [] h = absurd h
    some (x ∷ xs) h = refl

-- the words are at fault where they give no command, or an error that is not of the memory
pub no_command_faulty : (ws : List Text) → command_of ws ≡ None → HasFault ws
no_command_faulty ws is none = absurd (cc (parse_gives ws none, ap is_some is))

pub error_faulty : (a : App) (ws : List Text) (e : Error) → a ≡ grammar → (is_simple_and_free a ≡ true → HasKind (fault_of a ws) e) → (kind_of e ≡ OutOfMemory → ⊥) → HasFault ws
error_faulty a ws e is faults whole none =
    elim (subst (λ b. HasKind (fault_of b ws) e) is (faults (ap is_simple_and_free is))) [
      | inl short ↦ absurd (whole short)
      | inr among ↦ absurd (subst (IsAmong (kind_of e)) none among)
    ]
