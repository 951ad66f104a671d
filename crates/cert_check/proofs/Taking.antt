-- What is taken of a source of lines, and what a refusal says.
use Rattle.cert_check.proofs.Common.{◌≡◌, ℕ, suc, ◌+◌, arith, ◌⊎◌, inl, inr, List, [], ◌∷◌, ◌++◌, length, Option, Some, None, option_map, Result, Ok, Err, IfSome, OnSome, refl, sym, ap, ◌∙◌, subst, length-append, map-append, Line, line_value, line_answer, SourceFault, Why, why_value, line_values, AsksTo}
use Rattle.proof_cert.specs.Given.{Gave}
use Rattle.proof_cert.proofs.Giving.{gave_more}
use Rattle.proof_cert.specs.declared.line.Line as code
use Rattle.cert_check.specs.declared.reject.Why as stop
use Rattle.cert_check.specs.declared.reject.Why.TheVariants as stops
use Rattle.cert_check.specs.Checks.{Took, Asked}

module _ {S : Type 0} (gives : S → Result (Option Line) SourceFault → S → Type 0) (n : ℕ) (s : S) where
  pub took_more : (ls : List (Option code.Line)) (t u : S) (l : Option code.Line) → Took gives n s ls t → gives t (line_answer (option_map (line_value n) l)) u → Took gives n s (ls ++ l ∷ []) u
  took_more ls t u l took one = subst (λ ks. Gave gives s ks u) (sym (map-append (option_map (line_value n)) ls (l ∷ []))) (gave_more gives s t u (line_values n ls) (option_map (line_value n) l) took one)

  pub one_more : (ls : List (Option code.Line)) (l : Option code.Line) → length (ls ++ l ∷ []) ≡ length ls + 1
  one_more ls l = length-append ls (l ∷ [])

pub as_long : (m : ℕ) (ls : List (Option code.Line)) → length (line_values m ls) ≡ length ls
as_long m [] = refl
as_long m (l ∷ ls) = ap suc (as_long m ls)

-- a call for each line that was given, and one more
module _ {S : Type 0} (gives : S → Result (Option Line) SourceFault → S → Type 0) where
  asked_lines : (s t : S) (ls : List (Option Line)) → Gave gives s ls t → Asked gives s (length ls) t
  asked_lines s t [] same = same
  asked_lines s t (l ∷ ls) (u, one, more) = (line_answer l, u, one, asked_lines u t ls more)

  asked_once : (s t u : S) (ls : List (Option Line)) (r : Result (Option Line) SourceFault) → Gave gives s ls t → gives t r u → Asked gives s (suc (length ls)) u
  asked_once s t u [] r same one = (r, u, subst (λ x. gives x r u) (sym same) one, refl)
  asked_once s t u (l ∷ ls) r (v, first, more) one = (line_answer l, v, first, asked_once v t u ls r more one)

  pub asks_before : (n : ℕ) (s t : S) (ls : List (Option code.Line)) (p : ℕ) → Took gives n s ls t → p ≡ suc (length ls) → AsksTo gives s p t
  asks_before n s t ls p took at = let long = as_long n ls in (length (line_values n ls), omega (arith, long, at), asked_lines s t (line_values n ls) took)

  pub asks_there : (n : ℕ) (s t u : S) (ls : List (Option code.Line)) (r : Result (Option Line) SourceFault) (p : ℕ) → Took gives n s ls t → gives t r u → p ≡ suc (length ls) → AsksTo gives s p u
  asks_there n s t u ls r p took one at = let long = as_long n ls in (suc (length (line_values n ls)), omega (arith, long, at), asked_once s t u (line_values n ls) r took one)

-- a source that had failed gives nothing
pub never : (o p : Option SourceFault) (r : Result (Option code.Line) SourceFault) (a : Option code.Line) (P : Type 0) → OnSome o (p ≡ o) → IfSome p (λ e. r ≡ Err e) → r ≡ Ok a → OnSome o P
never None p r a P same stays is = tt
never (Some e) p r a P same stays is = absurd (let bad : r ≡ Err e = subst (λ (f : Option SourceFault). IfSome f (λ d. r ≡ Err d)) same stays in cc (sym is ∙ bad))

-- every refusal is for memory, for a failed read, or says why
pub each_why : (m : ℕ) (why : stop.Why) → (why ≡ stops.Memory) ⊎ ((why ≡ stops.Read) ⊎ ((w : Why) × (why_value m why ≡ Some w)))
each_why m stops.Memory = inl refl
each_why m stops.Read = inr (inl refl)
each_why m _ = inr (inr (_, refl))
