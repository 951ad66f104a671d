-- What a session tells is true.
use Rattle.tsumego.proofs.Common.{◌≡◌, ℕ, false, nat_eq, drop, append_assoc, List, [], ◌∷◌, ◌++◌, codes, Option, None, Some, Ok, inl, inr, refl, sym, ap, ◌∙◌, subst, Colour, GameProblem, raw_lines, failure, GtpSession, Answers, Serves, reply, IsRun, first_session}
use Rattle.std.proofs.Common.{eq-eqb, get_or}
use Rattle.gtp_core.specs.declared.command.Command.TheVariants.{Solve}
use Rattle.gtp_core.specs.declared.refusal.Refusal.TheVariants.{NoProblem}
use Rattle.gtp_core.specs.Words.{spaced_text, success, turn_text}
use Rattle.gtp_core.specs.Commands.{order_of, with_value}
use Rattle.gtp_core.specs.Session.{problem_at, size_of}
use Rattle.gtp_core.specs.Serving.{Meets, MayTell, due_of, due_or_refusal, tells}
use Rattle.tsumego.specs.Laws.{AllTrue, AnswersTruly, GtpIsTrue, IsTrueOf}

-- texts that begin otherwise are told apart
apart : (x y : ℕ) → nat_eq x y ≡ false → x ≡ y → ⊥
apart x y h e = absurd (cc (eq-eqb x y e, h))

heads_apart : (xs ys : List ℕ) → nat_eq (get_or xs 0 0) (get_or ys 0 0) ≡ false → xs ≡ ys → ⊥
heads_apart xs ys h e = apart (get_or xs 0 0) (get_or ys 0 0) h (ap (λ l. get_or l 0 0) e)

-- and so are texts of replies with one id
drop_front : (xs ys zs : List ℕ) → xs ++ ys ≡ xs ++ zs → ys ≡ zs
drop_front [] ys zs e = e
drop_front (x ∷ xs) ys zs e = drop_front xs ys zs (cc e)

told_same : (xs ys : List ℕ) → spaced_text xs ++ 10 ∷ 10 ∷ [] ≡ spaced_text ys ++ 10 ∷ 10 ∷ [] → xs ≡ ys
told_same [] [] e = refl
told_same [] (y ∷ ys) e = absurd (cc e)
told_same (x ∷ xs) [] e = absurd (cc e)
told_same (x ∷ xs) (y ∷ ys) e = ends (x ∷ xs) (y ∷ ys) (cc e)
  where
    long : (z : ℕ) (zs : List ℕ) → 10 ∷ [] ≡ z ∷ zs ++ 10 ∷ 10 ∷ [] → ⊥
    long z [] e = absurd (cc e)
    long z (w ∷ ws) e = absurd (cc e)

    ends : (us vs : List ℕ) → us ++ 10 ∷ 10 ∷ [] ≡ vs ++ 10 ∷ 10 ∷ [] → us ≡ vs
    ends [] [] e = refl
    ends [] (v ∷ vs) e = absurd (long_front v vs e)
      where
        long_front : (v : ℕ) (vs : List ℕ) → 10 ∷ 10 ∷ [] ≡ v ∷ (vs ++ 10 ∷ 10 ∷ []) → ⊥
        long_front v [] e = absurd (cc e)
        long_front v (w ∷ []) e = absurd (cc e)
        long_front v (w ∷ x ∷ xs) e = absurd (cc e)
    ends (u ∷ us) [] e = absurd (long_back u us e)
      where
        long_back : (v : ℕ) (vs : List ℕ) → v ∷ (vs ++ 10 ∷ 10 ∷ []) ≡ 10 ∷ 10 ∷ [] → ⊥
        long_back v [] e = absurd (cc e)
        long_back v (w ∷ []) e = absurd (cc e)
        long_back v (w ∷ x ∷ xs) e = absurd (cc e)
    ends (u ∷ us) (v ∷ vs) e =
        let head : u ≡ v = cc e in
        let tail : us ++ 10 ∷ 10 ∷ [] ≡ vs ++ 10 ∷ 10 ∷ [] = cc e in
        let rest = ends us vs tail in
        λ i. head i ∷ rest i

told_is : (id xs ys : List ℕ) → success id xs ≡ success id ys → xs ≡ ys
told_is id xs ys e = told_same xs ys (drop_front id (spaced_text xs ++ 10 ∷ 10 ∷ []) (spaced_text ys ++ 10 ∷ 10 ∷ [])
    (sym (append_assoc id (spaced_text xs) (10 ∷ 10 ∷ [])) ∙ ap (drop 1) e ∙ append_assoc id (spaced_text ys) (10 ∷ 10 ∷ [])))

-- what a search told is true
told_true : (s : GtpSession) (k : Colour) (q : GameProblem) (told : List ℕ) → problem_at s k ≡ Some q → MayTell (size_of s) k q told → IsTrueOf s k told
told_true s k q told is (inl (t, wins, e)) = record {
  wins = λ v same. (q, t, is, drop_front (codes "win ") v (turn_text (size_of s) t) (sym same ∙ e), wins.legal, wins.wins);
  losses = λ same. absurd (heads_apart (codes "win " ++ turn_text (size_of s) t) (codes "loss") refl (sym e ∙ same));
}
told_true s k q told is (inr (inl (loses, e))) = record {
  wins = λ v same. absurd (heads_apart (codes "win " ++ v) (codes "loss") refl (sym same ∙ e));
  losses = λ same. (q, is, loses);
}
told_true s k q told is (inr (inr e)) = record {
  wins = λ v same. absurd (heads_apart (codes "win " ++ v) (codes "unknown") refl (sym same ∙ e));
  losses = λ same. absurd (heads_apart (codes "loss") (codes "unknown") refl (sym same ∙ e));
}

met_truly : (s new : GtpSession) (id told bytes : List ℕ) (k : Colour) (o : Option GameProblem) → problem_at s k ≡ o → bytes ≡ success id told → Meets s id (due_or_refusal NoProblem o (tells k)) (reply bytes) new → IsTrueOf s k told
met_truly s new id told bytes k None e is met = absurd (heads_apart (success id told) (failure id (codes "no problem")) refl (sym is ∙ ap (λ out. out.bytes) met.0))
met_truly s new id told bytes k (Some q) e is (text, may, out, kept) =
    let same : told ≡ text = told_is id told text (sym is ∙ ap (λ o. o.bytes) out) in
    told_true s k q told e (subst (MayTell (size_of s) k q) (sym same) may)

answers_truly : (s new : GtpSession) (line bytes : List ℕ) → Serves s line (reply bytes) new → AnswersTruly s line bytes
answers_truly s new line bytes (inr none) id word told words k asked colour is = absurd (heads_apart (success id told) (failure [] (codes "out of memory")) refl (sym is ∙ ap (λ out. out.bytes) none.written))
answers_truly s new line bytes (inl answers) id word told words k asked colour is =
    let met : Meets s id (due_of s (order_of (size_of s) (codes "tsu-solve" ∷ word ∷ words))) (reply bytes) new = subst (λ r. Answers s r (reply bytes) new) asked answers in
    met_truly s new id told bytes k (problem_at s k) refl is (subst (λ o. Meets s id (due_of s (with_value o (λ k. Ok (Solve k)))) (reply bytes) new) colour met)

all_true : (s : GtpSession) (lines : List (List ℕ)) (written : List ℕ) → IsRun s lines written → AllTrue s lines written
all_true s [] written h = h
all_true s (line ∷ lines) written (inl (bytes, rest, new, served, whole, more)) =
    inl (bytes, rest, new, served, answers_truly s new line bytes served, whole, all_true new lines rest more)
all_true s (line ∷ lines) written (inr last) = inr last

pub gtp_is_true : GtpIsTrue
gtp_is_true bytes written (inl (inl (answered, run))) = all_true first_session (raw_lines bytes) written run
gtp_is_true bytes written (inl (inr (failed, rest))) = absurd (cc failed)
gtp_is_true bytes written (inr (failed, rest)) = absurd (cc failed)
