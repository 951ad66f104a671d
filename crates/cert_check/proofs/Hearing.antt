-- What was heard of a source: nothing, a line more, and the verdict where it ends.
use Rattle.cert_check.proofs.Common.{◌≡◌, ℕ, suc, ◌+◌, ◌<◌, ◌^◌, Bool, List, [], ◌∷◌, ◌++◌, length, Option, Some, None, Result, Ok, Err, OnSome, option_map, refl, sym, ap, ap₂, ◌∙◌, subst, inl, inr, arith, append_assoc, append-nil, map-append, Colour, Cell, GameProblem, Line, line_value, line_answer, SourceFault, Why, verdict_by, accepted, rejected, Machine, begun, goes_on, stops, taken, ended, after_step, verdict_from, line_values, AcceptsBy, AsksTo, IsToldBy, Heard}
use Rattle.proof_cert.specs.Given.{lines_counted}
use Rattle.proof_cert.specs.declared.line.Line as code
use Rattle.proof_cert.specs.declared.source.SourceFault.TheVariants as fault
use Rattle.cert_check.specs.Checks.{RejectsAtBy, FailsAtBy, IsReachedBy}
use Rattle.cert_check.specs.declared.kind.Kind.{Kind}
use Rattle.cert_check.proofs.Taking.{asks_before, asks_there, took_more, one_more}
use Rattle.cert_check.proofs.Faults.{ended_behind}

pub either_way : {F : Type 0} (o : Option F) (P : Type 0) → (o ≡ None → P) → OnSome o P → P
either_way None P f h = f refl
either_way (Some e) P f h = h

values_more : (n : ℕ) (ls : List (Option code.Line)) (l : Option code.Line) (rest : List (Option Line)) → line_values n (ls ++ l ∷ []) ++ rest ≡ line_values n ls ++ (option_map (line_value n) l ∷ rest)
values_more n ls l rest = ap (λ vs. vs ++ rest) (map-append (option_map (line_value n)) ls (l ∷ [])) ∙ append_assoc (line_values n ls) (option_map (line_value n) l ∷ []) rest

module _ {S : Type 0} {kind : Kind} {gives : S → Result (Option Line) SourceFault → S → Type 0} {number : S → ℕ} {n : ℕ} {q : GameProblem} {s : S} where
  -- the source gave this line, and the judge's problem is the one that was heard of
  pub heard_more : {t u : S} {m m' : Machine} {p : GameProblem} {k : ℕ} {o : Option code.Line} (l : code.Line) → Heard kind gives number n q s t m → p ≡ q → k ≡ n → o ≡ Some l → gives t (Ok (option_map (line_value k) o)) u → number u ≡ number t + lines_counted {A = code.Line} (Ok o)
      → ((shape : List Cell → Bool) → IsToldBy kind p.game shape → taken shape p m (Some (line_value p.game.size l)) ≡ goes_on m') → m'.place ≡ suc m.place → Heard kind gives number n q s u m'
  heard_more {t} {u} {m} {m'} l h same size is given count step place =
      let here = subst (λ (a : Result (Option Line) SourceFault). gives t a u) (ap₂ (λ (i : ℕ) (x : Option code.Line). Ok (option_map (line_value i) x)) size is) given in
      let one : number u ≡ number t + 1 = count ∙ ap (λ (x : Option code.Line). number t + lines_counted {A = code.Line} (Ok x)) is in
      let goes = subst (λ (x : GameProblem). (shape : List Cell → Bool) → IsToldBy kind x.game shape → taken shape x m (Some (line_value x.game.size l)) ≡ goes_on m') same step in
      let had = h.counted in
      let put = h.placed in
      let long = one_more gives n s h.taken (Some l) in
      record {
        taken = h.taken ++ Some l ∷ [];
        took = took_more gives n s h.taken t u (Some l) h.took here;
        counted = omega (arith, one, had, long);
        placed = omega (arith, place, put, long);
        so_far = λ shape told rest. ap (verdict_from shape q begun) (values_more q.game.size h.taken (Some l) rest) ∙ h.so_far shape told (option_map (line_value q.game.size) (Some l) ∷ rest) ∙ ap (λ st. after_step st (λ k. verdict_from shape q k rest)) (goes shape told);
      }

  heard_all : (shape : List Cell → Bool) → IsToldBy kind q.game shape → {t : S} {m : Machine} (h : Heard kind gives number n q s t m) → verdict_by shape q (line_values q.game.size h.taken) ≡ ended m
  heard_all shape told h = ap (verdict_from shape q begun) (sym (append-nil (line_values q.game.size h.taken))) ∙ h.so_far shape told []

  pub heard_accepts : {t u : S} {m : Machine} {x : Colour} {a : Result (Option Line) SourceFault} → Heard kind gives number n q s t m → (shape : List Cell → Bool) → IsToldBy kind q.game shape → a ≡ Ok None → gives t a u → ended m ≡ accepted x → AcceptsBy shape gives n q s x
  heard_accepts {t} {u} h shape told none last said = record { taken = h.taken; left = t; took = h.took; ended = (u, subst (λ (a : Result (Option Line) SourceFault). gives t a u) none last); accepted = heard_all shape told h ∙ said }

  pub heard_ends : {t u : S} {m : Machine} {p : ℕ} {w : Why} {a : Result (Option Line) SourceFault} → Heard kind gives number n q s t m → (shape : List Cell → Bool) → IsToldBy kind q.game shape → a ≡ Ok None → gives t a u → ended m ≡ rejected p w → RejectsAtBy shape gives n q s p w
  heard_ends {t} {u} h shape told none last said = record { taken = h.taken; left = t; took = h.took; there = inl (u, subst (λ (a : Result (Option Line) SourceFault). gives t a u) none last); rejected = heard_all shape told h ∙ said }

  pub heard_rejects : {t u : S} {m : Machine} {p : ℕ} {w : Why} {a : Result (Option Line) SourceFault} → Heard kind gives number n q s t m → (shape : List Cell → Bool) → IsToldBy kind q.game shape → (l : Option code.Line) → a ≡ line_answer (option_map (line_value n) l) → gives t a u
      → taken shape q m (option_map (line_value q.game.size) l) ≡ stops p w → p ≡ m.place → RejectsAtBy shape gives n q s p w
  heard_rejects {t} {u} h shape told l is given step at =
      let put = h.placed in
      let long = one_more gives n s h.taken l in
      record {
        taken = h.taken ++ l ∷ [];
        left = u;
        took = took_more gives n s h.taken t u l h.took (subst (λ (a : Result (Option Line) SourceFault). gives t a u) is given);
        there = inr (omega (arith, at, put, long));
        rejected =
            ap (verdict_from shape q begun) (sym (append-nil (line_values q.game.size (h.taken ++ l ∷ []))))
            ∙ ap (verdict_from shape q begun) (values_more q.game.size h.taken l []) ∙ h.so_far shape told (option_map (line_value q.game.size) l ∷ []) ∙ ap (λ st. after_step st (λ k. verdict_from shape q k [])) step;
      }

  -- none of the lines that were taken is faulty
  heard_faultless : {t : S} {m : Machine} (h : Heard kind gives number n q s t m) (shape : List Cell → Bool) → IsToldBy kind q.game shape → (p : ℕ) (w : Why) → verdict_by shape q (line_values q.game.size h.taken) ≡ rejected p w → length h.taken < p
  heard_faultless {t} {m} h shape told p w said =
      let put = h.placed in
      let here = ended_behind m.place p m.phase w (sym (heard_all shape told h) ∙ said) in
      omega (arith, here, put)

  pub heard_reaches : {t : S} {m : Machine} {p : ℕ} → Heard kind gives number n q s t m → (shape : List Cell → Bool) → IsToldBy kind q.game shape → p ≡ m.place → IsReachedBy shape gives n q s p
  heard_reaches {t} h shape told at = record { taken = h.taken; left = t; took = h.took; behind = at ∙ h.placed; faultless = heard_faultless h shape told }

  pub heard_fails : {t u : S} {m : Machine} {p : ℕ} {e : SourceFault} → Heard kind gives number n q s t m → (shape : List Cell → Bool) → IsToldBy kind q.game shape → e ≡ fault.Read → gives t (Err e) u → p ≡ m.place → p < 2 ^ 63 → FailsAtBy shape gives number n q s p
  heard_fails {t} {u} h shape told is last at small =
      let put = h.placed in
      record {
        taken = h.taken;
        left = t;
        took = h.took;
        counted = h.counted;
        few = omega (arith, small, at, put);
        failed = (u, subst (λ (d : SourceFault). gives t (Err d) u) is last);
        behind = at ∙ put;
        faultless = heard_faultless h shape told;
      }

  -- the source was not asked for a line after this one
  pub heard_asks : {t : S} {m : Machine} {p : ℕ} → Heard kind gives number n q s t m → p ≡ m.place → AsksTo gives s p t
  heard_asks {t} {m} {p} h at = asks_before gives n s t h.taken p h.took (at ∙ h.placed)

  pub heard_asks_there : {t u : S} {m : Machine} {r : Result (Option Line) SourceFault} {p : ℕ} → Heard kind gives number n q s t m → gives t r u → p ≡ m.place → AsksTo gives s p u
  heard_asks_there {t} {u} {m} {r} {p} h one at = asks_there gives n s t u h.taken r p h.took one (at ∙ h.placed)
