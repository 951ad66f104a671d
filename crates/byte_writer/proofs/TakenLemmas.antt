-- What a writer took, piece by piece.
use Rattle.std.proofs.Common.{◌≡◌, ℕ, ◌+◌, ◌-◌, ◌<◌, List, [], ◌∷◌, ◌++◌, take, drop, get_or, sym, subst, ap, ◌∙◌, refl, length}
use Rattle.std.specs.Prelude.{Bool, true, false, Option, Result, Ok, Err, OnOk, OnErr, flat_map}
use Rattle.std.proofs.lemmas.List.{take-append-drop, append-nil, append_assoc, length-drop, take_more}
use Rattle.std.proofs.lemmas.Grind.{flat_map-append}
use Rattle.std.proofs.Math.Seq.{take-add, take-length}
use Rattle.std.proofs.KnownBytes.{Appends-trans}
use Rattle.std.specs.Io.KnownBytes.{Appends}
use Rattle.byte_writer.specs.Taken.{TakesPart, Puts, Pending, HasPut, CutOff, Finishes}

pub part_taken : (a b : Option (List ℕ)) (text : List ℕ) (d : ℕ) → Appends a b (take d text) → TakesPart a b text
part_taken a b text d p = (take d text, drop d text, sym (take-append-drop d text), p)

pub none_more : (a b c : Option (List ℕ)) (xs : List ℕ) → Appends a b xs → Appends b c [] → Appends a c xs
none_more a b c xs p q = subst (Appends a c) (append-nil xs) (Appends-trans a b c xs [] p q)

pub some_more : (a b c : Option (List ℕ)) (text : List ℕ) (d n : ℕ) → Appends a b (take d text) → Appends b c (take n (drop d text)) → Appends a c (take (d + n) text)
some_more a b c text d n p q = subst (Appends a c) (sym (take-add d n text)) (Appends-trans a b c (take d text) (take n (drop d text)) p q)

-- the rest of a slice from d on
pub rest_is : (text : List ℕ) (d : ℕ) → take (length text - d) (drop d text) ≡ drop d text
rest_is text d = ap (λ n. take n (drop d text)) (sym (length-drop d text)) ∙ take-length (drop d text)

-- ---- texts put one after another

module _ (a b c : Option (List ℕ)) (h m n t u : List ℕ) (p : Puts a b h m t) where
  both_puts : (q r : List ℕ) → m ++ u ≡ q ++ r → h ++ (t ++ u) ≡ (p.0 ++ q) ++ r
  both_puts q r e = sym (append_assoc h t u) ∙ ap (λ x. x ++ u) p.1 ∙ append_assoc p.0 m u ∙ ap (λ x. p.0 ++ x) e ∙ sym (append_assoc p.0 q r)

  puts_then : Puts b c m n u → Puts a c h n (t ++ u)
  puts_then q = (p.0 ++ q.0, both_puts q.0 n q.1, Appends-trans a b c p.0 q.0 p.2 q.2)

  -- a failure in the second text
  puts_cut : TakesPart b c (m ++ u) → TakesPart a c (h ++ (t ++ u))
  puts_cut q = (p.0 ++ q.0, q.1, both_puts q.0 q.1 q.2, Appends-trans a b c p.0 q.0 p.2 q.3)

-- a failure in the first, after which nothing is written
cut_before : (a b c : Option (List ℕ)) (h t u : List ℕ) → TakesPart a b (h ++ t) → Appends b c [] → TakesPart a c (h ++ (t ++ u))
cut_before a b c h t u q none = (q.0, q.1 ++ u, sym (append_assoc h t u) ∙ ap (λ x. x ++ u) q.2 ∙ append_assoc q.0 q.1 u, none_more a b c q.0 q.3 none)

module _ {a b c : Option (List ℕ)} {g m n : Pending} {t u : List ℕ} (p : HasPut a b g m t) (q : HasPut b c m n u) where
  cut_there : (f : Bool) → m.failed ≡ f → n.failed ≡ true → g.failed ≡ false → TakesPart a c (g.held ++ (t ++ u))
  cut_there false e failed before = puts_cut a b c g.held m.held n.held t u (p.whole e).1 (q.cut failed e)
  cut_there true e failed before = cut_before a b c g.held t u (p.cut e before) (q.stays e).1

  -- one text and then another
  pub then_put : HasPut a c g n (t ++ u)
  then_put = record {
    whole = λ e. let r = q.whole e in let s = p.whole r.0 in (s.0, puts_then a b c g.held m.held n.held t u s.1 r.1);
    cut = cut_there m.failed refl;
    stays = λ e. let s = p.stays e in let r = q.stays s.0 in (r.0, none_more a b c [] s.1 r.1);
  }

-- ---- the texts of a list

module _ {X : Type 0} (f : X → List ℕ) (xs : List X) (i : ℕ) (x : X) (within : i < length xs) (is : x ≡ get_or xs i x) where
  one_more : flat_map f (take (i + 1) xs) ≡ flat_map f (take i xs) ++ f x
  one_more =
      ap (flat_map f) (take_more xs i x within ∙ ap (λ (y : X). take i xs ++ y ∷ []) (sym is))
      ∙ flat_map-append f (take i xs) (x ∷ []) ∙ ap (λ t. flat_map f (take i xs) ++ t) (append-nil (f x))

  -- after a text w, one text more
  pub next_put : (w : List ℕ) {a b c : Option (List ℕ)} {g m n : Pending} → HasPut a b g m (w ++ flat_map f (take i xs)) → HasPut b c m n (f x) → HasPut a c g n (w ++ flat_map f (take (i + 1) xs))
  next_put w {a = a} {c = c} {g = g} {n = n} p q =
      subst (HasPut a c g n) (append_assoc w (flat_map f (take i xs)) (f x) ∙ ap (λ t. w ++ t) (sym one_more)) (then_put p q)

-- ---- what is pending at the end is written

abbrev pub nothing : Pending
nothing = record { held = []; failed = false }

module _ {a b : Option (List ℕ)} {n : Pending} {t : List ℕ} (p : HasPut a b nothing n t) where
  cut_at_end : (c : Option (List ℕ)) (f : Bool) → n.failed ≡ f → CutOff f b c n.held → TakesPart a c t
  cut_at_end c true e none = let q = p.cut e refl in (q.0, q.1, q.2, none_more a b c q.0 q.3 none)
  cut_at_end c false e q = let r = (p.whole e).1 in
      (r.0 ++ q.0, q.1, r.1 ∙ ap (λ x. r.0 ++ x) q.2 ∙ sym (append_assoc r.0 q.0 q.1), Appends-trans a b c r.0 q.0 r.2 q.3)

  pub all_written : {T E : Type 0} (c : Option (List ℕ)) (r : Result T E) → Finishes r b c n → OnOk r (Appends a c t)
  all_written c (Ok x) q = let s = (p.whole q.0).1 in subst (Appends a c) (sym s.1) (Appends-trans a b c s.0 n.held s.2 q.1)
  all_written c (Err e) q = tt

  pub part_written : {T E : Type 0} (c : Option (List ℕ)) (r : Result T E) → Finishes r b c n → OnErr r (TakesPart a c t)
  part_written c (Ok x) q = tt
  part_written c (Err e) q = cut_at_end c n.failed refl q

-- ---- what is held is written, and then a text

pub front_cut : (a b : Option (List ℕ)) (h t : List ℕ) → TakesPart a b h → TakesPart a b (h ++ t)
front_cut a b h t q = (q.0, q.1 ++ t, ap (λ x. x ++ t) q.2 ∙ append_assoc q.0 q.1 t, q.3)

pub second_cut : (a b c : Option (List ℕ)) (h t : List ℕ) → Appends a b h → TakesPart b c t → TakesPart a c (h ++ t)
second_cut a b c h t p q = (h ++ q.0, q.1, ap (λ x. h ++ x) q.2 ∙ sym (append_assoc h q.0 q.1), Appends-trans a b c h q.0 p q.3)

module _ (a b c : Option (List ℕ)) (g n : Pending) (t : List ℕ) (sound : g.failed ≡ false) (p : Appends a b g.held) where
  -- both were written
  pub put_written : n ≡ nothing → Appends b c t → HasPut a c g n t
  put_written e q = record {
    whole = λ f. (sound, (g.held ++ t, sym (ap (λ (x : Pending). (g.held ++ t) ++ x.held) e ∙ append-nil (g.held ++ t)), Appends-trans a b c g.held t p q));
    cut = λ f before. absurd (let x : true ≡ false = sym f ∙ ap (λ (x : Pending). x.failed) e in cc);
    stays = λ f. absurd (let x : true ≡ false = sym f ∙ sound in cc);
  }

  -- the second write failed
  pub put_failed : n.failed ≡ true → TakesPart b c t → HasPut a c g n t
  put_failed e q = record {
    whole = λ f. absurd (let x : true ≡ false = sym e ∙ f in cc);
    cut = λ f before. second_cut a b c g.held t p q;
    stays = λ f. absurd (let x : true ≡ false = sym f ∙ sound in cc);
  }

-- ---- a text of parts, of which some are put and some are left

abbrev pub SoFar : Option (List ℕ) → Option (List ℕ) → Pending → Pending → List ℕ → List ℕ → Type 0
SoFar a b g m whole left = (done : List ℕ) × HasPut a b g m done × (done ++ left ≡ whole)

module _ (a b : Option (List ℕ)) (g m : Pending) (whole left : List ℕ) (p : SoFar a b g m whole left) where
  pub part_put : (t rest : List ℕ) → left ≡ t ++ rest → {c : Option (List ℕ)} {n : Pending} → HasPut b c m n t → SoFar a c g n whole rest
  part_put t rest is q = (p.0 ++ t, then_put p.1 q, append_assoc p.0 t rest ∙ ap (λ x. p.0 ++ x) (sym is) ∙ p.2)

  pub all_put : left ≡ [] → HasPut a b g m whole
  all_put none = subst (HasPut a b g m) (sym (append-nil p.0) ∙ ap (λ x. p.0 ++ x) (sym none) ∙ p.2) p.1

-- a text under another name
pub put_as : {a b : Option (List ℕ)} {g n : Pending} {t : List ℕ} (whole : List ℕ) → whole ≡ t → HasPut a b g n t → HasPut a b g n whole
put_as {a = a} {b = b} {g = g} {n = n} whole is p = subst (HasPut a b g n) (sym is) p

-- a text was written, and a failure in the second
pub then_cut : {E : Type 0} (r : Result (Unit {0}) E) (a b c : Option (List ℕ)) (h t : List ℕ) → Appends a b h → OnErr r (TakesPart b c t) → OnErr r (TakesPart a c (h ++ t))
then_cut (Ok x) a b c h t p q = tt
then_cut (Err e) a b c h t p q = second_cut a b c h t p q
