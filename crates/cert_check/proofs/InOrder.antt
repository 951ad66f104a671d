-- Colourings put in order, each once: what a sort and a drop of equals leave, and that it is known by what stands on it.
use Rattle.cert_check.proofs.Common.{◌≡◌, ℕ, Bool, true, false, ◌||◌, cond, List, [], ◌∷◌, length, IsTrue, Ordering, Less, Equal, Greater, refl, sym, ap, ◌∙◌, subst, inl, inr, is_lt, ordering_reverse, Cell, same_cells, same_cells_eq, text_order, same_cells_ties, has_occurred, cells_before, is_ascending, Ascends, SameMembers, or_left}
use Rattle.std.specs.List.{dedup, dedup_from}
use Rattle.std.specs.List.Sorted.{IsStrictlySortedBy, IsSorted, IsPermutation}
use Rattle.std.proofs.lemmas.List.Kept.{IsStrictlySortedBy-dedup}
use Rattle.std.proofs.lemmas.List.Sorted.{list_any-IsPermutation}
use Rattle.cert_check.proofs.Ascending.{order, above_all, none_among, above_from, same_from, is_less}
use Rattle.cert_check.proofs.Lists.{before_is}
use Rattle.cert_check.proofs.Members.{Member, and_first, and_second, and_both}
use Rattle.cert_check.proofs.Game.{same_cells-refl, occurred-member, member-occurred}
use Rattle.std.proofs.Math.Bool.{or_self_left}

-- WHAT A SORT AND A DROP OF EQUALS LEAVE

ascends_strict : (cs : List (List Cell)) → IsStrictlySortedBy text_order cs → Ascends cs
unfolding IsStrictlySortedBy
ascends_strict [] h = tt
ascends_strict (c ∷ []) h = (tt, tt)
ascends_strict (c ∷ d ∷ cs) h = (h.0.0, ascends_strict (d ∷ cs) h.1)

occurred_from : (k : List Cell) (cs : List (List Cell)) (c : List Cell) → has_occurred (dedup_from same_cells k cs) c ≡ has_occurred (k ∷ cs) c
occurred_from k [] c = refl
occurred_from k (d ∷ cs) c = at (same_cells d k) refl (occurred_from k cs c) (occurred_from d cs c)
  where
    at : (b : Bool) → same_cells d k ≡ b → has_occurred (dedup_from same_cells k cs) c ≡ has_occurred (k ∷ cs) c → has_occurred (dedup_from same_cells d cs) c ≡ has_occurred (d ∷ cs) c
        → has_occurred (cond b (dedup_from same_cells k cs) (k ∷ dedup_from same_cells d cs)) c ≡ has_occurred (k ∷ d ∷ cs) c
    at true e here there =
        here ∙ sym (or_self_left (same_cells c k) (has_occurred cs c))
        ∙ ap (λ (x : List Cell). same_cells c k || (same_cells c x || has_occurred cs c)) (sym (same_cells_eq d k e))
    at false e here there = ap (λ b. same_cells c k || b) there

pub in_order : (xs ds : List (List Cell)) → IsSorted text_order xs → ds ≡ dedup same_cells xs → Ascends ds
in_order xs ds up is = subst Ascends (sym is) (ascends_strict (dedup same_cells xs) (IsStrictlySortedBy-dedup order same_cells_ties xs up))

pub same_left : (cs xs ds : List (List Cell)) → IsPermutation cs xs → ds ≡ dedup same_cells xs → (c : List Cell) → has_occurred ds c ≡ has_occurred cs c
same_left cs xs ds moved is c = ap (λ (l : List (List Cell)). has_occurred l c) is ∙ dropped xs ∙ sym (list_any-IsPermutation (same_cells c) cs xs moved)
  where
    dropped : (l : List (List Cell)) → has_occurred (dedup same_cells l) c ≡ has_occurred l c
    dropped [] = refl
    dropped (d ∷ l) = occurred_from d l c

-- KNOWN BY WHAT STANDS ON IT

stands_first : (c : List Cell) (cs : List (List Cell)) → has_occurred (c ∷ cs) c ≡ true
stands_first c cs = or_left (same_cells c c) (has_occurred cs c) (same_cells-refl c)

below_all : (c d : List Cell) (ds : List (List Cell)) → text_order c d ≡ Less → Ascends (d ∷ ds) → has_occurred (d ∷ ds) c ≡ false
below_all c d ds e up = none_among c (d ∷ ds) (e, above_from c d ds e (above_all d ds up))

pub same_list : (cs ds : List (List Cell)) → Ascends cs → Ascends ds → SameMembers cs ds → cs ≡ ds
same_list [] [] up vp same = refl
same_list [] (d ∷ ds) up vp same = absurd (cc (same d ∙ stands_first d ds))
same_list (c ∷ cs) [] up vp same = absurd (cc (sym (same c) ∙ stands_first c cs))
same_list (c ∷ cs) (d ∷ ds) up vp same = at (text_order c d) refl (same_list cs ds up.1 vp.1)
  where
    tails : c ≡ d → SameMembers cs ds
    tails e x = go (same_cells x c) refl
      where
        go : (b : Bool) → same_cells x c ≡ b → has_occurred cs x ≡ has_occurred ds x
        go true h =
            let is : x ≡ c = same_cells_eq x c h in
            let one : has_occurred cs x ≡ false = subst (λ (y : List Cell). has_occurred cs y ≡ false) (sym is) (none_among c cs (above_all c cs up)) in
            let two : has_occurred ds x ≡ false = subst (λ (y : List Cell). has_occurred ds y ≡ false) (sym (is ∙ e)) (none_among d ds (above_all d ds vp)) in
            one ∙ sym two
        go false h =
            sym (ap (λ b. b || has_occurred cs x) h) ∙ same x ∙ ap (λ b. b || has_occurred ds x) (ap (same_cells x) (sym e) ∙ h)

    at : (o : Ordering) → text_order c d ≡ o → (SameMembers cs ds → cs ≡ ds) → c ∷ cs ≡ d ∷ ds
    at Less e rest = absurd (cc (sym (below_all c d ds e vp) ∙ sym (same c) ∙ stands_first c cs))
    at Greater e rest = absurd (cc (sym (below_all d c cs (order.antisymm d c ∙ ap ordering_reverse e) up) ∙ same d ∙ stands_first d ds))
    at Equal e rest =
        let is : d ≡ c = same_cells_eq d c (same_from d c e) in
        ap (λ x. x ∷ cs) (sym is) ∙ ap (λ l. d ∷ l) (rest (tails (sym is)))

-- BY THE ORDER OF TEXTS OF ONE LENGTH

abbrev pub AreLong : ℕ → List (List Cell) → Type 0
AreLong m cs = (c : List Cell) → Member c cs → length c ≡ m

pub ascending_is : (m : ℕ) (cs : List (List Cell)) → AreLong m cs → Ascends cs → IsTrue (is_ascending cs)
ascending_is m [] long up = refl
ascending_is m (c ∷ []) long up = refl
ascending_is m (c ∷ d ∷ cs) long up =
    and_both (cells_before c d) (is_ascending (d ∷ cs))
    (sym (before_is c d (long c (inl refl) ∙ sym (long d (inr (inl refl))))) ∙ ap is_lt up.0)
    (ascending_is m (d ∷ cs) (λ x h. long x (inr h)) up.1)

pub ascends_is : (m : ℕ) (cs : List (List Cell)) → AreLong m cs → IsTrue (is_ascending cs) → Ascends cs
ascends_is m [] long up = tt
ascends_is m (c ∷ []) long up = (tt, tt)
ascends_is m (c ∷ d ∷ cs) long up = (
  is_less (text_order c d) (before_is c d (long c (inl refl) ∙ sym (long d (inr (inl refl)))) ∙ and_first (cells_before c d) (is_ascending (d ∷ cs)) up),
  ascends_is m (d ∷ cs) (λ x h. long x (inr h)) (and_second (cells_before c d) (is_ascending (d ∷ cs)) up),
)

pub long_left : (m : ℕ) (cs ds : List (List Cell)) → SameMembers ds cs → AreLong m cs → AreLong m ds
long_left m cs ds same long c h = long c (occurred-member cs c (sym (same c) ∙ member-occurred ds c h))
