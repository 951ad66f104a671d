-- Which stones of the killer's vanish from a state: those that are unsafe. What is lost surely is lost on the board.
use Rattle.safe_groups.proofs.Common.{sym, subst, refl, ◌≡◌, ◌≢◌, ◌∙◌, List, ℕ, ap, IsTrue, true, false, Bool, inl, inr, [], ◌∷◌, ◌*◌, ◌<◌, ◌≤◌, ◌⊎◌, ◌&&◌, cond, not, length, set, arith, get_or_past, eq_same_cell, same_cell_eq, adjacent_on_board, reaches_path, cell_at, same_cell, adjacent, reaches, IsPath, Reaches, Cell, Empty, Area, own, theirs, IsWalled, Fits, length-map-range_with_len, get_or-map-range_with_len, and_left, and_right, and_both}
use Rattle.go_points.proofs.Lists.{not_true}
use Rattle.safe_groups.proofs.Opening.{cell_cases, not_both}
use Rattle.safe_groups.proofs.Fitting.{stone_on}
use Rattle.safe_groups.proofs.Moving.{is_or_not, at_put, past_put}
unfoldable use Rattle.dead_groups.specs.Kills.{freed, clear_unsafe}
use Rattle.dead_groups.specs.Kills.{is_unsafe, IsSureLoss}

module _ (a : Area) (c : List Cell) where
  pub freed_at : (p : ℕ) → p < a.size * a.size → cell_at (freed a c) p ≡ cond (a.kept p) Empty (cell_at c p)
  unfolding freed
  freed_at p on = get_or-map-range_with_len (λ q. cond (a.kept q) Empty (cell_at c q)) 0 (a.size * a.size) p p Empty on (omega arith)

  pub length-freed : length (freed a c) ≡ a.size * a.size
  unfolding freed
  length-freed = length-map-range_with_len (λ q. cond (a.kept q) Empty (cell_at c q)) 0 (a.size * a.size)

  pub kept_free : (p : ℕ) → p < a.size * a.size → a.kept p ≡ true → cell_at (freed a c) p ≡ Empty
  kept_free p on is = freed_at p on ∙ ap (λ b. cond b Empty (cell_at c p)) is

  pub not_kept : (p : ℕ) → p < a.size * a.size → a.kept p ≡ false → cell_at (freed a c) p ≡ cell_at c p
  not_kept p on is = freed_at p on ∙ ap (λ b. cond b Empty (cell_at c p)) is

  free_free : (p : ℕ) → p < a.size * a.size → cell_at c p ≡ Empty → cell_at (freed a c) p ≡ Empty
  free_free p on e = freed_at p on ∙ go (a.kept p)
    where
      go : (b : Bool) → cond b Empty (cell_at c p) ≡ Empty
      go true = refl
      go false = e

  pub length-clear_unsafe : length (clear_unsafe a c) ≡ a.size * a.size
  unfolding clear_unsafe
  length-clear_unsafe = length-map-range_with_len (λ p. cond (is_unsafe a c p) Empty (cell_at c p)) 0 (a.size * a.size)

  pub clear_unsafe_at : (p : ℕ) → p < a.size * a.size → cell_at (clear_unsafe a c) p ≡ cond (is_unsafe a c p) Empty (cell_at c p)
  unfolding clear_unsafe
  clear_unsafe_at p on = get_or-map-range_with_len (λ q. cond (is_unsafe a c q) Empty (cell_at c q)) 0 (a.size * a.size) p p Empty on (omega arith)

  pub clear_unsafe_past : (p : ℕ) → a.size * a.size ≤ p → cell_at (clear_unsafe a c) p ≡ Empty
  clear_unsafe_past p past = get_or_past (clear_unsafe a c) p Empty (omega (arith, length-clear_unsafe, past))

  -- what is unsafe: one of the killer's stones that is not kept, and has no way out
  pub record Unsafe (p : ℕ) : Type 0 where
    pub on_board : p < a.size * a.size
    pub loose : a.kept p ≡ false
    pub own : cell_at c p ≡ own a
    pub stuck : reaches a.size (freed a c) p Empty ≡ false

  pub unsafe_is : (p : ℕ) → is_unsafe a c p ≡ true → Unsafe p
  unsafe_is p h = go (a.kept p) refl
    where
      stone : cell_at (freed a c) p ≡ own a
      stone = same_cell_eq _ _ (and_left (same_cell (cell_at (freed a c) p) (own a)) (not (reaches a.size (freed a c) p Empty)) h)

      on : p < a.size * a.size
      on = stone_on a.size (freed a c) a.keeper p length-freed stone

      go : (b : Bool) → a.kept p ≡ b → Unsafe p
      go true e = absurd (cc (kept_free p on e, stone))
      go false e = record {
        on_board = on;
        loose = e;
        own = sym (not_kept p on e) ∙ stone;
        stuck = not_true (reaches a.size (freed a c) p Empty) (and_right (same_cell (cell_at (freed a c) p) (own a)) (not (reaches a.size (freed a c) p Empty)) h);
      }

  barred : (p : ℕ) → Unsafe p → (us : List ℕ) × IsPath a.size (freed a c) (own a) Empty p us → ⊥
  barred p is path =
      let here : cell_at (freed a c) p ≡ own a = not_kept p is.on_board is.loose ∙ is.own in
      let found = (reaches_path a.size (freed a c) p Empty).1 ((λ e. cc (here, e)), (path.0, subst (λ x. IsPath a.size (freed a c) x Empty p path.0) (sym here) path.1)) in
      cc (found, is.stuck)

  -- beside it nothing is empty or kept, and the killer's stones are unsafe
  pub beside_free : (p q : ℕ) → is_unsafe a c p ≡ true → IsTrue (adjacent a.size p q) → cell_at c q ≡ Empty → ⊥
  beside_free p q h adj free =
      let is = unsafe_is p h in
      barred p is (q ∷ [], (not_kept p is.on_board is.loose ∙ is.own, adj, free_free q (adjacent_on_board a.size p q adj).1 free))

  pub beside_own : (p q : ℕ) → is_unsafe a c p ≡ true → IsTrue (adjacent a.size p q) → cell_at c q ≡ own a → is_unsafe a c q ≡ true
  beside_own p q h adj mine = go (a.kept q) refl
    where
      is : Unsafe p
      is = unsafe_is p h

      on : q < a.size * a.size
      on = (adjacent_on_board a.size p q adj).1

      here : cell_at (freed a c) p ≡ own a
      here = not_kept p is.on_board is.loose ∙ is.own

      none : cell_at (freed a c) q ≡ own a → (v : Bool) → reaches a.size (freed a c) q Empty ≡ v → v ≡ false
      none there true e =
          let r = (reaches_path a.size (freed a c) q Empty).0 e in
          absurd (barred p is (q ∷ r.1.0, (here, adj, subst (λ x. IsPath a.size (freed a c) x Empty q r.1.0) there r.1.1)))
      none there false e = refl

      go : (b : Bool) → a.kept q ≡ b → is_unsafe a c q ≡ true
      go true e = absurd (barred p is (q ∷ [], (here, adj, kept_free q on e)))
      go false e =
          let there : cell_at (freed a c) q ≡ own a = not_kept q on e ∙ mine in
          and_both _ _ (eq_same_cell _ _ there) (ap not (none there (reaches a.size (freed a c) q Empty) refl))

  -- A stone that is not unsafe breathes on each board that has the state's stones and empty points, if kept stones do there.
  module _ (walled : IsWalled a c) (b : List Cell) (mine : (p : ℕ) → cell_at c p ≡ own a → cell_at b p ≡ own a) (none : (p : ℕ) → cell_at c p ≡ Empty → cell_at b p ≡ Empty)
      (breathe : (p : ℕ) → IsTrue (a.kept p) → Reaches a.size b p Empty) where
    path_of : (p : ℕ) → IsTrue (a.kept p) → (us : List ℕ) × IsPath a.size b (own a) Empty p us
    path_of p is = let r = breathe p is in (r.1.0, subst (λ x. IsPath a.size b x Empty p r.1.0) (mine p (walled.kept p is)) r.1.1)

    way_out : (p : ℕ) (qs : List ℕ) → cell_at c p ≡ own a → IsPath a.size (freed a c) (own a) Empty p qs → a.kept p ≡ false → (us : List ℕ) × IsPath a.size b (own a) Empty p us
    way_out p [] is path loose = absurd (cc (is, path, not_kept p (stone_on a.size c a.keeper p walled.full is) loose))
    way_out p (q ∷ []) is path loose = go (a.kept q) refl
      where
        on : q < a.size * a.size
        on = (adjacent_on_board a.size p q path.1).1

        go : (v : Bool) → a.kept q ≡ v → (us : List ℕ) × IsPath a.size b (own a) Empty p us
        go true e = let rest = path_of q e in (q ∷ rest.0, (mine p is, path.1, rest.1))
        go false e = (q ∷ [], (mine p is, path.1, none q (sym (not_kept q on e) ∙ path.2)))
    way_out p (q ∷ r ∷ rs) is path loose = go (a.kept q) refl (λ e. way_out q (r ∷ rs) (sym (not_kept q on e) ∙ path.2.0) path.2 e)
      where
        on : q < a.size * a.size
        on = (adjacent_on_board a.size p q path.1).1

        go : (v : Bool) → a.kept q ≡ v → (a.kept q ≡ false → (us : List ℕ) × IsPath a.size b (own a) Empty q us) → (us : List ℕ) × IsPath a.size b (own a) Empty p us
        go true e rest = absurd (cc (kept_free q on e, path.2.0))
        go false e rest = let further = rest e in (q ∷ further.0, (mine p is, path.1, further.1))

    pub safe_breathes : (p : ℕ) → cell_at c p ≡ own a → is_unsafe a c p ≡ false → Reaches a.size b p Empty
    safe_breathes p is safe = go (a.kept p) refl
      where
        on : p < a.size * a.size
        on = stone_on a.size c a.keeper p walled.full is

        reached : (x y : Bool) → x ≡ true → (x && not y) ≡ false → y ≡ true
        reached true true e k = refl
        reached true false e k = absurd (cc k)
        reached false y e k = absurd (cc e)

        go : (v : Bool) → a.kept p ≡ v → Reaches a.size b p Empty
        go true e = breathe p e
        go false e =
            let here : cell_at (freed a c) p ≡ own a = not_kept p on e ∙ is in
            let r : Reaches a.size (freed a c) p Empty = (reaches_path a.size (freed a c) p Empty).0 (reached (same_cell (cell_at (freed a c) p) (own a)) (reaches a.size (freed a c) p Empty) (eq_same_cell _ _ here) safe) in
            let path = way_out p r.1.0 is (subst (λ x. IsPath a.size (freed a c) x Empty p r.1.0) here r.1.1) e in
            let there : cell_at b p ≡ own a = mine p is in
            ((λ free. cc (there, free)), (path.0, subst (λ x. IsPath a.size b x Empty p path.0) (sym there) path.1))

-- The other side's move in a state, with losses that are sure.
module _ (a : Area) (b c : List Cell) (fits : Fits a b c) (walled : IsWalled a c) (x : ℕ) (on : x < a.size * a.size) (free : cell_at c x ≡ Empty) (sure : IsSureLoss a c x) where
  abbrev after : List Cell
  after = set c x (theirs a)

  at_x : cell_at (set c x (theirs a)) x ≡ theirs a
  at_x = at_put a.size c x (theirs a) walled.full on

  pub own_before : (p : ℕ) → cell_at (set c x (theirs a)) p ≡ own a → cell_at c p ≡ own a
  own_before p e = elim (is_or_not p x) [
    | inl here ↦ absurd (not_both a (cell_at (set c x (theirs a)) p) e (ap (cell_at (set c x (theirs a))) here ∙ at_x))
    | inr ne ↦ sym (past_put c x p (theirs a) ne) ∙ e
  ]

  -- beside an unsafe stone are other unsafe ones, the stone that was just played, and stones of the other side's that are there
  beside_unsafe : (p q : ℕ) → is_unsafe a (set c x (theirs a)) p ≡ true → IsTrue (adjacent a.size p q) → (is_unsafe a (set c x (theirs a)) q ≡ true) ⊎ ((q ≡ x) ⊎ ((q ≢ x) × (cell_at b q ≡ theirs a)))
  beside_unsafe p q h adj = elim (cell_cases a (cell_at (set c x (theirs a)) q)) [
    | inl none ↦ absurd (beside_free a (set c x (theirs a)) p q h adj none)
    | inr stone ↦ elim stone [
      | inl mine ↦ inl (beside_own a (set c x (theirs a)) p q h adj mine)
      | inr there ↦ elim (is_or_not q x) [
        | inl here ↦ inr (inl here)
        | inr ne ↦
            let before : cell_at c q ≡ theirs a = sym (past_put c x q (theirs a) ne) ∙ there in
            inr (inr (ne, fits.has_theirs q before (sure p q h adj before)))
      ]
    ]
  ]

  unsafe_there : (p : ℕ) → is_unsafe a (set c x (theirs a)) p ≡ true → cell_at b p ≡ own a
  unsafe_there p h = fits.has_own p (own_before p (unsafe_is a (set c x (theirs a)) p h).own)

  -- On the board with that stone an unsafe one has no way to an empty point.
  module _ (full : length b ≡ a.size * a.size) where
    put_x : cell_at (set b x (theirs a)) x ≡ theirs a
    put_x = at_put a.size b x (theirs a) full on

    shut_at : (q : ℕ) → ((q ≡ x) ⊎ ((q ≢ x) × (cell_at b q ≡ theirs a))) → cell_at (set b x (theirs a)) q ≡ theirs a
    shut_at q (inl here) = ap (cell_at (set b x (theirs a))) here ∙ put_x
    shut_at q (inr there) = past_put b x q (theirs a) there.0 ∙ there.1

    own_put : (p : ℕ) → is_unsafe a (set c x (theirs a)) p ≡ true → cell_at (set b x (theirs a)) p ≡ own a
    own_put p h =
        let mine : cell_at b p ≡ own a = unsafe_there p h in
        past_put b x p (theirs a) (λ here. cc (mine, ap (cell_at b) here, fits.has_empty x free)) ∙ mine

    shut : (p : ℕ) (qs : List ℕ) → is_unsafe a (set c x (theirs a)) p ≡ true → IsPath a.size (set b x (theirs a)) (own a) Empty p qs → ⊥
    shut p [] h path = cc (own_put p h, path)
    shut p (q ∷ []) h path = elim (beside_unsafe p q h path.1) [
      | inl more ↦ cc (own_put q more, path.2)
      | inr there ↦ cc (shut_at q there, path.2)
    ]
    shut p (q ∷ r ∷ rs) h path = elim (beside_unsafe p q h path.1) [
      | inl more ↦ shut q (r ∷ rs) more path.2
      | inr there ↦ not_both a (cell_at (set b x (theirs a)) q) path.2.0 (shut_at q there)
    ]

    pub unsafe_shut : (p : ℕ) → is_unsafe a (set c x (theirs a)) p ≡ true → Reaches a.size (set b x (theirs a)) p Empty → ⊥
    unsafe_shut p h r = shut p r.1.0 h (subst (λ y. IsPath a.size (set b x (theirs a)) y Empty p r.1.0) (own_put p h) r.1.1)

  -- So it can have had a liberty at that point alone, which is one on each board that fits the state.
  module _ (m : List Cell) (also : Fits a m c) where
    own_also : (p : ℕ) → is_unsafe a (set c x (theirs a)) p ≡ true → cell_at m p ≡ own a
    own_also p h = also.has_own p (own_before p (unsafe_is a (set c x (theirs a)) p h).own)

    through : (p : ℕ) (qs : List ℕ) → is_unsafe a (set c x (theirs a)) p ≡ true → IsPath a.size b (own a) Empty p qs → (us : List ℕ) × IsPath a.size m (own a) Empty p us
    through p [] h path = absurd (cc (unsafe_there p h, path))
    through p (q ∷ qs) h path = go qs path.2 (λ more. through q qs more path.2) (beside_unsafe p q h path.1)
      where
        go : (qs : List ℕ) → IsPath a.size b (own a) Empty q qs → (is_unsafe a (set c x (theirs a)) q ≡ true → (us : List ℕ) × IsPath a.size m (own a) Empty q us)
            → (is_unsafe a (set c x (theirs a)) q ≡ true) ⊎ ((q ≡ x) ⊎ ((q ≢ x) × (cell_at b q ≡ theirs a))) → (us : List ℕ) × IsPath a.size m (own a) Empty p us
        go us rest further (inl more) = let found = further more in (q ∷ found.0, (own_also p h, path.1, found.1))
        go us rest further (inr (inl here)) = (q ∷ [], (own_also p h, path.1, ap (cell_at m) here ∙ also.has_empty x free))
        go [] rest further (inr (inr there)) = absurd (cc (there.1, rest))
        go (r ∷ rs) rest further (inr (inr there)) = absurd (not_both a (cell_at b q) rest.0 there.1)

    pub unsafe_through : (p : ℕ) → is_unsafe a (set c x (theirs a)) p ≡ true → Reaches a.size b p Empty → Reaches a.size m p Empty
    unsafe_through p h r =
        let path = through p r.1.0 h (subst (λ y. IsPath a.size b y Empty p r.1.0) (unsafe_there p h) r.1.1) in
        let there : cell_at m p ≡ own a = own_also p h in
        ((λ e. cc (there, e)), (path.0, subst (λ y. IsPath a.size m y Empty p path.0) (sym there) path.1))
