-- Which stones of the other side's vanish from a state: those that are neither rooted nor reach empty.
use Rattle.safe_groups.proofs.Common.{sym, subst, refl, ◌≡◌, ◌∙◌, List, ℕ, ap, IsTrue, true, false, Bool, inl, inr, [], ◌∷◌, ◌*◌, ◌<◌, ◌≤◌, ◌⊎◌, ◌&&◌, cond, not, length, arith, get_or_past, eq_same_cell, same_cell_eq, adjacent_on_board, on_or_off, reaches_path, clear, cell_at-clear, is_captured, cell_at, same_cell, adjacent, opponent_of, reaches, IsPath, Reaches, Cell, Empty, Stone, joined_self, IsWay, Area, own, theirs, is_outside, IsWalled, Rooted, opened, clear_loose, length-map-range_with_len, and_left, and_right, joined_on, joined_beside, get_or-map-range_with_len}
use Rattle.go_points.proofs.Cells.{opponent_ne}
use Rattle.go_points.proofs.Clearing.{one_or_other}
use Rattle.go_points.proofs.Lists.{not_true}

-- a point is empty, or holds one side's stone or the other's
pub cell_cases : (a : Area) (x : Cell) → (x ≡ Empty) ⊎ ((x ≡ own a) ⊎ (x ≡ theirs a))
cell_cases a Empty = inl refl
cell_cases a (Stone j) = inr (elim (one_or_other a.keeper j) [ inl e ↦ inl (ap Stone e) | inr e ↦ inr (ap Stone e) ])

pub not_both : (a : Area) (x : Cell) → x ≡ own a → x ≡ theirs a → ⊥
not_both a x mine yours = opponent_ne a.keeper (cc (mine, yours))

module _ (a : Area) (c : List Cell) where
  pub opened_at : (p : ℕ) → p < a.size * a.size → cell_at (opened a c) p ≡ cond (is_outside a p) Empty (cell_at c p)
  unfolding opened
  opened_at p on = get_or-map-range_with_len (λ q. cond (is_outside a q) Empty (cell_at c q)) 0 (a.size * a.size) p p Empty on (omega arith)

  pub inside_at : (p : ℕ) → p < a.size * a.size → is_outside a p ≡ false → cell_at (opened a c) p ≡ cell_at c p
  inside_at p on within = opened_at p on ∙ ap (λ b. cond b Empty (cell_at c p)) within

  pub outside_at : (p : ℕ) → p < a.size * a.size → is_outside a p ≡ true → cell_at (opened a c) p ≡ Empty
  outside_at p on out = opened_at p on ∙ ap (λ b. cond b Empty (cell_at c p)) out

  -- an empty point is empty with nothing outside
  pub empty_at : (p : ℕ) → p < a.size * a.size → cell_at c p ≡ Empty → cell_at (opened a c) p ≡ Empty
  empty_at p on e = opened_at p on ∙ go (is_outside a p)
    where
      go : (b : Bool) → cond b Empty (cell_at c p) ≡ Empty
      go true = refl
      go false = e

  unfoldable pub vanishes : ℕ → Bool
  vanishes p = is_captured a.size (opened a c) (opponent_of a.keeper) p

  -- clearing the other side when nothing is outside
  pub cleared_at : (p : ℕ) → p < a.size * a.size → cell_at (clear a.size (opened a c) (opponent_of a.keeper)) p ≡ cond (vanishes p) Empty (cell_at (opened a c) p)
  unfolding vanishes
  cleared_at p on = cell_at-clear a.size (opened a c) (opponent_of a.keeper) p on

  pub outside_spared : (p : ℕ) → p < a.size * a.size → is_outside a p ≡ true → vanishes p ≡ false
  unfolding vanishes
  outside_spared p on out = ap (λ x. same_cell x (theirs a) && not (reaches a.size (opened a c) p Empty)) (outside_at p on out)

  pub length-clear_loose : length (clear_loose a c) ≡ a.size * a.size
  unfolding clear_loose vanishes
  length-clear_loose = length-map-range_with_len (λ p. cond (vanishes p) Empty (cell_at c p)) 0 (a.size * a.size)

  pub clear_loose_at : (p : ℕ) → p < a.size * a.size → cell_at (clear_loose a c) p ≡ cond (vanishes p) Empty (cell_at c p)
  unfolding clear_loose vanishes
  clear_loose_at p on = get_or-map-range_with_len (λ q. cond (vanishes q) Empty (cell_at c q)) 0 (a.size * a.size) p p Empty on (omega arith)

  pub clear_loose_past : (p : ℕ) → a.size * a.size ≤ p → cell_at (clear_loose a c) p ≡ Empty
  clear_loose_past p past = get_or_past (clear_loose a c) p Empty (omega (arith, length-clear_loose, past))

  -- from a stone inside, a way to a point outside, or to an empty one, leads to an empty one when nothing is outside
  pub way_open : (p q : ℕ) (rs : List ℕ) → is_outside a p ≡ false → is_outside a q ≡ true → IsWay a.size c (theirs a) p q rs → (us : List ℕ) × IsPath a.size (opened a c) (theirs a) Empty p us
  way_open p q [] within out w = absurd (cc (within, out, ap (is_outside a) w.1))
  way_open p q (r ∷ rs) within out w = go (is_outside a r) refl (λ e. way_open r q rs e out w.2)
    where
      on : (p < a.size * a.size) × (r < a.size * a.size)
      on = adjacent_on_board a.size p r w.1

      here : cell_at (opened a c) p ≡ theirs a
      here = inside_at p on.0 within ∙ w.0

      go : (b : Bool) → is_outside a r ≡ b → (is_outside a r ≡ false → (us : List ℕ) × IsPath a.size (opened a c) (theirs a) Empty r us) → (us : List ℕ) × IsPath a.size (opened a c) (theirs a) Empty p us
      go true e rest = (r ∷ [], (here, w.1, outside_at r on.1 e))
      go false e rest = let further = rest e in (r ∷ further.0, (here, w.1, further.1))

  pub path_open : (p : ℕ) (qs : List ℕ) → is_outside a p ≡ false → cell_at c p ≡ theirs a → IsPath a.size c (theirs a) Empty p qs → (us : List ℕ) × IsPath a.size (opened a c) (theirs a) Empty p us
  path_open p [] within is path = absurd (cc (is, path))
  path_open p (q ∷ []) within is path =
      let on = adjacent_on_board a.size p q path.1 in
      (q ∷ [], (inside_at p on.0 within ∙ is, path.1, empty_at q on.1 path.2))
  path_open p (q ∷ r ∷ rs) within is path = go (is_outside a q) refl (λ e. path_open q (r ∷ rs) e path.2.0 path.2)
    where
      on : (p < a.size * a.size) × (q < a.size * a.size)
      on = adjacent_on_board a.size p q path.1

      here : cell_at (opened a c) p ≡ theirs a
      here = inside_at p on.0 within ∙ is

      go : (b : Bool) → is_outside a q ≡ b → (is_outside a q ≡ false → (us : List ℕ) × IsPath a.size (opened a c) (theirs a) Empty q us) → (us : List ℕ) × IsPath a.size (opened a c) (theirs a) Empty p us
      go true e rest = (q ∷ [], (here, path.1, outside_at q on.1 e))
      go false e rest = let further = rest e in (q ∷ further.0, (here, path.1, further.1))

  -- what vanishes
  pub theirs_inside : (p : ℕ) → p < a.size * a.size → vanishes p ≡ true → (is_outside a p ≡ false) × (cell_at c p ≡ theirs a) × (reaches a.size (opened a c) p Empty ≡ false)
  unfolding vanishes
  theirs_inside p on h = go (is_outside a p) refl (same_cell_eq _ _ (and_left (same_cell (cell_at (opened a c) p) (theirs a)) (not (reaches a.size (opened a c) p Empty)) h))
    where
      go : (b : Bool) → is_outside a p ≡ b → cell_at (opened a c) p ≡ theirs a → (is_outside a p ≡ false) × (cell_at c p ≡ theirs a) × (reaches a.size (opened a c) p Empty ≡ false)
      go true e is = absurd (cc (outside_at p on e, is))
      go false e is = (e, sym (inside_at p on e) ∙ is, not_true (reaches a.size (opened a c) p Empty) (and_right (same_cell (cell_at (opened a c) p) (theirs a)) (not (reaches a.size (opened a c) p Empty)) h))

  barred : (p : ℕ) → p < a.size * a.size → is_outside a p ≡ false → cell_at c p ≡ theirs a → (us : List ℕ) × IsPath a.size (opened a c) (theirs a) Empty p us → reaches a.size (opened a c) p Empty ≡ false → ⊥
  barred p on within is path stuck =
      let here : cell_at (opened a c) p ≡ theirs a = inside_at p on within ∙ is in
      let found = (reaches_path a.size (opened a c) p Empty).1 ((λ e. cc (here, e)), (path.0, subst (λ x. IsPath a.size (opened a c) x Empty p path.0) (sym here) path.1)) in
      cc (found, stuck)

  pub vanishes_theirs : (p : ℕ) → p < a.size * a.size → vanishes p ≡ true → cell_at c p ≡ theirs a
  vanishes_theirs p on h = (theirs_inside p on h).1

  pub vanishes_unrooted : (p : ℕ) → p < a.size * a.size → vanishes p ≡ true → Rooted a c p → ⊥
  vanishes_unrooted p on h root =
      let (within, is, stuck) = theirs_inside p on h in
      barred p on within is (way_open p root.0 root.2.0 within root.1 (subst (λ x. IsWay a.size c x p root.0 root.2.0) is root.2.1)) stuck

  pub vanishes_stuck : (p : ℕ) → p < a.size * a.size → vanishes p ≡ true → Reaches a.size c p Empty → ⊥
  vanishes_stuck p on h r =
      let (within, is, stuck) = theirs_inside p on h in
      barred p on within is (path_open p r.1.0 within is (subst (λ x. IsPath a.size c x Empty p r.1.0) is r.1.1)) stuck

  -- a rooted stone makes those that it is joined to rooted
  pub rooted_on : (p q : ℕ) → cell_at c p ≡ theirs a → IsTrue (adjacent a.size p q) → cell_at c q ≡ theirs a → Rooted a c q → Rooted a c p
  rooted_on p q is adj next root = (root.0, root.1, joined_on a.size c p q root.0 (joined_beside a.size c p p q (joined_self a.size c p) adj (next ∙ sym is)) root.2)

  -- what stays is rooted, or reaches empty
  module _ (walled : IsWalled a c) where
    path_shut : (p : ℕ) (qs : List ℕ) → is_outside a p ≡ false → cell_at c p ≡ theirs a → IsPath a.size (opened a c) (theirs a) Empty p qs → Rooted a c p ⊎ ((us : List ℕ) × IsPath a.size c (theirs a) Empty p us)
    path_shut p [] within is path = go (on_or_off a.size p)
      where
        go : (p < a.size * a.size) ⊎ (a.size * a.size ≤ p) → Rooted a c p ⊎ ((us : List ℕ) × IsPath a.size c (theirs a) Empty p us)
        go (inl on) = absurd (cc (inside_at p on within, is, path))
        go (inr past) = absurd (cc (is, get_or_past c p Empty (omega (arith, past, walled.full))))
    path_shut p (q ∷ []) within is path = go (is_outside a q) refl
      where
        on : q < a.size * a.size
        on = (adjacent_on_board a.size p q path.1).1

        go : (b : Bool) → is_outside a q ≡ b → Rooted a c p ⊎ ((us : List ℕ) × IsPath a.size c (theirs a) Empty p us)
        go true e = inl (rooted_on p q is path.1 (walled.outside q on e) (q, e, joined_self a.size c q))
        go false e = inr (q ∷ [], (is, path.1, sym (inside_at q on e) ∙ path.2))
    path_shut p (q ∷ r ∷ rs) within is path = go (is_outside a q) refl (λ e next. path_shut q (r ∷ rs) e next path.2)
      where
        on : q < a.size * a.size
        on = (adjacent_on_board a.size p q path.1).1

        go : (b : Bool) → is_outside a q ≡ b → (is_outside a q ≡ false → cell_at c q ≡ theirs a → Rooted a c q ⊎ ((us : List ℕ) × IsPath a.size c (theirs a) Empty q us))
            → Rooted a c p ⊎ ((us : List ℕ) × IsPath a.size c (theirs a) Empty p us)
        go true e rest = inl (rooted_on p q is path.1 (walled.outside q on e) (q, e, joined_self a.size c q))
        go false e rest =
            let next : cell_at c q ≡ theirs a = sym (inside_at q on e) ∙ path.2.0 in
            elim (rest e next) [
              | inl root ↦ inl (rooted_on p q is path.1 next root)
              | inr found ↦ inr (q ∷ found.0, (is, path.1, found.1))
            ]

    pub stays_cases : (p : ℕ) → p < a.size * a.size → cell_at c p ≡ theirs a → vanishes p ≡ false → Rooted a c p ⊎ Reaches a.size c p Empty
    unfolding vanishes
    stays_cases p on is h = go (is_outside a p) refl
      where
        reached : (x y : Bool) → x ≡ true → (x && not y) ≡ false → y ≡ true
        reached true true e k = refl
        reached true false e k = absurd (cc k)
        reached false y e k = absurd (cc e)

        go : (b : Bool) → is_outside a p ≡ b → Rooted a c p ⊎ Reaches a.size c p Empty
        go true e = inl (p, e, joined_self a.size c p)
        go false e =
            let here : cell_at (opened a c) p ≡ theirs a = inside_at p on e ∙ is in
            let r : Reaches a.size (opened a c) p Empty = (reaches_path a.size (opened a c) p Empty).0 (reached (same_cell (cell_at (opened a c) p) (theirs a)) (reaches a.size (opened a c) p Empty) (eq_same_cell _ _ here) h) in
            elim (path_shut p r.1.0 e is (subst (λ x. IsPath a.size (opened a c) x Empty p r.1.0) here r.1.1)) [
              | inl root ↦ inl root
              | inr found ↦ inr ((λ none. cc (is, none)), (found.0, subst (λ x. IsPath a.size c x Empty p found.0) (sym is) found.1))
            ]
