-- What the judge finds of the states of the killer's region.
use Rattle.safe_groups.proofs.Common.{map, list_all, holds_point, number_of, Place, or_left, or_right, nat_eq, eq-eqb, sym, subst, refl, ◌≡◌, ◌∙◌, List, [], ◌∷◌, inl, inr, ℕ, ap, set, IsTrue, IsPath, IsWay, IsWalled, Fits, Rooted, adjacent, adjacent_on_board, stone_before, same_cell_eq, eq_same_cell, true, false, Bool, ◌*◌, ◌<◌, ◌&&◌, cond, not, length, lt-ltb, nat_lt, clear, cell_at-clear, is_captured, cell_at, same_cell, opponent_of, reaches, Cell, Empty, Stone, Colour, Area, is_outside, opened, clear_loose, side_of}
use Rattle.safe_groups.specs.Ground.{area_of}
use Rattle.safe_groups.specs.declared.ground.Ground.{Ground}
use Rattle.go_points.specs.declared.Colour.TheVariants.{Black, White}
use Rattle.go_points.proofs.Cells.{opponent_ne}
use Rattle.go_points.proofs.Clearing.{reaching_stays}
use Rattle.safe_groups.proofs.Moving.{is_or_not, at_put, past_put}
use Rattle.safe_groups.proofs.Opening.{opened_at, inside_at, outside_at, cleared_at, vanishes, vanishes_unrooted, not_both}
use Rattle.safe_groups.proofs.Grounds.{same_by_points, length-opened, loose_parts}
unfoldable use Rattle.dead_groups.specs.Kills.{freed, clear_unsafe}
use Rattle.dead_groups.specs.Kills.{is_unsafe, IsSureLoss}
use Rattle.dead_groups.specs.Ground.{kill_area, masked_cell}
use Rattle.dead_groups.proofs.Unsafe.{freed_at, length-freed, kept_free, not_kept, length-clear_unsafe, clear_unsafe_at, Unsafe, unsafe_is}

module _ (g : Ground) (c : List Cell) where
  abbrev a : Area
  a = kill_area g

  abbrev n : ℕ
  n = side_of g.cells

  -- a point that holds a stone of the other side's on the ground is outside
  pub outside_is : (p : ℕ) → p < side_of g.cells * side_of g.cells → same_cell (cell_at g.cells p) (Stone (opponent_of g.keeper)) ≡ is_outside (kill_area g) p
  outside_is p on = go (cell_at g.cells p) (nat_lt p (side_of g.cells * side_of g.cells)) (lt-ltb p (side_of g.cells * side_of g.cells) on)
    where
      colours : (j k : Colour) → same_cell (Stone j) (Stone (opponent_of k)) ≡ (not (same_cell (Stone j) (Stone k)) && true)
      colours Black Black = refl
      colours Black White = refl
      colours White Black = refl
      colours White White = refl

      go : (x : Cell) (l : Bool) → l ≡ true → same_cell x (Stone (opponent_of g.keeper)) ≡ (not (same_cell x (Stone g.keeper)) && not (l && same_cell x Empty))
      go Empty true e = refl
      go Empty false e = absurd (cc e)
      go (Stone j) true e = colours j g.keeper
      go (Stone j) false e = absurd (cc e)

  pub freed_by : (made none : List Cell) → length made ≡ side_of g.cells * side_of g.cells → ((p : ℕ) → cell_at none p ≡ Empty)
      → ((p : ℕ) → p < side_of g.cells * side_of g.cells → cell_at made p ≡ masked_cell g.cells (Stone g.keeper) none c p) → made ≡ freed (kill_area g) c
  freed_by made none full blank cells = same_by_points (side_of g.cells) made (freed (kill_area g) c) full (length-freed (kill_area g) c)
      (λ p on. cells p on ∙ ap (λ x. cond (same_cell (cell_at g.cells p) (Stone g.keeper)) x (cell_at c p)) (blank p) ∙ sym (freed_at (kill_area g) c p on))

  pub unsafe_by : (made left : List Cell) → length made ≡ side_of g.cells * side_of g.cells → left ≡ clear (side_of g.cells) (freed (kill_area g) c) g.keeper
      → ((p : ℕ) → p < side_of g.cells * side_of g.cells → cell_at made p ≡ masked_cell g.cells (Stone g.keeper) c left p) → made ≡ clear_unsafe (kill_area g) c
  unsafe_by made left full is cells = same_by_points (side_of g.cells) made (clear_unsafe (kill_area g) c) full (length-clear_unsafe (kill_area g) c) each
    where
      each : (p : ℕ) → p < side_of g.cells * side_of g.cells → cell_at made p ≡ cell_at (clear_unsafe (kill_area g) c) p
      each p on = cells p on ∙ go (same_cell (cell_at g.cells p) (Stone g.keeper)) refl ∙ sym (clear_unsafe_at (kill_area g) c p on)
        where
          spared : same_cell (cell_at g.cells p) (Stone g.keeper) ≡ true → is_unsafe (kill_area g) c p ≡ false
          spared e = ap (λ x. same_cell x (Stone g.keeper) && not (reaches (side_of g.cells) (freed (kill_area g) c) p Empty)) (kept_free (kill_area g) c p on e)

          go : (b : Bool) → same_cell (cell_at g.cells p) (Stone g.keeper) ≡ b → cond b (cell_at c p) (cell_at left p) ≡ cond (is_unsafe (kill_area g) c p) Empty (cell_at c p)
          go true e = sym (ap (λ v. cond v Empty (cell_at c p)) (spared e))
          go false e = ap (λ l. cell_at l p) is ∙ cell_at-clear (side_of g.cells) (freed (kill_area g) c) g.keeper p on ∙ ap (cond (is_unsafe (kill_area g) c p) Empty) (not_kept (kill_area g) c p on e)

  pub opened_by : (made none : List Cell) → length made ≡ side_of g.cells * side_of g.cells → ((p : ℕ) → cell_at none p ≡ Empty)
      → ((p : ℕ) → p < side_of g.cells * side_of g.cells → cell_at made p ≡ masked_cell g.cells (Stone (opponent_of g.keeper)) none c p) → made ≡ opened (kill_area g) c
  opened_by made none full blank cells = same_by_points (side_of g.cells) made (opened (kill_area g) c) full (length-opened (kill_area g) c)
      (λ p on. cells p on ∙ ap (λ x. cond (same_cell (cell_at g.cells p) (Stone (opponent_of g.keeper))) x (cell_at c p)) (blank p)
      ∙ ap (λ b. cond b Empty (cell_at c p)) (outside_is p on) ∙ sym (opened_at (kill_area g) c p on))

  pub loose_by : (made left : List Cell) → length made ≡ side_of g.cells * side_of g.cells → left ≡ clear (side_of g.cells) (opened (kill_area g) c) (opponent_of g.keeper)
      → ((p : ℕ) → p < side_of g.cells * side_of g.cells → cell_at made p ≡ masked_cell g.cells (Stone (opponent_of g.keeper)) c left p) → made ≡ clear_loose (kill_area g) c
  loose_by made left full is cells = loose_parts (kill_area g) c left made is full (λ p on. cells p on ∙ ap (λ b. cond b (cell_at c p) (cell_at left p)) (outside_is p on))

-- what is a state of the area is one of the killer's region, and a board that fits it there fits it here
pub walled_kill : (g : Ground) (c : List Cell) → IsWalled (area_of g) c → IsWalled (kill_area g) c
walled_kill g c walled = record { full = walled.full; kept = walled.kept; outside = walled.outside }

pub fits_kill : (g : Ground) (b c : List Cell) → Fits (area_of g) b c → Fits (kill_area g) b c
fits_kill g b c fits = record { has_own = fits.has_own; no_more = fits.no_more; has_empty = fits.has_empty; has_theirs = fits.has_theirs }

-- Stones of the other side's that are rooted are left when the state is shut: nothing outside, and no point empty inside.
module _ (g : Ground) (c filled left : List Cell) (cells : (p : ℕ) → p < side_of g.cells * side_of g.cells → cell_at filled p ≡ cond (same_cell (cell_at c p) Empty) (Stone g.keeper) (cell_at c p))
    (full : length filled ≡ side_of g.cells * side_of g.cells) (is : left ≡ clear (side_of g.cells) (opened (kill_area g) filled) (opponent_of g.keeper)) where
  filled_theirs : (p : ℕ) → p < side_of g.cells * side_of g.cells → cell_at c p ≡ Stone (opponent_of g.keeper) → cell_at filled p ≡ Stone (opponent_of g.keeper)
  filled_theirs p on e = cells p on ∙ ap (λ x. cond (same_cell x Empty) (Stone g.keeper) x) e

  theirs_filled : (p : ℕ) → p < side_of g.cells * side_of g.cells → cell_at filled p ≡ Stone (opponent_of g.keeper) → cell_at c p ≡ Stone (opponent_of g.keeper)
  theirs_filled p on e = go (cell_at c p) (sym (cells p on) ∙ e)
    where
      go : (x : Cell) → cond (same_cell x Empty) (Stone g.keeper) x ≡ Stone (opponent_of g.keeper) → x ≡ Stone (opponent_of g.keeper)
      go Empty f = absurd (opponent_ne g.keeper (cc f))
      go (Stone j) f = f

  way_filled : (p q : ℕ) (rs : List ℕ) → p < side_of g.cells * side_of g.cells → IsWay (side_of g.cells) c (Stone (opponent_of g.keeper)) p q rs → IsWay (side_of g.cells) filled (Stone (opponent_of g.keeper)) p q rs
  way_filled p q [] on way = (filled_theirs p on way.0, way.1)
  way_filled p q (r ∷ rs) on way = (filled_theirs p on way.0, way.1, way_filled r q rs (adjacent_on_board (side_of g.cells) p r way.1).1 way.2)

  root_filled : (p : ℕ) → p < side_of g.cells * side_of g.cells → cell_at c p ≡ Stone (opponent_of g.keeper) → Rooted (kill_area g) c p → Rooted (kill_area g) filled p
  root_filled p on mine root = (
    root.0,
    root.1,
    (
      root.2.0,
      subst (λ x. IsWay (side_of g.cells) filled x p root.0 root.2.0) (sym (filled_theirs p on mine))
          (way_filled p root.0 root.2.0 on (subst (λ x. IsWay (side_of g.cells) c x p root.0 root.2.0) mine root.2.1)),
    ),
  )

  pub rooted_left : (p : ℕ) → p < side_of g.cells * side_of g.cells → is_outside (kill_area g) p ≡ false → cell_at c p ≡ Stone (opponent_of g.keeper) → Rooted (kill_area g) c p → cell_at left p ≡ Stone (opponent_of g.keeper)
  rooted_left p on within mine root = ap (λ l. cell_at l p) is ∙ cleared_at (kill_area g) filled p on ∙ go (vanishes (kill_area g) filled p) refl
    where
      go : (v : Bool) → vanishes (kill_area g) filled p ≡ v → cond v Empty (cell_at (opened (kill_area g) filled) p) ≡ Stone (opponent_of g.keeper)
      go true e = absurd (vanishes_unrooted (kill_area g) filled p on e (root_filled p on mine root))
      go false e = inside_at (kill_area g) filled p on within ∙ filled_theirs p on mine

  pub left_theirs : (p : ℕ) → cell_at left p ≡ Stone (opponent_of g.keeper) → cell_at c p ≡ Stone (opponent_of g.keeper)
  left_theirs p e = go (is_outside (kill_area g) p) refl
    where
      before : (cell_at (opened (kill_area g) filled) p ≡ Stone (opponent_of g.keeper)) × (is_captured (side_of g.cells) (opened (kill_area g) filled) (opponent_of g.keeper) p ≡ false) × (p < side_of g.cells * side_of g.cells)
      before = stone_before (side_of g.cells) (opened (kill_area g) filled) (opponent_of g.keeper) (opponent_of g.keeper) p (ap (λ l. cell_at l p) (sym is) ∙ e)

      go : (b : Bool) → is_outside (kill_area g) p ≡ b → cell_at c p ≡ Stone (opponent_of g.keeper)
      go true out = absurd (cc (outside_at (kill_area g) filled p before.2 out, before.0))
      go false within = theirs_filled p before.2 (sym (inside_at (kill_area g) filled p before.2 within) ∙ before.0)

-- Where taking away all rooted stones, and those outside, leaves none of the killer's more, all losses are sure.
module _ (g : Ground) (c rooted taken : List Cell) (x : ℕ) (walled : IsWalled (kill_area g) c) (on : x < side_of g.cells * side_of g.cells)
    (roots : (p : ℕ) → p < side_of g.cells * side_of g.cells → is_outside (kill_area g) p ≡ false → cell_at c p ≡ Stone (opponent_of g.keeper) → Rooted (kill_area g) c p → cell_at rooted p ≡ Stone (opponent_of g.keeper))
    (only : (p : ℕ) → cell_at rooted p ≡ Stone (opponent_of g.keeper) → cell_at c p ≡ Stone (opponent_of g.keeper))
    (cells : (p : ℕ) → p < side_of g.cells * side_of g.cells → cell_at taken p ≡ cond (same_cell (cell_at rooted p) (Stone (opponent_of g.keeper))) Empty (cell_at (freed (kill_area g) (set c x (Stone (opponent_of g.keeper)))) p))
    (there : (p : ℕ) → p < side_of g.cells * side_of g.cells → cell_at (clear (side_of g.cells) (opened (kill_area g) taken) g.keeper) p ≡ Stone g.keeper
    → cell_at (clear (side_of g.cells) (freed (kill_area g) (set c x (Stone (opponent_of g.keeper)))) g.keeper) p ≡ Stone g.keeper) where
  abbrev placed : List Cell
  placed = set c x (Stone (opponent_of g.keeper))

  own_placed : (p : ℕ) → cell_at (set c x (Stone (opponent_of g.keeper))) p ≡ Stone g.keeper → cell_at c p ≡ Stone g.keeper
  own_placed p e = elim (is_or_not p x) [
    | inl here ↦ absurd (not_both (kill_area g) (cell_at (set c x (Stone (opponent_of g.keeper))) p) e (ap (cell_at (set c x (Stone (opponent_of g.keeper)))) here ∙ at_put (side_of g.cells) c x (Stone (opponent_of g.keeper)) walled.full on))
    | inr ne ↦ sym (past_put c x p (Stone (opponent_of g.keeper)) ne) ∙ e
  ]

  sure_at : (p q : ℕ) → is_unsafe (kill_area g) (set c x (Stone (opponent_of g.keeper))) p ≡ true → IsTrue (adjacent (side_of g.cells) p q) → cell_at c q ≡ Stone (opponent_of g.keeper) → Rooted (kill_area g) c q → ⊥
  sure_at p q h adj mine root = cc (there p low stays, emptied)
    where
      is : Unsafe (kill_area g) (set c x (Stone (opponent_of g.keeper))) p
      is = unsafe_is (kill_area g) (set c x (Stone (opponent_of g.keeper))) p h

      low : p < side_of g.cells * side_of g.cells
      low = is.on_board

      low_q : q < side_of g.cells * side_of g.cells
      low_q = (adjacent_on_board (side_of g.cells) p q adj).1

      own_c : cell_at c p ≡ Stone g.keeper
      own_c = own_placed p is.own

      inside : (b : Bool) → is_outside (kill_area g) p ≡ b → b ≡ false
      inside true e = absurd (not_both (kill_area g) (cell_at c p) own_c (walled.outside p low e))
      inside false e = refl

      unrooted : (b : Bool) → same_cell (cell_at rooted p) (Stone (opponent_of g.keeper)) ≡ b → b ≡ false
      unrooted true e = absurd (not_both (kill_area g) (cell_at c p) own_c (only p (same_cell_eq (cell_at rooted p) (Stone (opponent_of g.keeper)) e)))
      unrooted false e = refl

      open_p : cell_at (opened (kill_area g) taken) p ≡ Stone g.keeper
      open_p = inside_at (kill_area g) taken p low (inside (is_outside (kill_area g) p) refl) ∙ cells p low
          ∙ ap (λ b. cond b Empty (cell_at (freed (kill_area g) (set c x (Stone (opponent_of g.keeper)))) p)) (unrooted (same_cell (cell_at rooted p) (Stone (opponent_of g.keeper))) refl)
          ∙ not_kept (kill_area g) (set c x (Stone (opponent_of g.keeper))) p low is.loose ∙ is.own

      open_q : cell_at (opened (kill_area g) taken) q ≡ Empty
      open_q = go (is_outside (kill_area g) q) refl
        where
          go : (b : Bool) → is_outside (kill_area g) q ≡ b → cell_at (opened (kill_area g) taken) q ≡ Empty
          go true out = outside_at (kill_area g) taken q low_q out
          go false within = inside_at (kill_area g) taken q low_q within ∙ cells q low_q
              ∙ ap (λ b. cond b Empty (cell_at (freed (kill_area g) (set c x (Stone (opponent_of g.keeper)))) q)) (eq_same_cell (cell_at rooted q) (Stone (opponent_of g.keeper)) (roots q low_q within mine root))

      stays : cell_at (clear (side_of g.cells) (opened (kill_area g) taken) g.keeper) p ≡ Stone g.keeper
      stays = reaching_stays (side_of g.cells) (opened (kill_area g) taken) g.keeper p low
          ((λ e. cc (open_p, e)), (q ∷ [], subst (λ y. IsPath (side_of g.cells) (opened (kill_area g) taken) y Empty p (q ∷ [])) (sym open_p) (open_p, adj, open_q))) ∙ open_p

      emptied : cell_at (clear (side_of g.cells) (freed (kill_area g) (set c x (Stone (opponent_of g.keeper)))) g.keeper) p ≡ Empty
      emptied = cell_at-clear (side_of g.cells) (freed (kill_area g) (set c x (Stone (opponent_of g.keeper)))) g.keeper p low
          ∙ ap (λ b. cond b Empty (cell_at (freed (kill_area g) (set c x (Stone (opponent_of g.keeper)))) p)) h

  pub sure_by : IsSureLoss (kill_area g) c x
  sure_by = sure_at

-- where not all of these points hold this, one holds something else
pub one_lacks : (n : ℕ) (c : List Cell) (x : Cell) (s : List Place) → list_all (λ p. same_cell (cell_at c (number_of n p)) x) s ≡ false → (q : ℕ) × (holds_point (map (number_of n) s) q ≡ true) × (cell_at c q ≡ x → ⊥)
one_lacks n c x [] e = absurd (cc e)
one_lacks n c x (p ∷ s) e = go (same_cell (cell_at c (number_of n p)) x) refl (λ rest. one_lacks n c x s rest) e
  where
    go : (b : Bool) → same_cell (cell_at c (number_of n p)) x ≡ b → (list_all (λ p. same_cell (cell_at c (number_of n p)) x) s ≡ false → (q : ℕ) × (holds_point (map (number_of n) s) q ≡ true) × (cell_at c q ≡ x → ⊥))
        → (b && list_all (λ p. same_cell (cell_at c (number_of n p)) x) s) ≡ false → (q : ℕ) × (holds_point (map (number_of n) (p ∷ s)) q ≡ true) × (cell_at c q ≡ x → ⊥)
    go true is further none = let found = further none in (found.0, or_right (nat_eq found.0 (number_of n p)) (holds_point (map (number_of n) s) found.0) found.1, found.2)
    go false is further none = (number_of n p, or_left (nat_eq (number_of n p) (number_of n p)) (holds_point (map (number_of n) s) (number_of n p)) (eq-eqb (number_of n p) (number_of n p) refl), (λ same. cc (is, eq_same_cell (cell_at c (number_of n p)) x same)))
