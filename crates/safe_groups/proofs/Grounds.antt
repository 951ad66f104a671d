-- What the judge finds of the states of an area.
use Rattle.safe_groups.proofs.Common.{sym, subst, refl, ◌≡◌, ◌≢◌, ◌∙◌, List, ℕ, ap, IsTrue, true, false, Bool, inl, inr, [], ◌∷◌, ◌*◌, ◌<◌, ◌≤◌, ◌⊎◌, ◌&&◌, cond, not, length, set, arith, get_or-set_same, get_or-set_other, length-set, get_or_past, eq_same_cell, same_cell_eq, adjacent_on_board, on_or_off, reaches_path, clear, is_captured, cell_at, same_cell, adjacent, opponent_of, reaches, IsPath, Reaches, Cell, Empty, Stone, Colour, cell_at-clear, stone_before, joined_self, Area, own, theirs, is_outside, IsWalled, Rooted, Fits, IsAtRest, opened, clear_loose, nat_lt, ltb-true, length-map-range_with_len, and_left, and_right, and_both, not_false, Leans, Ground, area_of, IsState, IsWalledAt, shut_cell, FitsAt, Joined, joined_on, joined_beside, reaches_beside, lifted_cell, ◌+◌}
use Rattle.go_points.proofs.Common.{ext_get_or}
use Rattle.go_points.proofs.Lists.{and_false}
unfoldable use Rattle.go_points.specs.Grid.{side_of}
use Rattle.safe_groups.proofs.Opening.{not_both, inside_at, outside_spared, cleared_at, vanishes, clear_loose_at, length-clear_loose, rooted_on, stays_cases}
use Rattle.safe_groups.proofs.Fitting.{stone_on}

-- a colouring that is made point by point
module _ (n : ℕ) (f : ℕ → Cell) where
  pub record MadeSoFar (made : List Cell) (i : ℕ) : Type 0 where
    pub side : side_of made ≡ n
    pub full : length made ≡ n * n
    pub done : (q : ℕ) → q < i → cell_at made q ≡ f q

  pub made_first : (c : List Cell) → side_of c ≡ n → length c ≡ side_of c * side_of c → MadeSoFar c 0
  made_first c side full = record { side = side; full = full ∙ ap (λ m. m * m) side; done = λ q low. absurd (omega (arith, low)) }

  made_more : (c : List Cell) (i : ℕ) (x : Cell) → i < n * n → x ≡ f i → side_of (set c i x) ≡ side_of c → MadeSoFar c i → MadeSoFar (set c i x) (i + 1)
  made_more c i x on is size h = record {
    side = size ∙ h.side;
    full = length-set c i x ∙ h.full;
    done = λ q low.
        let split : (q < i) ⊎ (q ≡ i) = grind (arith, low) in
        elim split [
          | inl less ↦ (let ne : q ≢ i = omega (arith, less) in get_or-set_other c i q x Empty ne ∙ h.done q less)
          | inr here ↦ ap (cell_at (set c i x)) here ∙ get_or-set_same c i x Empty (omega (arith, on, h.full)) ∙ is ∙ ap f (sym here)
        ];
  }

  pub made_set : (c new : List Cell) (i j : ℕ) (x : Cell) → i < n * n → j ≡ i → x ≡ f i → new ≡ set c j x → side_of new ≡ side_of c → MadeSoFar c i → MadeSoFar new (i + 1)
  made_set c new i j x on same is value size h =
      let made : new ≡ set c i x = value ∙ ap (λ k. set c k x) same in
      subst (λ d. MadeSoFar d (i + 1)) (sym made) (made_more c i x on is (ap side_of (sym made) ∙ size) h)

-- two colourings of one size that hold the same at each point
pub same_by_points : (n : ℕ) (c d : List Cell) → length c ≡ n * n → length d ≡ n * n → ((p : ℕ) → p < n * n → cell_at c p ≡ cell_at d p) → c ≡ d
same_by_points n c d full_c full_d same = ext_get_or Empty c d (full_c ∙ sym full_d) (λ q h. same q (omega (arith, h, full_c)))

module _ (a : Area) (c : List Cell) where
  pub length-opened : length (opened a c) ≡ a.size * a.size
  unfolding opened
  length-opened = length-map-range_with_len (λ p. cond (is_outside a p) Empty (cell_at c p)) 0 (a.size * a.size)

  -- what is cleared inside, with the state outside, is the state without its loose stones
  pub loose_parts : (left made : List Cell) → left ≡ clear a.size (opened a c) (opponent_of a.keeper) → length made ≡ a.size * a.size → ((p : ℕ) → p < a.size * a.size → cell_at made p ≡ cond (is_outside a p) (cell_at c p) (cell_at left p)) → made ≡ clear_loose a c
  loose_parts left made is full parts = same_by_points a.size made (clear_loose a c) full (length-clear_loose a c) each
    where
      each : (p : ℕ) → p < a.size * a.size → cell_at made p ≡ cell_at (clear_loose a c) p
      each p on = parts p on ∙ go (is_outside a p) refl ∙ sym (clear_loose_at a c p on)
        where
          spared : is_outside a p ≡ true → vanishes a c p ≡ false
          spared out = outside_spared a c p on out

          go : (b : Bool) → is_outside a p ≡ b → cond b (cell_at c p) (cell_at left p) ≡ cond (vanishes a c p) Empty (cell_at c p)
          go true out = sym (ap (λ v. cond v Empty (cell_at c p)) (spared out))
          go false within = ap (λ l. cell_at l p) is ∙ cleared_at a c p on ∙ ap (cond (vanishes a c p) Empty) (inside_at a c p on within)

-- A state with the keeper's stones at some points taken away: what reaches empty there reaches empty, or leans on one of these points.
module _ (a : Area) (c points lifted : List Cell) (cells : (p : ℕ) → p < a.size * a.size → cell_at lifted p ≡ lifted_cell a c points p) where
  abbrev There : ℕ → Bool
  There p = same_cell (cell_at points p) (own a)

  stays_own : (p : ℕ) → p < a.size * a.size → cell_at lifted p ≡ own a → cell_at c p ≡ own a
  stays_own p on e = go (There p && same_cell (cell_at c p) (own a)) (sym (cells p on) ∙ e)
    where
      go : (b : Bool) → cond b Empty (cell_at c p) ≡ own a → cell_at c p ≡ own a
      go true f = absurd (cc f)
      go false f = f

  emptied_by : (p : ℕ) → p < a.size * a.size → cell_at lifted p ≡ Empty → (cell_at c p ≡ Empty) ⊎ (IsTrue (There p) × (cell_at c p ≡ own a))
  emptied_by p on e = go (There p && same_cell (cell_at c p) (own a)) refl (sym (cells p on) ∙ e)
    where
      go : (b : Bool) → (There p && same_cell (cell_at c p) (own a)) ≡ b → cond b Empty (cell_at c p) ≡ Empty → (cell_at c p ≡ Empty) ⊎ (IsTrue (There p) × (cell_at c p ≡ own a))
      go true both f = inr (and_left (There p) (same_cell (cell_at c p) (own a)) both, same_cell_eq _ _ (and_right (There p) (same_cell (cell_at c p) (own a)) both))
      go false both f = inl f

  joined_next : (p q : ℕ) → cell_at c p ≡ own a → IsTrue (adjacent a.size p q) → cell_at c q ≡ own a → Joined a.size c p q
  joined_next p q is adj next = joined_beside a.size c p p q (joined_self a.size c p) adj (next ∙ sym is)

  lean_path : (p : ℕ) (qs : List ℕ) → p < a.size * a.size → cell_at c p ≡ own a → IsPath a.size lifted (own a) Empty p qs → Leans a There c p
  lean_path p [] on is path = elim (emptied_by p on path) [
    | inl free ↦ absurd (cc (is, free))
    | inr there ↦ inr (p, there.0, joined_self a.size c p)
  ]
  lean_path p (q ∷ []) on is path = elim (emptied_by q (adjacent_on_board a.size p q path.1).1 path.2) [
    | inl free ↦ inl (reaches_beside a.size c p p q (λ e. cc (is, e)) (joined_self a.size c p) path.1 free)
    | inr there ↦ inr (q, there.0, joined_next p q is path.1 there.1)
  ]
  lean_path p (q ∷ r ∷ rs) on is path =
      let at = (adjacent_on_board a.size p q path.1).1 in
      let next : cell_at c q ≡ own a = stays_own q at path.2.0 in
      elim (lean_path q (r ∷ rs) at next path.2) [
        | inl reach ↦ inl ((λ e. cc (is, e)), (q ∷ reach.1.0, subst (λ x. IsPath a.size c x Empty p (q ∷ reach.1.0)) (sym is) (is, path.1, subst (λ x. IsPath a.size c x Empty q reach.1.0) next reach.1.1)))
        | inr lean ↦ inr (lean.0, lean.1, joined_on a.size c p q lean.0 (joined_next p q is path.1 next) lean.2)
      ]

  pub lean_left : (left : List Cell) → left ≡ clear a.size lifted a.keeper → (p : ℕ) → cell_at left p ≡ own a → Leans a There c p
  lean_left left same p e =
      let before = stone_before a.size lifted a.keeper a.keeper p (sym (ap (λ d. cell_at d p) same) ∙ e) in
      let reach : Reaches a.size lifted p Empty = (reaches_path a.size lifted p Empty).0 (reached (same_cell (cell_at lifted p) (own a)) (reaches a.size lifted p Empty) (eq_same_cell _ _ before.0) before.1) in
      lean_path p reach.1.0 before.2 (stays_own p before.2 before.0) (subst (λ x. IsPath a.size lifted x Empty p reach.1.0) before.0 reach.1.1)
    where
      reached : (x y : Bool) → x ≡ true → (x && not y) ≡ false → y ≡ true
      reached true true f k = refl
      reached true false f k = absurd (cc k)
      reached false y f k = absurd (cc f)

-- so it is with a state whose loose stones are none
pub at_rest_by : (a : Area) (c : List Cell) → IsWalled a c → ((p : ℕ) → cell_at c p ≡ own a → Leans a a.held c p) → ((p : ℕ) → IsTrue (a.gives p) → Leans a a.earlier c p) → clear_loose a c ≡ c → IsAtRest a c
at_rest_by a c walled stand given same = record { own = stand; given = given; theirs = λ p is none. breathes p is none (stone_on a.size c (opponent_of a.keeper) p walled.full is) }
  where
    breathes : (p : ℕ) → cell_at c p ≡ theirs a → (Rooted a c p → ⊥) → p < a.size * a.size → Reaches a.size c p Empty
    breathes p is none on = go (vanishes a c p) refl
      where
        go : (v : Bool) → vanishes a c p ≡ v → Reaches a.size c p Empty
        go true e = absurd (cc (sym (clear_loose_at a c p on ∙ ap (λ b. cond b Empty (cell_at c p)) e) ∙ ap (λ d. cell_at d p) same ∙ is))
        go false e = elim (stays_cases a c walled p on is e) [
          | inl root ↦ absurd (none root)
          | inr r ↦ r
        ]

-- a state, by its points
pub state_by : (g : Ground) (c : List Cell) → side_of c ≡ side_of g.cells → length c ≡ side_of c * side_of c → ((p : ℕ) → p < side_of g.cells * side_of g.cells → IsWalledAt (area_of g) c p) → length g.cells ≡ side_of g.cells * side_of g.cells → IsState g c
state_by g c side full each whole = record {
  side = side;
  walled = record {
    full = full ∙ ap (λ n. n * n) side;
    kept = λ p is. (each p (stone_on (side_of g.cells) g.cells g.keeper p whole (same_cell_eq _ _ is))).kept is;
    outside = λ p on out. (each p on).outside out;
  };
}

-- what is left of the other side's stones when the state is shut is rooted
module _ (a : Area) (c s : List Cell) (walled : IsWalled a c) (cells : (p : ℕ) → p < a.size * a.size → cell_at s p ≡ shut_cell a c p) where
  shut_out : (p : ℕ) → p < a.size * a.size → is_outside a p ≡ true → cell_at s p ≡ Empty
  shut_out p on out = cells p on ∙ ap (λ b. cond b Empty (cond (same_cell (cell_at c p) Empty) (own a) (cell_at c p))) out

  shut_in : (p : ℕ) → p < a.size * a.size → is_outside a p ≡ false → (cell_at s p ≡ Empty → ⊥) × (cell_at s p ≡ theirs a → cell_at c p ≡ theirs a)
  shut_in p on within = go (cell_at c p) refl
    where
      at : cell_at s p ≡ cond (same_cell (cell_at c p) Empty) (own a) (cell_at c p)
      at = cells p on ∙ ap (λ b. cond b Empty (cond (same_cell (cell_at c p) Empty) (own a) (cell_at c p))) within

      go : (x : Cell) → cell_at c p ≡ x → (cell_at s p ≡ Empty → ⊥) × (cell_at s p ≡ theirs a → cell_at c p ≡ theirs a)
      go Empty e =
          let mine : cell_at s p ≡ own a = at ∙ ap (λ x. cond (same_cell x Empty) (own a) x) e in
          ((λ free. cc (mine, free)), (λ yours. absurd (not_both a (cell_at s p) mine yours)))
      go (Stone j) e =
          let same : cell_at s p ≡ Stone j = at ∙ ap (λ x. cond (same_cell x Empty) (own a) x) e in
          ((λ free. cc (same, free)), (λ yours. e ∙ sym same ∙ yours))

  root_of : (p : ℕ) (qs : List ℕ) → is_outside a p ≡ false → cell_at c p ≡ theirs a → p < a.size * a.size → IsPath a.size s (theirs a) Empty p qs → Rooted a c p
  root_of p [] within is on path = absurd ((shut_in p on within).0 path)
  root_of p (q ∷ []) within is on path = go (is_outside a q) refl
    where
      at : q < a.size * a.size
      at = (adjacent_on_board a.size p q path.1).1

      go : (b : Bool) → is_outside a q ≡ b → Rooted a c p
      go true out = rooted_on a c p q is path.1 (walled.outside q at out) (q, out, joined_self a.size c q)
      go false e = absurd ((shut_in q at e).0 path.2)
  root_of p (q ∷ r ∷ rs) within is on path = go (is_outside a q) refl (λ e next. root_of q (r ∷ rs) e next (adjacent_on_board a.size p q path.1).1 path.2)
    where
      at : q < a.size * a.size
      at = (adjacent_on_board a.size p q path.1).1

      go : (b : Bool) → is_outside a q ≡ b → (is_outside a q ≡ false → cell_at c q ≡ theirs a → Rooted a c q) → Rooted a c p
      go true out rest = rooted_on a c p q is path.1 (walled.outside q at out) (q, out, joined_self a.size c q)
      go false e rest =
          let next : cell_at c q ≡ theirs a = (shut_in q at e).1 path.2.0 in
          rooted_on a c p q is path.1 next (rest e next)

  pub left_rooted : (left : List Cell) → left ≡ clear a.size s (opponent_of a.keeper) → (p : ℕ) → cell_at left p ≡ theirs a → Rooted a c p
  left_rooted left same p e =
      let before = stone_before a.size s (opponent_of a.keeper) (opponent_of a.keeper) p (ap (λ d. cell_at d p) (sym same) ∙ e) in
      go (is_outside a p) refl before.0 before.2 (and_false _ _ before.1 (eq_same_cell _ _ before.0))
    where
      go : (b : Bool) → is_outside a p ≡ b → cell_at s p ≡ theirs a → p < a.size * a.size → not (reaches a.size s p Empty) ≡ false → Rooted a c p
      go true out is on r = absurd (cc (shut_out p on out, is))
      go false within is on r =
          let reach = (reaches_path a.size s p Empty).0 (not_false (reaches a.size s p Empty) r) in
          root_of p reach.1.0 within ((shut_in p on within).1 is) on (subst (λ x. IsPath a.size s x Empty p reach.1.0) is reach.1.1)

pub region_within : (g : Ground) (p : ℕ) → IsTrue ((area_of g).region p) → p < side_of g.cells * side_of g.cells
region_within g p is = ltb-true p (side_of g.cells * side_of g.cells) (and_left (nat_lt p (side_of g.cells * side_of g.cells)) (same_cell (cell_at g.cells p) Empty) is)

-- a board that fits a state at each point fits it
pub fits_by : (a : Area) (b c : List Cell) → IsWalled a c → length b ≡ a.size * a.size → ((p : ℕ) → IsTrue (a.region p) → p < a.size * a.size) → ((p : ℕ) → p < a.size * a.size → FitsAt a b c p) → Fits a b c
fits_by a b c walled full within each = record {
  has_own = λ p e. mine p e (each p (stone_on a.size c a.keeper p walled.full e));
  no_more = λ p inside e. back p inside e (each p (within p inside));
  has_empty = λ p e. free p e (on_or_off a.size p);
  has_theirs = λ p e none. yours p e none (each p (stone_on a.size c (opponent_of a.keeper) p walled.full e));
}
  where
    mine : (p : ℕ) → cell_at c p ≡ own a → FitsAt a b c p → cell_at b p ≡ own a
    mine p e (inl out) = absurd (not_both a (cell_at c p) e (walled.outside p (stone_on a.size c a.keeper p walled.full e) out))
    mine p e (inr (inl same)) = same ∙ e
    mine p e (inr (inr (gone, there, root))) = absurd (not_both a (cell_at c p) e there)

    back : (p : ℕ) → IsTrue (a.region p) → cell_at b p ≡ own a → FitsAt a b c p → cell_at c p ≡ own a
    back p inside e (inl out) = absurd (cc (inside, and_right (not (a.kept p)) (not (a.region p)) out))
    back p inside e (inr (inl same)) = sym same ∙ e
    back p inside e (inr (inr (gone, there, root))) = absurd (cc (gone, e))

    at_free : (p : ℕ) → p < a.size * a.size → cell_at c p ≡ Empty → FitsAt a b c p → cell_at b p ≡ Empty
    at_free p on e (inl out) = absurd (cc (walled.outside p on out, e))
    at_free p on e (inr (inl same)) = same ∙ e
    at_free p on e (inr (inr (gone, there, root))) = gone

    free : (p : ℕ) → cell_at c p ≡ Empty → (p < a.size * a.size) ⊎ (a.size * a.size ≤ p) → cell_at b p ≡ Empty
    free p e (inl on) = at_free p on e (each p on)
    free p e (inr past) = get_or_past b p Empty (omega (arith, past, full))

    yours : (p : ℕ) → cell_at c p ≡ theirs a → (Rooted a c p → ⊥) → FitsAt a b c p → cell_at b p ≡ theirs a
    yours p e none (inl out) = absurd (none (p, out, joined_self a.size c p))
    yours p e none (inr (inl same)) = same ∙ e
    yours p e none (inr (inr (gone, there, root))) = absurd (none root)
