-- What fits a state still does so after stones are taken off, on the board and in the state.
use Rattle.safe_groups.proofs.Common.{sym, subst, refl, ◌≡◌, ◌∙◌, List, ℕ, ap, IsTrue, true, false, Bool, inl, inr, [], ◌∷◌, ◌*◌, ◌<◌, ◌≤◌, ◌⊎◌, ◌&&◌, cond, not, length, arith, get_or_past, eq_same_cell, adjacent_on_board, stone_before, on_or_off, cell_at-clear, reaches_path, clear, is_captured, cell_at, adjacent, opponent_of, reaches, IsPath, Reaches, Cell, Empty, Stone, Colour, joined_self, IsWay, Area, own, theirs, is_outside, IsWalled, Rooted, Fits, clear_loose, and_both}
use Rattle.go_points.proofs.Cells.{same_cell_false}
use Rattle.go_points.proofs.Clearing.{empty_stays, reaching_stays, on_board_of, cell_at_past}
use Rattle.safe_groups.proofs.Opening.{cell_cases, not_both, vanishes, clear_loose_at, clear_loose_past, length-clear_loose, vanishes_theirs, vanishes_unrooted, vanishes_stuck, rooted_on, stays_cases}

-- a stone is on the board
pub stone_on : (n : ℕ) (b : List Cell) (j : Colour) (p : ℕ) → length b ≡ n * n → cell_at b p ≡ Stone j → p < n * n
stone_on n b j p full e = go (on_or_off n p)
  where
    go : (p < n * n) ⊎ (n * n ≤ p) → p < n * n
    go (inl on) = on
    go (inr past) = absurd (cc (e, get_or_past b p Empty (omega (arith, past, full))))

-- clearing one colour leaves the other
pub other_stays : (n : ℕ) (b : List Cell) (k j : Colour) (p : ℕ) → length b ≡ n * n → (Stone j ≡ Stone k → ⊥) → cell_at b p ≡ Stone j → cell_at (clear n b k) p ≡ Stone j
other_stays n b k j p full ne e =
    let on : p < n * n = stone_on n b j p full e in
    let spared : is_captured n b k p ≡ false = ap (λ x. x && not (reaches n b p Empty)) (same_cell_false (cell_at b p) (Stone k) (λ f. ne (sym e ∙ f))) in
    cell_at-clear n b k p on ∙ ap (λ x. cond x Empty (cell_at b p)) spared ∙ e

module _ (a : Area) where
  mine_not : own a ≡ theirs a → ⊥
  mine_not e = not_both a (own a) refl e

  pub fits_self : (c : List Cell) → Fits a c c
  fits_self c = record {
    has_own = λ p e. e;
    no_more = λ p within e. e;
    has_empty = λ p e. e;
    has_theirs = λ p e none. e;
  }

  module _ (b c : List Cell) (fits : Fits a b c) where
    path_there : (p : ℕ) (qs : List ℕ) → IsPath a.size c (own a) Empty p qs → IsPath a.size b (own a) Empty p qs
    path_there p [] path = fits.has_empty p path
    path_there p (q ∷ qs) path = (fits.has_own p path.0, path.1, path_there q qs path.2)

    -- the keeper's stones that reach empty in the state do so on the board
    pub own_reaches : (p : ℕ) → cell_at c p ≡ own a → Reaches a.size c p Empty → Reaches a.size b p Empty
    own_reaches p is r =
        let there : cell_at b p ≡ own a = fits.has_own p is in
        ((λ e. cc (there, e)), (r.1.0, subst (λ x. IsPath a.size b x Empty p r.1.0) (sym there) (path_there p r.1.0 (subst (λ x. IsPath a.size c x Empty p r.1.0) is r.1.1))))

    -- a stone beside one that is not rooted is not either
    unrooted_on : (p q : ℕ) → cell_at c p ≡ theirs a → (Rooted a c p → ⊥) → IsTrue (adjacent a.size p q) → cell_at c q ≡ theirs a → Rooted a c q → ⊥
    unrooted_on p q is none adj next root = none (rooted_on a c p q is adj next root)

    loose_there : (p : ℕ) (qs : List ℕ) → cell_at c p ≡ theirs a → (Rooted a c p → ⊥) → IsPath a.size c (theirs a) Empty p qs → IsPath a.size b (theirs a) Empty p qs
    loose_there p [] is none path = absurd (cc (is, path))
    loose_there p (q ∷ []) is none path = (fits.has_theirs p is none, path.1, fits.has_empty q path.2)
    loose_there p (q ∷ r ∷ rs) is none path = (fits.has_theirs p is none, path.1, loose_there q (r ∷ rs) path.2.0 (unrooted_on p q is none path.1 path.2.0) path.2)

    -- stones of the other side's that are not rooted reach empty on the board where they do in the state, and only there
    pub loose_reaches : (p : ℕ) → cell_at c p ≡ theirs a → (Rooted a c p → ⊥) → Reaches a.size c p Empty → Reaches a.size b p Empty
    loose_reaches p is none r =
        let there : cell_at b p ≡ theirs a = fits.has_theirs p is none in
        ((λ e. cc (there, e)), (r.1.0, subst (λ x. IsPath a.size b x Empty p r.1.0) (sym there) (loose_there p r.1.0 is none (subst (λ x. IsPath a.size c x Empty p r.1.0) is r.1.1))))

    -- what is beside such a stone is on the board what it is in the state
    beside_empty : (p q : ℕ) → cell_at c p ≡ theirs a → (Rooted a c p → ⊥) → IsTrue (adjacent a.size p q) → cell_at b q ≡ Empty → cell_at c q ≡ Empty
    beside_empty p q is none adj e = elim (cell_cases a (cell_at c q)) [
      | inl free ↦ free
      | inr stone ↦ absurd (elim stone [
        | inl mine ↦ cc (fits.has_own q mine, e)
        | inr yours ↦ cc (fits.has_theirs q yours (unrooted_on p q is none adj yours), e)
      ])
    ]

    beside_theirs : (p q : ℕ) → cell_at b q ≡ theirs a → cell_at c q ≡ theirs a
    beside_theirs p q e = elim (cell_cases a (cell_at c q)) [
      | inl free ↦ absurd (cc (fits.has_empty q free, e))
      | inr stone ↦ elim stone [
        | inl mine ↦ absurd (not_both a (cell_at b q) (fits.has_own q mine) e)
        | inr yours ↦ yours
      ]
    ]

    loose_back : (p : ℕ) (qs : List ℕ) → cell_at c p ≡ theirs a → (Rooted a c p → ⊥) → IsPath a.size b (theirs a) Empty p qs → IsPath a.size c (theirs a) Empty p qs
    loose_back p [] is none path = absurd (cc (fits.has_theirs p is none, path))
    loose_back p (q ∷ []) is none path = (is, path.1, beside_empty p q is none path.1 path.2)
    loose_back p (q ∷ r ∷ rs) is none path =
        let next : cell_at c q ≡ theirs a = beside_theirs p q path.2.0 in
        (is, path.1, loose_back q (r ∷ rs) next (unrooted_on p q is none path.1 next) path.2)

    pub loose_stuck : (p : ℕ) → cell_at c p ≡ theirs a → (Rooted a c p → ⊥) → Reaches a.size b p Empty → Reaches a.size c p Empty
    loose_stuck p is none r =
        let there : cell_at b p ≡ theirs a = fits.has_theirs p is none in
        ((λ e. cc (is, e)), (r.1.0, subst (λ x. IsPath a.size c x Empty p r.1.0) (sym is) (loose_back p r.1.0 is none (subst (λ x. IsPath a.size b x Empty p r.1.0) there r.1.1))))

    -- clearing the keeper's stones takes none that the state has, if these reach empty on the board
    pub fits_clear_own : length b ≡ a.size * a.size → ((p : ℕ) → cell_at c p ≡ own a → Reaches a.size b p Empty) → Fits a (clear a.size b a.keeper) c
    fits_clear_own full reach = record {
      has_own = λ p is.
          let r = reach p is in
          reaching_stays a.size b a.keeper p (on_board_of a.size b p r) r ∙ fits.has_own p is;
      no_more = λ p within e. fits.no_more p within (stone_before a.size b a.keeper a.keeper p e).0;
      has_empty = λ p e. empty_stays a.size b a.keeper p (fits.has_empty p e);
      has_theirs = λ p is none. other_stays a.size b a.keeper (opponent_of a.keeper) p full (λ e. mine_not (sym e)) (fits.has_theirs p is none);
    }

    -- nor does clearing the other side's take any that is not rooted, if those of the state reach empty
    pub fits_clear_rest : length b ≡ a.size * a.size → ((p : ℕ) → cell_at c p ≡ theirs a → (Rooted a c p → ⊥) → Reaches a.size c p Empty) → Fits a (clear a.size b (opponent_of a.keeper)) c
    fits_clear_rest full reach = record {
      has_own = λ p is. other_stays a.size b (opponent_of a.keeper) a.keeper p full mine_not (fits.has_own p is);
      no_more = λ p within e. fits.no_more p within (stone_before a.size b (opponent_of a.keeper) a.keeper p e).0;
      has_empty = λ p e. empty_stays a.size b (opponent_of a.keeper) p (fits.has_empty p e);
      has_theirs = λ p is none.
          let r = loose_reaches p is none (reach p is none) in
          reaching_stays a.size b (opponent_of a.keeper) p (on_board_of a.size b p r) r ∙ fits.has_theirs p is none;
    }

  -- what the loose stones leave
  module _ (c : List Cell) (walled : IsWalled a c) where
    pub kept_at : (p : ℕ) → p < a.size * a.size → (cell_at c p ≡ theirs a → ⊥) → cell_at (clear_loose a c) p ≡ cell_at c p
    kept_at p on other = clear_loose_at a c p on ∙ go (vanishes a c p) refl
      where
        go : (v : Bool) → vanishes a c p ≡ v → cond v Empty (cell_at c p) ≡ cell_at c p
        go true e = absurd (other (vanishes_theirs a c p on e))
        go false e = refl

    -- a stone that is there was there, and does not vanish
    pub was_there : (j : Colour) (p : ℕ) → cell_at (clear_loose a c) p ≡ Stone j → (cell_at c p ≡ Stone j) × (vanishes a c p ≡ false) × (p < a.size * a.size)
    was_there j p e = go (on_or_off a.size p)
      where
        from : (v : Bool) → vanishes a c p ≡ v → p < a.size * a.size → cond v Empty (cell_at c p) ≡ Stone j → (cell_at c p ≡ Stone j) × (vanishes a c p ≡ false) × (p < a.size * a.size)
        from true is on h = absurd (cc h)
        from false is on h = (h, is, on)

        go : (p < a.size * a.size) ⊎ (a.size * a.size ≤ p) → (cell_at c p ≡ Stone j) × (vanishes a c p ≡ false) × (p < a.size * a.size)
        go (inl on) = from (vanishes a c p) refl on (sym (clear_loose_at a c p on) ∙ e)
        go (inr past) = absurd (cc (clear_loose_past a c p past, e))

    pub own_stays : (p : ℕ) → cell_at c p ≡ own a → cell_at (clear_loose a c) p ≡ own a
    own_stays p e = kept_at p (stone_on a.size c a.keeper p walled.full e) (λ f. not_both a (cell_at c p) e f) ∙ e

    -- a rooted stone stays, and stays rooted
    rooted_stays : (p : ℕ) → p < a.size * a.size → cell_at c p ≡ theirs a → Rooted a c p → cell_at (clear_loose a c) p ≡ theirs a
    rooted_stays p on is root = clear_loose_at a c p on ∙ go (vanishes a c p) refl
      where
        go : (v : Bool) → vanishes a c p ≡ v → cond v Empty (cell_at c p) ≡ theirs a
        go true e = absurd (vanishes_unrooted a c p on e root)
        go false e = is

    rooted_way : (p q : ℕ) (rs : List ℕ) → p < a.size * a.size → is_outside a q ≡ true → IsWay a.size c (theirs a) p q rs → IsWay a.size (clear_loose a c) (theirs a) p q rs
    rooted_way p q [] on out w = (rooted_stays p on w.0 (q, out, ([], (refl, w.1))), w.1)
    rooted_way p q (r ∷ rs) on out w = (
      rooted_stays p on w.0 (q, out, (r ∷ rs, subst (λ x. IsWay a.size c x p q (r ∷ rs)) (sym w.0) w)),
      w.1,
      rooted_way r q rs (adjacent_on_board a.size p r w.1).1 out w.2,
    )

    pub rooted_still : (p : ℕ) → p < a.size * a.size → cell_at c p ≡ theirs a → Rooted a c p → Rooted a (clear_loose a c) p
    rooted_still p on is root =
        let there : cell_at (clear_loose a c) p ≡ theirs a = rooted_stays p on is root in
        let way = rooted_way p root.0 root.2.0 on root.1 (subst (λ x. IsWay a.size c x p root.0 root.2.0) is root.2.1) in
        (root.0, root.1, (root.2.0, subst (λ x. IsWay a.size (clear_loose a c) x p root.0 root.2.0) (sym there) way))

    -- the state stays walled
    pub walled_still : IsWalled a (clear_loose a c)
    walled_still = record {
      full = length-clear_loose a c;
      kept = λ p is. own_stays p (walled.kept p is);
      outside = λ p on out. rooted_stays p on (walled.outside p on out) (p, out, joined_self a.size c p);
    }

    -- the board loses the stones that the state loses
    module _ (b : List Cell) (full : length b ≡ a.size * a.size) (fits : Fits a b c) where
      emptied : (p : ℕ) → p < a.size * a.size → vanishes a c p ≡ true → cell_at (clear a.size b (opponent_of a.keeper)) p ≡ Empty
      emptied p on v = cell_at-clear a.size b (opponent_of a.keeper) p on ∙ ap (λ x. cond x Empty (cell_at b p)) captured
        where
          is : cell_at c p ≡ theirs a
          is = vanishes_theirs a c p on v

          none : Rooted a c p → ⊥
          none = vanishes_unrooted a c p on v

          barred : (x : Bool) → reaches a.size b p Empty ≡ x → x ≡ false
          barred true e = absurd (vanishes_stuck a c p on v (loose_stuck b c fits p is none ((reaches_path a.size b p Empty).0 e)))
          barred false e = refl

          captured : is_captured a.size b (opponent_of a.keeper) p ≡ true
          captured = and_both _ _ (eq_same_cell _ _ (fits.has_theirs p is none)) (ap not (barred (reaches a.size b p Empty) refl))

      free_after : (p : ℕ) → cell_at (clear_loose a c) p ≡ Empty → cell_at (clear a.size b (opponent_of a.keeper)) p ≡ Empty
      free_after p e = go (on_or_off a.size p)
        where
          from : (v : Bool) → vanishes a c p ≡ v → p < a.size * a.size → cond v Empty (cell_at c p) ≡ Empty → cell_at (clear a.size b (opponent_of a.keeper)) p ≡ Empty
          from true is on h = emptied p on is
          from false is on h = empty_stays a.size b (opponent_of a.keeper) p (fits.has_empty p h)

          go : (p < a.size * a.size) ⊎ (a.size * a.size ≤ p) → cell_at (clear a.size b (opponent_of a.keeper)) p ≡ Empty
          go (inl on) = from (vanishes a c p) refl on (sym (clear_loose_at a c p on) ∙ e)
          go (inr past) = cell_at_past a.size b (opponent_of a.keeper) p past

      theirs_after : (p : ℕ) → cell_at (clear_loose a c) p ≡ theirs a → (Rooted a (clear_loose a c) p → ⊥) → cell_at (clear a.size b (opponent_of a.keeper)) p ≡ theirs a
      theirs_after p e none =
          let (is, v, on) = was_there (opponent_of a.keeper) p e in
          let unrooted : Rooted a c p → ⊥ = λ root. none (rooted_still p on is root) in
          elim (stays_cases a c walled p on is v) [
            | inl root ↦ absurd (unrooted root)
            | inr reach ↦
                let r = loose_reaches b c fits p is unrooted reach in
                reaching_stays a.size b (opponent_of a.keeper) p on r ∙ fits.has_theirs p is unrooted
          ]

      pub fits_clear_loose : Fits a (clear a.size b (opponent_of a.keeper)) (clear_loose a c)
      fits_clear_loose = record {
        has_own = λ p e. other_stays a.size b (opponent_of a.keeper) a.keeper p full mine_not (fits.has_own p (was_there a.keeper p e).0);
        no_more = λ p within e. own_stays p (fits.no_more p within (stone_before a.size b (opponent_of a.keeper) a.keeper p e).0);
        has_empty = free_after;
        has_theirs = theirs_after;
      }

  -- a board that fits a state which fits another one fits that
  module _ (b d w : List Cell) (upper : Fits a b d) (lower : Fits a d w) where
    rooted_way_up : (p q : ℕ) (rs : List ℕ) → IsWay a.size d (theirs a) p q rs → IsWay a.size w (theirs a) p q rs
    rooted_way_up p q [] way = (beside_theirs d w lower p p way.0, way.1)
    rooted_way_up p q (r ∷ rs) way = (beside_theirs d w lower p p way.0, way.1, rooted_way_up r q rs way.2)

    rooted_up : (p : ℕ) → cell_at d p ≡ theirs a → Rooted a d p → Rooted a w p
    rooted_up p is root =
        let there : cell_at w p ≡ theirs a = beside_theirs d w lower p p is in
        (root.0, root.1, (root.2.0, subst (λ x. IsWay a.size w x p root.0 root.2.0) (sym there) (rooted_way_up p root.0 root.2.0 (subst (λ x. IsWay a.size d x p root.0 root.2.0) is root.2.1))))

    pub fits_on : Fits a b w
    fits_on = record {
      has_own = λ p e. upper.has_own p (lower.has_own p e);
      no_more = λ p within e. lower.no_more p within (upper.no_more p within e);
      has_empty = λ p e. upper.has_empty p (lower.has_empty p e);
      has_theirs = λ p e none. (let is = lower.has_theirs p e none in upper.has_theirs p is (λ root. none (rooted_up p is root)));
    }
