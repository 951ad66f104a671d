-- What a move leaves of a state of the killer's region that the board fits.
use Rattle.safe_groups.proofs.Common.{sym, subst, refl, ◌≡◌, ◌∙◌, List, ℕ, ap, IsTrue, IsFalse, true, false, Bool, inl, inr, [], ◌∷◌, ◌*◌, ◌<◌, ◌≤◌, ◌⊎◌, cond, not, length, set, eq_same_cell, on_or_off, reaches_path, clear, cell_at-clear, length-clear, is_captured, cell_at, adjacent, opponent_of, after_move, reaches, IsPath, Reaches, Cell, Empty, Stone, Colour, IsWay, Area, own, theirs, is_outside, IsWalled, Rooted, Fits, after_answer, stone_before, and_both}
use Rattle.go_points.proofs.Lists.{not_false, and_false}
use Rattle.go_points.proofs.Cells.{opponent_ne}
use Rattle.go_points.proofs.Clearing.{EveryStoneReaches, empty_stays, reaching_stays, cell_at_past}
use Rattle.safe_groups.proofs.Opening.{not_both}
use Rattle.safe_groups.proofs.Fitting.{stone_on, other_stays, loose_stuck, fits_clear_own, fits_clear_rest, fits_clear_loose, was_there, own_stays, walled_still}
use Rattle.safe_groups.proofs.Moving.{is_or_not, at_put, past_put, full_put, after_is, after_theirs, fits_put, fits_put_theirs, fits_put_outside, walled_put}
unfoldable use Rattle.dead_groups.specs.Kills.{clear_unsafe}
use Rattle.dead_groups.specs.Kills.{is_unsafe, IsSureLoss, after_attack}
use Rattle.dead_groups.proofs.Unsafe.{length-clear_unsafe, clear_unsafe_at, clear_unsafe_past, unsafe_is, safe_breathes, own_before, unsafe_shut, unsafe_through}

-- a stone that is there after its colour was cleared had a liberty
pub stood : (n : ℕ) (m : List Cell) (k : Colour) (p : ℕ) → cell_at (clear n m k) p ≡ Stone k → Reaches n m p Empty
stood n m k p e =
    let before = stone_before n m k k p e in
    (reaches_path n m p Empty).0 (not_false _ (and_false _ _ before.1 (eq_same_cell (cell_at m p) (Stone k) before.0)))

-- A move by k, where its stone has a liberty, takes none of its own.
module _ (n : ℕ) (k : Colour) (b : List Cell) (full : length b ≡ n * n) (v : ℕ) (on : v < n * n) (free : cell_at b v ≡ Empty) where
  abbrev left : List Cell
  left = clear n (set b v (Stone k)) (opponent_of k)

  pub own_left : (p : ℕ) → cell_at b p ≡ Stone k → cell_at (clear n (set b v (Stone k)) (opponent_of k)) p ≡ Stone k
  own_left p e = other_stays n (set b v (Stone k)) (opponent_of k) k p (full_put n b v (Stone k) full) (λ same. opponent_ne k (cc same))
      (past_put b v p (Stone k) (λ here. cc (e, ap (cell_at b) here, free)) ∙ e)

  v_left : cell_at (clear n (set b v (Stone k)) (opponent_of k)) v ≡ Stone k
  v_left = other_stays n (set b v (Stone k)) (opponent_of k) k v (full_put n b v (Stone k) full) (λ same. opponent_ne k (cc same)) (at_put n b v (Stone k) full on)

  module _ (every : EveryStoneReaches n b) (breathes : Reaches n (clear n (set b v (Stone k)) (opponent_of k)) v Empty) where
    from_v : (us : List ℕ) × IsPath n (clear n (set b v (Stone k)) (opponent_of k)) (Stone k) Empty v us
    from_v = (breathes.1.0, subst (λ x. IsPath n (clear n (set b v (Stone k)) (opponent_of k)) x Empty v breathes.1.0) v_left breathes.1.1)

    path_left : (p : ℕ) (qs : List ℕ) → cell_at b p ≡ Stone k → IsPath n b (Stone k) Empty p qs → (us : List ℕ) × IsPath n (clear n (set b v (Stone k)) (opponent_of k)) (Stone k) Empty p us
    path_left p [] e path = absurd (cc (e, path))
    path_left p (q ∷ []) e path = elim (is_or_not q v) [
      | inl here ↦ (v ∷ from_v.0, (own_left p e, subst (λ r. IsTrue (adjacent n p r)) here path.1, from_v.1))
      | inr ne ↦ (q ∷ [], (own_left p e, path.1, empty_stays n (set b v (Stone k)) (opponent_of k) q (past_put b v q (Stone k) ne ∙ path.2)))
    ]
    path_left p (q ∷ r ∷ rs) e path = let further = path_left q (r ∷ rs) path.2.0 path.2 in (q ∷ further.0, (own_left p e, path.1, further.1))

    pub own_breathes : (p : ℕ) → cell_at b p ≡ Stone k → Reaches n (clear n (set b v (Stone k)) (opponent_of k)) p Empty
    own_breathes p e =
        let r = every p k e in
        let path = path_left p r.1.0 e (subst (λ x. IsPath n b x Empty p r.1.0) e r.1.1) in
        let there : cell_at (clear n (set b v (Stone k)) (opponent_of k)) p ≡ Stone k = own_left p e in
        ((λ f. cc (there, f)), (path.0, subst (λ x. IsPath n (clear n (set b v (Stone k)) (opponent_of k)) x Empty p path.0) (sym there) path.1))

-- Clearing the killer's stones takes those that are unsafe in the state.
module _ (a : Area) (d : List Cell) (walled : IsWalled a d) (b : List Cell) (full : length b ≡ a.size * a.size) (fits : Fits a b d) (breathe : (p : ℕ) → IsTrue (a.kept p) → Reaches a.size b p Empty)
    (shut : (p : ℕ) → is_unsafe a d p ≡ true → Reaches a.size b p Empty → ⊥) where
  was : (j : Colour) (p : ℕ) → cell_at (clear_unsafe a d) p ≡ Stone j → (cell_at d p ≡ Stone j) × (is_unsafe a d p ≡ false) × (p < a.size * a.size)
  was j p e = go (on_or_off a.size p)
    where
      from : (v : Bool) → is_unsafe a d p ≡ v → p < a.size * a.size → cond v Empty (cell_at d p) ≡ Stone j → (cell_at d p ≡ Stone j) × (is_unsafe a d p ≡ false) × (p < a.size * a.size)
      from true is on h = absurd (cc h)
      from false is on h = (h, is, on)

      go : (p < a.size * a.size) ⊎ (a.size * a.size ≤ p) → (cell_at d p ≡ Stone j) × (is_unsafe a d p ≡ false) × (p < a.size * a.size)
      go (inl on) = from (is_unsafe a d p) refl on (sym (clear_unsafe_at a d p on) ∙ e)
      go (inr past) = absurd (cc (clear_unsafe_past a d p past, e))

  stays : (p : ℕ) → p < a.size * a.size → (is_unsafe a d p ≡ true → ⊥) → cell_at (clear_unsafe a d) p ≡ cell_at d p
  stays p on safe = clear_unsafe_at a d p on ∙ go (is_unsafe a d p) refl
    where
      go : (v : Bool) → is_unsafe a d p ≡ v → cond v Empty (cell_at d p) ≡ cell_at d p
      go true e = absurd (safe e)
      go false e = refl

  theirs_stays : (p : ℕ) → cell_at d p ≡ theirs a → cell_at (clear_unsafe a d) p ≡ theirs a
  theirs_stays p e = stays p (stone_on a.size d (opponent_of a.keeper) p walled.full e) (λ h. not_both a (cell_at d p) (unsafe_is a d p h).own e) ∙ e

  rooted_way : (p q : ℕ) (rs : List ℕ) → IsWay a.size d (theirs a) p q rs → IsWay a.size (clear_unsafe a d) (theirs a) p q rs
  rooted_way p q [] way = (theirs_stays p way.0, way.1)
  rooted_way p q (r ∷ rs) way = (theirs_stays p way.0, way.1, rooted_way r q rs way.2)

  rooted_stays : (p : ℕ) → cell_at d p ≡ theirs a → Rooted a d p → Rooted a (clear_unsafe a d) p
  rooted_stays p is root = (root.0, root.1, (root.2.0, subst (λ x. IsWay a.size (clear_unsafe a d) x p root.0 root.2.0) (sym (theirs_stays p is)) (rooted_way p root.0 root.2.0 (subst (λ x. IsWay a.size d x p root.0 root.2.0) is root.2.1))))

  pub walled_unsafe : IsWalled a (clear_unsafe a d)
  walled_unsafe = record {
    full = length-clear_unsafe a d;
    kept = λ p is. (let mine = walled.kept p is in stays p (stone_on a.size d a.keeper p walled.full mine) (λ h. cc ((unsafe_is a d p h).loose, is)) ∙ mine);
    outside = λ p on out. theirs_stays p (walled.outside p on out);
  }

  free_after : (p : ℕ) → cell_at (clear_unsafe a d) p ≡ Empty → cell_at (clear a.size b a.keeper) p ≡ Empty
  free_after p e = go (on_or_off a.size p)
    where
      barred : is_unsafe a d p ≡ true → (v : Bool) → reaches a.size b p Empty ≡ v → v ≡ false
      barred is true e = absurd (shut p is ((reaches_path a.size b p Empty).0 e))
      barred is false e = refl

      from : (v : Bool) → is_unsafe a d p ≡ v → p < a.size * a.size → cond v Empty (cell_at d p) ≡ Empty → cell_at (clear a.size b a.keeper) p ≡ Empty
      from true is on h =
          let captured : is_captured a.size b a.keeper p ≡ true = and_both _ _ (eq_same_cell _ _ (fits.has_own p (unsafe_is a d p is).own)) (ap not (barred is (reaches a.size b p Empty) refl)) in
          cell_at-clear a.size b a.keeper p on ∙ ap (λ v. cond v Empty (cell_at b p)) captured
      from false is on h = empty_stays a.size b a.keeper p (fits.has_empty p h)

      go : (p < a.size * a.size) ⊎ (a.size * a.size ≤ p) → cell_at (clear a.size b a.keeper) p ≡ Empty
      go (inl on) = from (is_unsafe a d p) refl on (sym (clear_unsafe_at a d p on) ∙ e)
      go (inr past) = cell_at_past a.size b a.keeper p past

  own_after : (p : ℕ) → IsTrue (a.region p) → cell_at (clear a.size b a.keeper) p ≡ own a → cell_at (clear_unsafe a d) p ≡ own a
  own_after p within e =
      let mine : cell_at d p ≡ own a = fits.no_more p within (stone_before a.size b a.keeper a.keeper p e).0 in
      stays p (stone_on a.size d a.keeper p walled.full mine) (λ h. shut p h (stood a.size b a.keeper p e)) ∙ mine

  pub fits_unsafe : Fits a (clear a.size b a.keeper) (clear_unsafe a d)
  fits_unsafe = record {
    has_own = λ p e. (
        let before = was a.keeper p e in
        reaching_stays a.size b a.keeper p before.2 (safe_breathes a d walled b fits.has_own fits.has_empty breathe p before.0 before.1) ∙ fits.has_own p before.0);
    no_more = own_after;
    has_empty = free_after;
    has_theirs = λ p e none. (
        let before = was (opponent_of a.keeper) p e in
        other_stays a.size b a.keeper (opponent_of a.keeper) p full (λ same. opponent_ne a.keeper (cc same)) (fits.has_theirs p before.0 (λ root. none (rooted_stays p before.0 root))));
  }

-- The other side's move at an empty point of the state.
module _ (a : Area) (b c : List Cell) (fits : Fits a b c) (full : length b ≡ a.size * a.size) (walled : IsWalled a c) (x : ℕ) (on : x < a.size * a.size) where
  pub attacked : cell_at c x ≡ Empty → IsSureLoss a c x → ((p : ℕ) → IsTrue (a.kept p) → cell_at (after_move a.size b (opponent_of a.keeper) x) p ≡ own a)
      → Fits a (after_move a.size b (opponent_of a.keeper) x) (after_attack a c x)
  attacked free sure stand = subst (λ z. Fits a z (after_attack a c x)) (sym (after_theirs a.size b a.keeper x))
      (fits_clear_loose a (clear_unsafe a d) wall (clear a.size put a.keeper) (length-clear a.size put a.keeper)
      (fits_unsafe a d walled_d put full_b put_fits breathe (unsafe_shut a b c fits walled x on free sure full)))
    where
      put : List Cell
      put = set b x (theirs a)

      d : List Cell
      d = set c x (theirs a)

      full_b : length (set b x (theirs a)) ≡ a.size * a.size
      full_b = full_put a.size b x (theirs a) full

      walled_d : IsWalled a (set c x (theirs a))
      walled_d = walled_put a c walled x on free (theirs a)

      put_fits : Fits a (set b x (theirs a)) (set c x (theirs a))
      put_fits = fits_put a b c fits full walled.full x on free (theirs a)

      breathe : (p : ℕ) → IsTrue (a.kept p) → Reaches a.size (set b x (theirs a)) p Empty
      breathe p is = stood a.size (set b x (theirs a)) a.keeper p (stone_before a.size (clear a.size (set b x (theirs a)) a.keeper) (opponent_of a.keeper) a.keeper p
          (ap (λ z. cell_at z p) (sym (after_theirs a.size b a.keeper x)) ∙ stand p is)).0

      wall : IsWalled a (clear_unsafe a (set c x (theirs a)))
      wall = walled_unsafe a (set c x (theirs a)) walled_d (set b x (theirs a)) full_b put_fits breathe (unsafe_shut a b c fits walled x on free sure full)

  -- Elsewhere: where the state has one of its stones, which is not there any more, and a move at y would be a sure loss.
  pub attacked_elsewhere : cell_at c x ≡ theirs a → cell_at b x ≡ Empty → EveryStoneReaches a.size b → (y : ℕ) → y < a.size * a.size → cell_at c y ≡ Empty → IsSureLoss a c y
      → ((p : ℕ) → IsTrue (a.kept p) → cell_at (after_move a.size b (opponent_of a.keeper) x) p ≡ own a) → Fits a (after_move a.size b (opponent_of a.keeper) x) c
  attacked_elsewhere there gone every y on_y free sure stand = subst (λ z. Fits a z c) (sym (after_theirs a.size b a.keeper x))
      (fits_clear_rest a (clear a.size put a.keeper) c (fits_clear_own a put c put_fits full_b own_breathe) (length-clear a.size put a.keeper)
      (λ p is none. loose_stuck a b c fits p is none (every p (opponent_of a.keeper) (fits.has_theirs p is none))))
    where
      put : List Cell
      put = set b x (theirs a)

      full_b : length (set b x (theirs a)) ≡ a.size * a.size
      full_b = full_put a.size b x (theirs a) full

      put_fits : Fits a (set b x (theirs a)) c
      put_fits = fits_put_theirs a b c fits full walled.full x on gone there

      breathe : (p : ℕ) → IsTrue (a.kept p) → Reaches a.size (set b x (theirs a)) p Empty
      breathe p is = stood a.size (set b x (theirs a)) a.keeper p (stone_before a.size (clear a.size (set b x (theirs a)) a.keeper) (opponent_of a.keeper) a.keeper p
          (ap (λ z. cell_at z p) (sym (after_theirs a.size b a.keeper x)) ∙ stand p is)).0

      empty_before : (q : ℕ) → cell_at (set c y (theirs a)) q ≡ Empty → cell_at c q ≡ Empty
      empty_before q e = elim (is_or_not q y) [
        | inl here ↦ ap (cell_at c) here ∙ free
        | inr ne ↦ sym (past_put c y q (theirs a) ne) ∙ e
      ]

      safe : (p : ℕ) → cell_at c p ≡ own a → (v : Bool) → is_unsafe a (set c y (theirs a)) p ≡ v → Reaches a.size (set b x (theirs a)) p Empty
      safe p mine true h = unsafe_through a b c fits walled y on_y free sure (set b x (theirs a)) put_fits p h (every p a.keeper (fits.has_own p mine))
      safe p mine false h = safe_breathes a (set c y (theirs a)) (walled_put a c walled y on_y free (theirs a)) (set b x (theirs a)) (λ q e. put_fits.has_own q (own_before a b c fits walled y on_y free sure q e))
          (λ q e. put_fits.has_empty q (empty_before q e)) breathe p (past_put c y p (theirs a) (λ here. cc (mine, ap (cell_at c) here, free)) ∙ mine) h

      own_breathe : (p : ℕ) → cell_at c p ≡ own a → Reaches a.size (set b x (theirs a)) p Empty
      own_breathe p mine = safe p mine (is_unsafe a (set c y (theirs a)) p) refl

-- The killer's move at an empty point of the state, where its stone is not unsafe.
module _ (a : Area) (b c : List Cell) (fits : Fits a b c) (full : length b ≡ a.size * a.size) (walled : IsWalled a c) (every : EveryStoneReaches a.size b) (v : ℕ) (on : v < a.size * a.size) where
  pub killed : cell_at c v ≡ Empty → IsFalse (is_unsafe a (after_answer a c v) v) → ((p : ℕ) → IsTrue (a.kept p) → cell_at (after_move a.size b a.keeper v) p ≡ own a)
      → Fits a (after_move a.size b a.keeper v) (after_answer a c v)
  killed free safe stand = subst (λ z. Fits a z (after_answer a c v)) (sym (after_is a.size b a.keeper v))
      (fits_clear_own a left_ (after_answer a c v) left_fits (length-clear a.size (set b v (own a)) (opponent_of a.keeper)) breathes)
    where
      left_ : List Cell
      left_ = clear a.size (set b v (own a)) (opponent_of a.keeper)

      gone : cell_at b v ≡ Empty
      gone = fits.has_empty v free

      wall : IsWalled a (set c v (own a))
      wall = walled_put a c walled v on free (own a)

      left_fits : Fits a (clear a.size (set b v (own a)) (opponent_of a.keeper)) (after_answer a c v)
      left_fits = fits_clear_loose a (set c v (own a)) wall (set b v (own a)) (full_put a.size b v (own a) full) (fits_put a b c fits full walled.full v on free (own a))

      v_there : cell_at (after_answer a c v) v ≡ own a
      v_there = own_stays a (set c v (own a)) wall v (at_put a.size c v (own a) walled.full on)

      v_breathes : Reaches a.size (clear a.size (set b v (own a)) (opponent_of a.keeper)) v Empty
      v_breathes = safe_breathes a (after_answer a c v) (walled_still a (set c v (own a)) wall) (clear a.size (set b v (own a)) (opponent_of a.keeper)) left_fits.has_own left_fits.has_empty
          (λ p is. stood a.size (clear a.size (set b v (own a)) (opponent_of a.keeper)) a.keeper p (ap (λ z. cell_at z p) (sym (after_is a.size b a.keeper v)) ∙ stand p is)) v v_there safe

      breathes : (p : ℕ) → cell_at (after_answer a c v) p ≡ own a → Reaches a.size (clear a.size (set b v (own a)) (opponent_of a.keeper)) p Empty
      breathes p e = elim (is_or_not p v) [
        | inl here ↦ subst (λ q. Reaches a.size (clear a.size (set b v (own a)) (opponent_of a.keeper)) q Empty) (sym here) v_breathes
        | inr ne ↦ own_breathes a.size a.keeper b full v on gone every v_breathes p
            (fits.has_own p (sym (past_put c v p (own a) ne) ∙ (was_there a (set c v (own a)) wall a.keeper p e).0))
      ]

  -- its move elsewhere, outside the region
  pub killed_elsewhere : is_outside a v ≡ true → IsFalse (a.region v) → cell_at b v ≡ Empty → cell_at (after_move a.size b a.keeper v) v ≡ own a → Fits a (after_move a.size b a.keeper v) c
  killed_elsewhere out beyond gone stands = subst (λ z. Fits a z c) (sym (after_is a.size b a.keeper v))
      (fits_clear_own a left_ c left_fits (length-clear a.size (set b v (own a)) (opponent_of a.keeper))
      (λ p mine. own_breathes a.size a.keeper b full v on gone every v_breathes p (fits.has_own p mine)))
    where
      left_ : List Cell
      left_ = clear a.size (set b v (own a)) (opponent_of a.keeper)

      left_fits : Fits a (clear a.size (set b v (own a)) (opponent_of a.keeper)) c
      left_fits = fits_clear_rest a (set b v (own a)) c (fits_put_outside a b c fits full walled.full v on out beyond (walled.outside v on out)) (full_put a.size b v (own a) full)
          (λ p is none. loose_stuck a b c fits p is none (every p (opponent_of a.keeper) (fits.has_theirs p is none)))

      v_breathes : Reaches a.size (clear a.size (set b v (own a)) (opponent_of a.keeper)) v Empty
      v_breathes = stood a.size (clear a.size (set b v (own a)) (opponent_of a.keeper)) a.keeper v (ap (λ z. cell_at z v) (sym (after_is a.size b a.keeper v)) ∙ stands)
