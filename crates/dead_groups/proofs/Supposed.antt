-- Stones that are only supposed to have a liberty outside the region.
use Rattle.safe_groups.proofs.Common.{sym, subst, refl, ◌≡◌, ◌∙◌, List, ℕ, ap, true, false, Bool, [], ◌∷◌, ◌*◌, ◌<◌, ◌&&◌, cond, arith, length, set, eq_same_cell, same_cell_eq, adjacent_on_board, reaches_path, clear, cell_at, same_cell, opponent_of, after_move, reaches, IsPath, Cell, Empty, Area, own, theirs, nat_eq, eqb-true, holds_point, and_left, and_right, get_or-map-range_with_len}
use Rattle.go_points.proofs.Lists.{any_from, all_at}
use Rattle.go_points.proofs.Clearing.{empty_stays, reaching_stays, on_board_of}
use Rattle.safe_groups.proofs.Opening.{not_both}
use Rattle.safe_groups.proofs.Moving.{after_is, past_put}
unfoldable use Rattle.dead_groups.specs.While.{filled}
use Rattle.dead_groups.specs.While.{are_free}
use Rattle.dead_groups.proofs.Moves.{own_left}

module _ (a : Area) (b : List Cell) where
  filled_at : (p : ℕ) → p < a.size * a.size → cell_at (filled a b) p ≡ cond (a.region p && same_cell (cell_at b p) Empty) (theirs a) (cell_at b p)
  unfolding filled
  filled_at p on = get_or-map-range_with_len (λ q. cond (a.region q && same_cell (cell_at b q) Empty) (theirs a) (cell_at b q)) 0 (a.size * a.size) p p Empty on (omega arith)

  filled_own : (p : ℕ) → p < a.size * a.size → cell_at (filled a b) p ≡ own a → cell_at b p ≡ own a
  filled_own p on e = go (a.region p && same_cell (cell_at b p) Empty) (sym (filled_at p on) ∙ e)
    where
      go : (v : Bool) → cond v (theirs a) (cell_at b p) ≡ own a → cell_at b p ≡ own a
      go true f = absurd (not_both a (own a) refl (sym f))
      go false f = f

  -- what is empty there is empty on the board, outside the region
  filled_free : (p : ℕ) → p < a.size * a.size → cell_at (filled a b) p ≡ Empty → (cell_at b p ≡ Empty) × (a.region p ≡ false)
  filled_free p on e = go (a.region p) (same_cell (cell_at b p) Empty) refl refl (sym (filled_at p on) ∙ e)
    where
      go : (r v : Bool) → a.region p ≡ r → same_cell (cell_at b p) Empty ≡ v → cond (r && v) (theirs a) (cell_at b p) ≡ Empty → (cell_at b p ≡ Empty) × (a.region p ≡ false)
      go true true is e f = absurd (cc f)
      go true false is e f = absurd (cc (eq_same_cell (cell_at b p) Empty f, e))
      go false v is e f = (f, is)

  module _ (stones : List ℕ) (free : are_free a stones b ≡ true) (p : ℕ) (one : holds_point stones p ≡ true) where
    both : (same_cell (cell_at b p) (own a) && reaches a.size (filled a b) p Empty) ≡ true
    both =
        let found = any_from (nat_eq p) stones one in
        subst (λ q. (same_cell (cell_at b q) (own a) && reaches a.size (filled a b) q Empty) ≡ true) (sym (eqb-true p found.0 found.2))
        (all_at (λ q. same_cell (cell_at b q) (own a) && reaches a.size (filled a b) q Empty) found.0 stones free found.1)

    pub free_there : cell_at b p ≡ own a
    free_there = same_cell_eq (cell_at b p) (own a) (and_left (same_cell (cell_at b p) (own a)) (reaches a.size (filled a b) p Empty) both)

    -- The killer's move within the region leaves it.
    module _ (full : length b ≡ a.size * a.size) (v : ℕ) (on : v < a.size * a.size) (gone : cell_at b v ≡ Empty) (within : a.region v ≡ true) where
      path_left : (q : ℕ) (qs : List ℕ) → cell_at b q ≡ own a → IsPath a.size (filled a b) (own a) Empty q qs → q < a.size * a.size → (us : List ℕ) × IsPath a.size (clear a.size (set b v (own a)) (opponent_of a.keeper)) (own a) Empty q us
      path_left q [] mine path low = absurd (cc (mine, (filled_free q low path).0))
      path_left q (r ∷ []) mine path low =
          let out = filled_free r (adjacent_on_board a.size q r path.1).1 path.2 in (
            r ∷ [],
            (
              own_left a.size a.keeper b full v on gone q mine,
              path.1,
              empty_stays a.size (set b v (own a)) (opponent_of a.keeper) r (past_put b v r (own a) (λ here. cc (within, ap a.region here, out.1)) ∙ out.0),
            ),
          )
      path_left q (r ∷ t ∷ ts) mine path low =
          let there = (adjacent_on_board a.size q r path.1).1 in
          let further = path_left r (t ∷ ts) (filled_own r there path.2.0) path.2 there in
          (r ∷ further.0, (own_left a.size a.keeper b full v on gone q mine, path.1, further.1))

      pub free_stays : cell_at (after_move a.size b a.keeper v) p ≡ own a
      free_stays =
          let r = (reaches_path a.size (filled a b) p Empty).0 (and_right (same_cell (cell_at b p) (own a)) (reaches a.size (filled a b) p Empty) both) in
          let low = on_board_of a.size (filled a b) p r in
          let mine = stone low in
          let path = path_left p r.1.0 free_there (subst (λ x. IsPath a.size (filled a b) x Empty p r.1.0) mine r.1.1) low in
          let there = own_left a.size a.keeper b full v on gone p free_there in
          ap (λ z. cell_at z p) (after_is a.size b a.keeper v)
          ∙ reaching_stays a.size (clear a.size (set b v (own a)) (opponent_of a.keeper)) a.keeper p low
          ((λ f. cc (there, f)), (path.0, subst (λ x. IsPath a.size (clear a.size (set b v (own a)) (opponent_of a.keeper)) x Empty p path.0) (sym there) path.1))
          ∙ there
        where
          stone : p < a.size * a.size → cell_at (filled a b) p ≡ own a
          stone low = filled_at p low ∙ ap (λ x. cond x (theirs a) (cell_at b p)) (shut (a.region p)) ∙ free_there
            where
              shut : (x : Bool) → (x && same_cell (cell_at b p) Empty) ≡ false
              shut true = ap (λ y. same_cell y Empty) free_there
              shut false = refl
