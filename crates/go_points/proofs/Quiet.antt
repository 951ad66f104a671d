-- Clearing changes nothing where no stone of the colour is without liberty; so a move changes no other point exactly where every stone reaches empty once its own is put down.
use Rattle.go_points.proofs.Common.{◌≡◌, ℕ, ◌*◌, ◌<◌, ◌↔◌, Bool, true, false, cond, not, ◌&&◌, IsTrue, List, length, set, refl, sym, ◌∙◌, ap, subst, arith, ext_get_or, Colour, Cell, Empty, Stone, opponent_of, same_cell, cell_at, reaches, Reaches, clear, all_reach_empty, after_move}
use Rattle.std.proofs.lemmas.List.{length-set}
use Rattle.go_points.proofs.Cells.{same_cell_eq}
use Rattle.go_points.proofs.Clearing.{length-clear, cell_at-clear, EveryStoneReaches, after_move_reaches, every_all, all_every}
use Rattle.go_points.proofs.Paths.{reaches_path}

-- a point whose stone of the colour reaches empty, or that holds something else, is as before
pub clear_spares : (n : ℕ) (c : List Cell) (k : Colour) (p : ℕ) → p < n * n → (cell_at c p ≡ Stone k → Reaches n c p Empty) → cell_at (clear n c k) p ≡ cell_at c p
clear_spares n c k p on free = cell_at-clear n c k p on ∙ ap (λ b. cond b Empty (cell_at c p)) (go (same_cell (cell_at c p) (Stone k)) refl)
  where
    go : (b : Bool) → same_cell (cell_at c p) (Stone k) ≡ b → (b && not (reaches n c p Empty)) ≡ false
    go true e = ap not ((reaches_path n c p Empty).1 (free (same_cell_eq (cell_at c p) (Stone k) e)))
    go false e = refl

pub clear_none : (n : ℕ) (c : List Cell) (k : Colour) → length c ≡ n * n → ((p : ℕ) → p < n * n → cell_at c p ≡ Stone k → Reaches n c p Empty) → clear n c k ≡ c
clear_none n c k whole free = ext_get_or Empty _ _ (length-clear n c k ∙ sym whole) (λ p h. clear_spares n c k p (omega (arith, length-clear n c k)) (free p (omega (arith, length-clear n c k))))

pub quiet_reaches : (n : ℕ) (c : List Cell) (k : Colour) (p : ℕ) → length c ≡ n * n → (after_move n c k p ≡ set c p (Stone k)) ↔ EveryStoneReaches n (set c p (Stone k))
unfolding after_move
quiet_reaches n c k p whole = (
  λ same. subst (EveryStoneReaches n) same (after_move_reaches n c k p),
  λ every.
      let full : length (set c p (Stone k)) ≡ n * n = length-set c p (Stone k) ∙ whole in
      let none : (j : Colour) → clear n (set c p (Stone k)) j ≡ set c p (Stone k) = λ j. clear_none n (set c p (Stone k)) j full (λ q on. every q j) in
      ap (λ d. clear n d k) (none (opponent_of k)) ∙ none k,
)

-- the same as a test of the colouring with the stone
pub quiet_none : (n : ℕ) (c : List Cell) (k : Colour) (p : ℕ) → length c ≡ n * n → IsTrue (all_reach_empty n (set c p (Stone k))) ↔ (after_move n c k p ≡ set c p (Stone k))
quiet_none n c k p whole = (
  λ h. (quiet_reaches n c k p whole).1 (all_every n (set c p (Stone k)) (length-set c p (Stone k) ∙ whole) h),
  λ e. every_all n (set c p (Stone k)) ((quiet_reaches n c k p whole).0 e),
)
