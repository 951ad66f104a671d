-- The board of the areas is filled point by point.
use Rattle.pass_alive.proofs.Common.{◌≡◌, ◌≢◌, ℕ, ◌+◌, ◌*◌, ◌<◌, ◌≤◌, true, false, cond, ◌⊎◌, inl, inr, List, length, set, sym, ◌∙◌, ap, arith, get_or-set_same, get_or-set_other, length-set, Colour, Cell, Empty, Stone, opponent_of, same_cell, cell_at, side_of, area_cell}
use Rattle.std.proofs.Common.{replicate}
use Rattle.std.proofs.lemmas.List.{length-replicate}
use Rattle.go_chains.proofs.Boards.{all_empty}
use Rattle.pass_alive.specs.Areas.{AreAreas}

module _ (k : Colour) (c : List Cell) where
  pub record FilledSoFar (f : List Cell) (i : ℕ) : Type 0 where
    pub size : side_of f ≡ side_of c
    pub full : length f ≡ side_of c * side_of c
    pub done : (q : ℕ) → q < i → cell_at f q ≡ area_cell k (cell_at c q)
    pub rest : (q : ℕ) → i ≤ q → cell_at f q ≡ Empty

  pub filled_first : (f : List Cell) → side_of f ≡ side_of c → f ≡ replicate (side_of c * side_of c) Empty → FilledSoFar f 0
  filled_first f size is = record {
    size = size;
    full = ap length is ∙ length-replicate (side_of c * side_of c) Empty;
    done = λ q low. absurd (omega (arith, low));
    rest = λ q past. ap (λ g. cell_at g q) is ∙ all_empty (side_of c * side_of c) q;
  }

  pub filled_own : (f : List Cell) (i : ℕ) → same_cell (cell_at c i) (Stone k) ≡ true → FilledSoFar f i → FilledSoFar f (i + 1)
  filled_own f i own h = record {
    size = h.size;
    full = h.full;
    done = λ q low.
        let split : (q < i) ⊎ (q ≡ i) = grind (arith, low) in
        elim split [
          | inl less ↦ h.done q less
          | inr here ↦
              let at : cell_at f q ≡ Empty = h.rest q (omega (arith, here)) in
              let test : same_cell (cell_at c q) (Stone k) ≡ true = ap (λ z. same_cell (cell_at c z) (Stone k)) here ∙ own in
              at ∙ sym (ap (λ b. cond b Empty (Stone (opponent_of k))) test)
        ];
    rest = λ q past. h.rest q (omega (arith, past));
  }

  pub filled_other : (f : List Cell) (i : ℕ) → i < side_of c * side_of c → same_cell (cell_at c i) (Stone k) ≡ false → side_of (set f i (Stone (opponent_of k))) ≡ side_of f → FilledSoFar f i → FilledSoFar (set f i (Stone (opponent_of k))) (i + 1)
  filled_other f i on other size h = record {
    size = size ∙ h.size;
    full = length-set f i (Stone (opponent_of k)) ∙ h.full;
    done = λ q low.
        let split : (q < i) ⊎ (q ≡ i) = grind (arith, low) in
        elim split [
          | inl less ↦ (let ne : q ≢ i = omega (arith, less) in get_or-set_other f i q (Stone (opponent_of k)) Empty ne ∙ h.done q less)
          | inr here ↦
              let test : same_cell (cell_at c q) (Stone k) ≡ false = ap (λ z. same_cell (cell_at c z) (Stone k)) here ∙ other in
              ap (cell_at (set f i (Stone (opponent_of k)))) here ∙ get_or-set_same f i (Stone (opponent_of k)) Empty (omega (arith, on, h.full)) ∙ sym (ap (λ b. cond b Empty (Stone (opponent_of k))) test)
        ];
    rest = λ q past. (let ne : q ≢ i = omega (arith, past) in get_or-set_other f i q (Stone (opponent_of k)) Empty ne ∙ h.rest q (omega (arith, past)));
  }

  pub filled_all : (f : List Cell) (i : ℕ) → side_of c * side_of c ≤ i → FilledSoFar f i → AreAreas k c f
  filled_all f i all h = record { size = h.size; cells = λ q on. h.done q (omega (arith, on, all)) }
