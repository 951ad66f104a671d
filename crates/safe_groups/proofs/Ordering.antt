-- Areas that are in order, place by place.
use Rattle.safe_groups.proofs.Common.{◌≡◌, ◌*◌, ◌<◌, ◌⊎◌, ℕ, List, IsTrue, length, inl, inr, arith, same_cell_eq, Stone, Cell, Colour, get_or, AreInOrder, IsSized, area_of, Ground, All, cell_at, same_cell, areas_of, ground_at, IsApart, IsInOrder, IsInOrderAt}
use Rattle.safe_groups.specs.Ground.{IsOfSize}
use Rattle.safe_groups.proofs.Fitting.{stone_on}

pub sized_at : (gs : List Ground) (n : ℕ) → All (IsSized n) gs → (i : ℕ) → i < length gs → IsSized n (ground_at gs i)
sized_at gs n all i low = all i _ low

marked_on : (n : ℕ) (k : Colour) (c : List Cell) (p : ℕ) → IsOfSize n c → IsTrue (same_cell (cell_at c p) (Stone k)) → p < n * n
marked_on n k c p is e = stone_on n c k p is.full (same_cell_eq (cell_at c p) (Stone k) e)

pub in_order_by : (gs : List Ground) (n : ℕ) → All (IsSized n) gs → ((i : ℕ) → i < length gs → IsInOrder gs n i) → ((i j : ℕ) → i < length gs → j < i → IsApart (ground_at gs i) (ground_at gs j)) → AreInOrder (areas_of gs)
in_order_by gs n all order apart = record {
  earlier = λ i p low e. (order i low p (marked_on n (ground_at gs i).keeper (ground_at gs i).earlier p (sized_at gs n all i low).earlier e)).earlier e;
  held = λ i p low e. (order i low p (marked_on n (ground_at gs i).keeper (ground_at gs i).held p (sized_at gs n all i low).held e)).held e;
  given = λ i p low e. (order i low p (marked_on n (ground_at gs i).keeper (ground_at gs i).gives p (sized_at gs n all i low).gives e)).given e;
  apart = λ i j p low_i low_j one other. (
      let three : (i < j) ⊎ ((i ≡ j) ⊎ (j < i)) = grind arith in
      elim three [
        | inl less ↦ absurd (apart j i low_j less p other one)
        | inr more ↦ elim more [
          | inl same ↦ same
          | inr greater ↦ absurd (apart i j low_i greater p one other)
        ]
      ]);
}
