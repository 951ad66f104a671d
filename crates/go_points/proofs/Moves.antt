-- A move, from its three steps.
use Rattle.go_points.proofs.Common.{◌≡◌, ℕ, ◌+◌, ◌*◌, List, None, length, set, ◌∙◌, ap, arith, Colour, Cell, Stone, opponent_of, side_of, clear, first_without_liberty, after_move, taken_by_move, stone_count}
use Rattle.go_points.proofs.Clearing.{moves_leave_liberties}
use Rattle.go_points.proofs.Liberties.{none_is}
use Rattle.go_points.proofs.Taken.{taken_count}

-- a colouring with one colour cleared
cleared : Colour → List Cell → List Cell
cleared k c = clear (side_of c) c k

module _ (before put first last : List Cell) (k j : Colour) (p : ℕ)
    (is_put : put ≡ set before p (Stone k)) (put_side : side_of put ≡ side_of before) (is_other : j ≡ opponent_of k)
    (is_first : first ≡ clear (side_of put) put j) (first_side : side_of first ≡ side_of put) (is_last : last ≡ clear (side_of first) first k) where
  pub move_made : last ≡ after_move (side_of before) before k p
  unfolding after_move
  move_made =
      let n = side_of before in
      is_last
      ∙ ap (λ m. clear m first k) (first_side ∙ put_side)
      ∙ ap (λ c. clear n c k) (is_first ∙ ap (λ m. clear m put j) put_side ∙ ap (λ i. clear n put i) is_other ∙ ap (λ c. clear n c (opponent_of k)) is_put)

  pub move_leaves : side_of last ≡ side_of first → first_without_liberty (side_of last) last ≡ None
  move_leaves last_side =
      let n = side_of before in
      ap (λ m. first_without_liberty m last) (last_side ∙ first_side ∙ put_side)
      ∙ ap (first_without_liberty n) move_made
      ∙ none_is _ (moves_leave_liberties n before k p)

  pub move_takes : (captured lost : ℕ) → length before ≡ side_of before * side_of before → captured + stone_count first ≡ stone_count put → lost + stone_count last ≡ stone_count first → captured + lost ≡ taken_by_move (side_of before) before k p
  move_takes captured lost whole firstly lastly =
      omega (arith, firstly, lastly, ap stone_count is_put, ap stone_count move_made, taken_count (side_of before) before k p whole)
