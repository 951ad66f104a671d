-- The points of a board are connected: so each area is beside a stone, if there is one.
use Rattle.pass_alive.proofs.Common.{◌≡◌, ◌≢◌, ℕ, zero, suc, ◌+◌, ◌-◌, ◌*◌, ◌/◌, ◌%◌, ◌<◌, ◌≤◌, Bool, true, false, not, ◌&&◌, ◌⊎◌, inl, inr, IsTrue, List, [], ◌∷◌, Some, refl, sym, ◌∙◌, ap, subst, arith, div-add-mod', get_or_past, Cell, Empty, Stone, Colour, adjacent, cell_at, same_cell, points, opponent_of, reaches, IsPath, Reaches, first_without_liberty, all_reach_empty, and_both, adjacent_on_board, IsWay, Joined, joined_self, joined_back, joined_on, joined_beside, area_cell}
use Rattle.std.proofs.Common.{zero-le}
use Rattle.std.proofs.Math.Nat.{mul-le-mul_right}
use Rattle.std.proofs.lemmas.Bool.{lt-ltb}
use Rattle.go_points.specs.Liberty.{lacks_liberty}
use Rattle.go_points.proofs.Adjacency.{is_adjacent, IsBeside, above, left, adjacent_from_beside}
use Rattle.go_points.proofs.Lists.{find_none}
use Rattle.go_points.proofs.Cells.{member_points}
use Rattle.go_points.proofs.Paths.{reaches_path}
use Rattle.pass_alive.proofs.Spaces.{area_either, not_in_area, in_area}

adjacent_by : (n p q : ℕ) → p < n * n → q < n * n → IsBeside n p q → adjacent n p q ≡ true
unfolding is_adjacent
adjacent_by n p q p_on q_on beside =
    let some : 0 < n = grind (arith, p_on) in
    and_both _ _ (and_both _ _ (lt-ltb p (n * n) p_on) (lt-ltb q (n * n) q_on)) (adjacent_from_beside n p q some beside)

blank_at : (q : ℕ) → cell_at [] q ≡ Empty
blank_at q = get_or_past [] q Empty zero-le

step_on : (n p q : ℕ) → p < n * n → q < n * n → IsBeside n p q → Joined n [] p q
step_on n p q p_on q_on beside = joined_beside n [] p p q (joined_self n [] p) (adjacent_by n p q p_on q_on beside) (blank_at q ∙ sym (blank_at p))

-- from each point there is a way to the first one
to_first : (n steps p : ℕ) → p ≤ steps → p < n * n → Joined n [] p 0
to_first n zero p few on = let e : p ≡ 0 = omega (arith, few) in subst (λ z. Joined n [] z 0) (sym e) (joined_self n [] 0)
to_first n (suc steps) p few on = go (to_first n steps)
  where
    leftward : ((q : ℕ) → q ≤ steps → q < n * n → Joined n [] q 0) → 0 < p → 0 < p % n → Joined n [] p 0
    leftward rest some room =
        let q : ℕ = p - 1 in
        let next : p - 1 + 1 ≡ p = omega (arith, some) in
        let few_left : p - 1 ≤ steps = omega (arith, few) in
        let q_on : p - 1 < n * n = omega (arith, on) in
        joined_on n [] p (p - 1) 0 (step_on n p (p - 1) on q_on (left next room)) (rest (p - 1) few_left q_on)

    upward : ((q : ℕ) → q ≤ steps → q < n * n → Joined n [] q 0) → 0 < p → p % n ≡ 0 → Joined n [] p 0
    upward rest some edge =
        let sum : p / n * n + p % n ≡ p = div-add-mod' p n in
        let rows : 0 < p / n * n = omega (arith, sum, edge, some) in
        let row : 1 ≤ p / n = grind (arith, rows) in
        let fits : 1 * n ≤ p / n * n = mul-le-mul_right n row in
        let wide : 0 < n = grind (arith, rows) in
        let next : p - n + n ≡ p = omega (arith, fits, sum, edge) in
        let few_left : p - n ≤ steps = omega (arith, few, wide, some) in
        let q_on : p - n < n * n = omega (arith, on) in
        joined_on n [] p (p - n) 0 (step_on n p (p - n) on q_on (above next)) (rest (p - n) few_left q_on)

    go : ((q : ℕ) → q ≤ steps → q < n * n → Joined n [] q 0) → Joined n [] p 0
    go rest =
        let first : (p ≡ 0) ⊎ (0 < p) = grind arith in
        let edge : (p % n ≡ 0) ⊎ (0 < p % n) = grind arith in
        elim first [
          | inl e ↦ subst (λ z. Joined n [] z 0) (sym e) (joined_self n [] 0)
          | inr some ↦ elim edge [ inl at ↦ upward rest some at | inr room ↦ leftward rest some room ]
        ]

pub connected : (n p q : ℕ) → p < n * n → q < n * n → Joined n [] p q
connected n p q p_on q_on = joined_on n [] p 0 q (to_first n p p (omega arith) p_on) (joined_back n [] q 0 (to_first n q q (omega arith) q_on))

-- on the way from a point of an area to a stone of the colour, the area ends at one
module _ (n : ℕ) (k : Colour) (c a : List Cell) (cells : (q : ℕ) → q < n * n → cell_at a q ≡ area_cell k (cell_at c q)) where
  to_wall : (own : Cell) (p q : ℕ) (rs : List ℕ) → p < n * n → q < n * n → cell_at c q ≡ Stone k → cell_at c p ≢ Stone k → IsWay n [] own p q rs → (qs : List ℕ) × IsPath n a (Stone (opponent_of k)) Empty p qs
  to_wall own p q [] p_on q_on wall open_ w = absurd (open_ (ap (cell_at c) w.1 ∙ wall))
  to_wall own p q (r ∷ rs) p_on q_on wall open_ w =
      let r_on : r < n * n = (adjacent_on_board n p r w.1).1 in
      let here : cell_at a p ≡ Stone (opponent_of k) = in_area n k c a cells p p_on open_ in
      elim (area_either k (cell_at c r)) [
        | inl stone ↦ (r ∷ [], (here, w.1, not_in_area n k c a cells r r_on stone))
        | inr more ↦ let further = to_wall own r q rs r_on q_on wall more w.2 in (r ∷ further.0, (here, w.1, further.1))
      ]

  reaches_wall : (p q : ℕ) → p < n * n → q < n * n → cell_at c q ≡ Stone k → cell_at c p ≢ Stone k → Reaches n a p Empty
  reaches_wall p q p_on q_on wall open_ =
      let here : cell_at a p ≡ Stone (opponent_of k) = in_area n k c a cells p p_on open_ in
      let way : Joined n [] p q = connected n p q p_on q_on in
      let path = to_wall (cell_at [] p) p q way.0 p_on q_on wall open_ way.1 in
      (λ e. cc (e, here), (path.0, subst (λ own. IsPath n a own Empty p path.0) (sym here) path.1))

  none_lacks : (q : ℕ) → q < n * n → cell_at c q ≡ Stone k → (p : ℕ) → p < n * n → lacks_liberty n a p ≡ false
  none_lacks q q_on wall p p_on = elim (area_either k (cell_at c p)) [
    | inl stone ↦ ap (λ x. not (same_cell x Empty) && not (reaches n a p Empty)) (not_in_area n k c a cells p p_on stone)
    | inr more ↦ ends (not (same_cell (cell_at a p) Empty)) (reaches n a p Empty) ((reaches_path n a p Empty).1 (reaches_wall p q p_on q_on wall more))
  ]
    where
      ends : (x y : Bool) → y ≡ true → (x && not y) ≡ false
      ends true true e = refl
      ends false true e = refl
      ends x false e = absurd (cc e)

  pub areas_reach : (q : ℕ) → q < n * n → cell_at c q ≡ Stone k → IsTrue (all_reach_empty n a)
  unfolding first_without_liberty
  areas_reach q q_on wall = find_none (lacks_liberty n a) (points n) (λ p m. none_lacks q q_on wall p (member_points n p m))

  -- so a board of areas that is refused has no stone of the colour around
  pub no_stone : (p : ℕ) → first_without_liberty n a ≡ Some p → (q : ℕ) → q < n * n → cell_at c q ≢ Stone k
  no_stone p found q q_on wall = cc (areas_reach q q_on wall, found)
