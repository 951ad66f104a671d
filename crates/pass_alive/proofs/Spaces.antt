-- Eyes are areas: what holds of the areas on their board, said of the stones.
use Rattle.pass_alive.proofs.Common.{◌≡◌, ◌≢◌, ℕ, ◌+◌, ◌*◌, ◌/◌, ◌%◌, ◌<◌, Bool, true, false, cond, ◌⊎◌, inl, inr, IsTrue, List, [], ◌∷◌, refl, sym, ◌∙◌, ap, subst, arith, div-add-mod', mul-add-lt, Colour, Black, White, Cell, Empty, Stone, opponent_of, same_cell, adjacent, cell_at, Place, IsOn, place_of, same_cell_eq, eq_same_cell, adjacent_on_board, adjacent_back, IsWay, Joined, IsChainOf, IsLibertyOf, joined_holds, joined_self, joined_back, joined_on, joined_beside, area_cell, Points, IsBeside, EyeOf, TwoEyes, these, IsNear, IsEyeArea, TwoEyeAreas, TwoEyeSets, MayLive}

-- what the board of the areas holds
area_own : (k : Colour) → area_cell k (Stone k) ≡ Empty
area_own Black = refl
area_own White = refl

area_other : (k : Colour) (x : Cell) → x ≢ Stone k → area_cell k x ≡ Stone (opponent_of k)
area_other k x ne = go (same_cell x (Stone k)) refl
  where
    go : (b : Bool) → same_cell x (Stone k) ≡ b → cond b Empty (Stone (opponent_of k)) ≡ Stone (opponent_of k)
    go true e = absurd (ne (same_cell_eq x (Stone k) e))
    go false e = refl

pub area_either : (k : Colour) (x : Cell) → (x ≡ Stone k) ⊎ (x ≢ Stone k)
area_either k x = go (same_cell x (Stone k)) refl
  where
    go : (b : Bool) → same_cell x (Stone k) ≡ b → (x ≡ Stone k) ⊎ (x ≢ Stone k)
    go true e = inl (same_cell_eq x (Stone k) e)
    go false e = inr (λ same. cc (e, eq_same_cell x (Stone k) same))

-- a place on the board is that of a point of it
pub place_on : (n q : ℕ) → IsOn n (place_of n q) → q < n * n
place_on n q on =
    let below : q / n * n + q % n < n * n = mul-add-lt (q / n) n (q % n) n on.row_within on.column_within in
    omega (arith, below, div-add-mod' q n)

pub chain_member : (n : ℕ) (a : List Cell) (p q : ℕ) (s : List Place) → IsChainOf n a p s → IsTrue (these n s q) → (q < n * n) × Joined n a p q
chain_member n a p q s is held =
    let on : q < n * n = place_on n q (is.on_board (place_of n q) held) in
    (on, (is.joined q on).0 held)

module _ (n : ℕ) (k : Colour) (c a : List Cell) (cells : (q : ℕ) → q < n * n → cell_at a q ≡ area_cell k (cell_at c q)) where
  pub not_in_area : (q : ℕ) → q < n * n → cell_at c q ≡ Stone k → cell_at a q ≡ Empty
  not_in_area q on e = cells q on ∙ ap (area_cell k) e ∙ area_own k

  pub in_area : (q : ℕ) → q < n * n → cell_at c q ≢ Stone k → cell_at a q ≡ Stone (opponent_of k)
  in_area q on ne = cells q on ∙ area_other k (cell_at c q) ne

  -- an area that is found to be an eye is one
  module _ (stones : Points) (x p : ℕ) (on : p < n * n) (free : cell_at c p ≡ Empty) (s : List Place) (is : IsChainOf n a p s) (eye : IsEyeArea n a stones (IsBeside n c x) p) where
    start_in : cell_at a p ≡ Stone (opponent_of k)
    start_in = in_area p on (λ e. cc (free, e))

    not_own : (q : ℕ) → IsTrue (these n s q) → cell_at c q ≢ Stone k
    not_own q held e =
        let m = chain_member n a p q s is held in
        let same : cell_at a q ≡ cell_at a p = joined_holds n a p q m.1 in
        cc (same, start_in, not_in_area q m.0 e)

    enclosed : (q r : ℕ) → IsTrue (these n s q) → IsTrue (adjacent n q r) → IsTrue (these n s r) ⊎ IsTrue (stones r)
    enclosed q r held adj =
        let m = chain_member n a p q s is held in
        let r_on : r < n * n = (adjacent_on_board n q r adj).1 in
        elim (area_either k (cell_at c r)) [
          | inl wall ↦ inr (eye.walls r r_on (not_in_area r r_on wall, (q, adjacent_back n q r adj, m.1)))
          | inr more ↦ inl ((is.joined r r_on).1 (joined_beside n a p q r m.1 adj (in_area r r_on more ∙ sym (joined_holds n a p q m.1 ∙ start_in))))
        ]

    pub eye_of_area : EyeOf n k c stones x (these n s)
    eye_of_area = record {
      space = record {
        not_own = not_own;
        some_empty = (p, (is.joined p on).1 (joined_self n a p), free);
        enclosed = enclosed;
      };
      beside = λ q held. let m = chain_member n a p q s is held in eye.beside q m.0 m.1;
    }

  pub two_eyes : (stones : Points) (x : ℕ) → TwoEyeSets n c a stones (IsBeside n c x) → TwoEyes n k c stones x
  two_eyes stones x two = record {
    first = these n two.first_set;
    second = these n two.second_set;
    is_first = eye_of_area stones x two.areas.first two.areas.first_on two.areas.first_empty two.first_set two.is_first two.areas.first_eye;
    is_second = eye_of_area stones x two.areas.second two.areas.second_on two.areas.second_empty two.second_set two.is_second two.areas.second_eye;
    apart = λ q held. not_both q held (these n two.second_set q) refl;
  }
    where
      not_both : (q : ℕ) → IsTrue (these n two.first_set q) → (b : Bool) → these n two.second_set q ≡ b → b ≡ false
      not_both q held true e =
          let one = chain_member n a two.areas.first q two.first_set two.is_first held in
          let other = chain_member n a two.areas.second q two.second_set two.is_second e in
          absurd (two.areas.apart (joined_on n a two.areas.first q two.areas.second one.1 (joined_back n a two.areas.second q other.1)))
      not_both q held false e = refl

  -- the area of an empty point of an eye is part of it, and an eye too
  module _ (stones : Points) (own : (q : ℕ) → IsTrue (stones q) → cell_at c q ≡ Stone k) (x : ℕ) (test : Points) (eye : EyeOf n k c stones x test) where
    on_board : (q : ℕ) → IsTrue (test q) → q < n * n
    on_board q held = let near = eye.beside q held in (adjacent_on_board n q near.0 near.1).0

    stays : (colour : Cell) (p q : ℕ) (rs : List ℕ) → colour ≢ Empty → IsTrue (test p) → IsWay n a colour p q rs → IsTrue (test q)
    stays colour p q [] ne held w = subst (λ z. IsTrue (test z)) w.1 held
    stays colour p q (r ∷ rs) ne held w = elim (eye.space.enclosed p r held w.1) [
      | inl inside ↦ stays colour r q rs ne inside w.2
      | inr wall ↦ absurd (ne (sym (starts r rs w.2) ∙ not_in_area r (adjacent_on_board n p r w.1).1 (own r wall)))
    ]
      where
        starts : (y : ℕ) (ys : List ℕ) → IsWay n a colour y q ys → cell_at a y ≡ colour
        starts y [] v = v.0
        starts y (z ∷ zs) v = v.0

    pub area_within : (p q : ℕ) → IsTrue (test p) → Joined n a p q → IsTrue (test q)
    area_within p q held j =
        let inside : cell_at a p ≡ Stone (opponent_of k) = in_area p (on_board p held) (eye.space.not_own p held) in
        stays (cell_at a p) p q j.0 (λ e. cc (e, inside)) held j.1

    pub area_is_eye : (p : ℕ) → IsTrue (test p) → IsEyeArea n a stones (IsBeside n c x) p
    area_is_eye p held = record {
      walls = λ r on lib. around r lib (eye.space.enclosed lib.1.0 r (area_within p lib.1.0 held lib.1.2) (adjacent_back n r lib.1.0 lib.1.1));
      beside = λ q on j. eye.beside q (area_within p q held j);
    }
      where
        around : (r : ℕ) → IsLibertyOf n a p r → IsTrue (test r) ⊎ IsTrue (stones r) → IsTrue (stones r)
        around r lib (inl inside) =
            let full : cell_at a r ≡ Stone (opponent_of k) = in_area r (on_board r inside) (eye.space.not_own r inside) in
            absurd (cc (lib.0, full))
        around r lib (inr wall) = wall

  pub two_areas : (stones : Points) → ((q : ℕ) → IsTrue (stones q) → cell_at c q ≡ Stone k) → (x : ℕ) → TwoEyes n k c stones x → TwoEyeAreas n c a stones (IsBeside n c x)
  two_areas stones own x two =
      let one = two.is_first.space.some_empty in
      let other = two.is_second.space.some_empty in
      record {
        first = one.0;
        second = other.0;
        first_on = on_board stones own x two.first two.is_first one.0 one.1;
        second_on = on_board stones own x two.second two.is_second other.0 other.1;
        first_empty = one.2;
        second_empty = other.2;
        first_eye = area_is_eye stones own x two.first two.is_first one.0 one.1;
        second_eye = area_is_eye stones own x two.second two.is_second other.0 other.1;
        apart = λ j. cc (two.apart other.0 (area_within stones own x two.first two.is_first one.0 other.0 one.1 j), other.1);
      }

-- more stones enclose as much
pub more_walls : (n : ℕ) (a : List Cell) (stones more : Points) (near : ℕ → Type 0) (p : ℕ) → ((q : ℕ) → IsTrue (stones q) → IsTrue (more q)) → IsEyeArea n a stones near p → IsEyeArea n a more near p
more_walls n a stones more near p into eye = record { walls = λ r on lib. into r (eye.walls r on lib); beside = eye.beside }

pub may_live_more : (n : ℕ) (region : List ℕ) (c a : List Cell) (stones more : Points) (x : ℕ) → ((q : ℕ) → IsTrue (stones q) → IsTrue (more q)) → MayLive n region c a stones x → MayLive n region c a more x
may_live_more n region c a stones more x into (inl lasting) = inl lasting
may_live_more n region c a stones more x into (inr two) = inr (record {
  first = two.first;
  second = two.second;
  first_on = two.first_on;
  second_on = two.second_on;
  first_empty = two.first_empty;
  second_empty = two.second_empty;
  first_eye = more_walls n a stones more (IsBeside n c x) two.first into two.first_eye;
  second_eye = more_walls n a stones more (IsBeside n c x) two.second into two.second_eye;
  apart = two.apart;
})

-- near the set of a chain's stones is beside the chain
module _ (n : ℕ) (c : List Cell) (x : ℕ) (chain : List Place) (is : IsChainOf n c x chain) where
  pub near_beside : (q : ℕ) → IsNear n (these n chain) q → IsBeside n c x q
  near_beside q near = (near.0, near.1, (chain_member n c x near.0 chain is near.2).1)

  pub beside_near : (q : ℕ) → IsBeside n c x q → IsNear n (these n chain) q
  beside_near q beside = (beside.0, beside.1, (is.joined beside.0 (adjacent_on_board n q beside.0 beside.1).1).1 beside.2)

near_eye : (n : ℕ) (a : List Cell) (stones : Points) (near other : ℕ → Type 0) (p : ℕ) → ((q : ℕ) → near q → other q) → IsEyeArea n a stones near p → IsEyeArea n a stones other p
near_eye n a stones near other p into eye = record { walls = eye.walls; beside = λ q on j. into q (eye.beside q on j) }

pub near_areas : (n : ℕ) (c a : List Cell) (stones : Points) (near other : ℕ → Type 0) → ((q : ℕ) → near q → other q) → TwoEyeAreas n c a stones near → TwoEyeAreas n c a stones other
near_areas n c a stones near other into two = record {
  first = two.first;
  second = two.second;
  first_on = two.first_on;
  second_on = two.second_on;
  first_empty = two.first_empty;
  second_empty = two.second_empty;
  first_eye = near_eye n a stones near other two.first into two.first_eye;
  second_eye = near_eye n a stones near other two.second into two.second_eye;
  apart = two.apart;
}

pub near_sets : (n : ℕ) (c a : List Cell) (stones : Points) (near other : ℕ → Type 0) → ((q : ℕ) → near q → other q) → TwoEyeSets n c a stones near → TwoEyeSets n c a stones other
unfolding near_areas
near_sets n c a stones near other into two = record {
  areas = near_areas n c a stones near other into two.areas;
  first_set = two.first_set;
  second_set = two.second_set;
  is_first = two.is_first;
  is_second = two.is_second;
}

pub safe_by_sets : (n : ℕ) (c a : List Cell) (stones : Points) (x : ℕ) (chain : List Place) → IsChainOf n c x chain → TwoEyeSets n c a stones (IsNear n (these n chain)) → TwoEyeSets n c a stones (IsBeside n c x)
safe_by_sets n c a stones x chain is two = near_sets n c a stones (IsNear n (these n chain)) (IsBeside n c x) (near_beside n c x chain is) two

pub areas_by_chain : (n : ℕ) (c a : List Cell) (stones : Points) (x : ℕ) (chain : List Place) → IsChainOf n c x chain → TwoEyeAreas n c a stones (IsBeside n c x) → TwoEyeAreas n c a stones (IsNear n (these n chain))
areas_by_chain n c a stones x chain is two = near_areas n c a stones (IsBeside n c x) (IsNear n (these n chain)) (beside_near n c x chain is) two
