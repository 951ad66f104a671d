-- An area is found from one point: what has been met so far, and what that says at the end.
use Rattle.pass_alive.proofs.Common.{◌≡◌, ◌≢◌, ℕ, zero, suc, ◌+◌, ◌-◌, ◌*◌, ◌<◌, ◌≤◌, Bool, true, false, cond, ◌||◌, ◌⊎◌, inl, inr, IsTrue, List, [], ◌∷◌, Some, None, length, refl, sym, ◌∙◌, ap, subst, arith, Colour, Cell, Empty, Stone, opponent_of, adjacent, cell_at, side_of, Place, IsOn, number_of, place_of, same_place, holds_place, with_place, without_place, same_place_decides, sets_gain, sets_lose, and_right, or_cases, or_left, or_right, adjacent_on_board, adjacent_back, IsWay, Joined, IsChainOf, IsLibertyOf, joined_holds, joined_self, joined_back, joined_on, joined_beside, area_cell, Points, these, IsNear, IsWith, areas_in, IsEyeArea, HasMet, IsPoint, IsBesidePoint, IsMetOrWall, AreNoEyes}
use Rattle.std.proofs.Common.{nat_le, leb-true}
use Rattle.std.proofs.lemmas.List.{get_or-map}
use Rattle.go_points.specs.Grid.{side_up_to}
use Rattle.go_points.specs.Points.{is_before, first_place}
use Rattle.pass_alive.specs.Private.Areas.{IsGap}
use Rattle.pass_alive.proofs.Regions.{number_back}
use Rattle.pass_alive.proofs.Spaces.{not_in_area, in_area}
use Rattle.pass_alive.proofs.Taking.{without_less}
use Rattle.go_turns.proofs.Openings.{place_back}
use Rattle.go_points.proofs.Sides.{number_below}

-- a board of the areas holds at each point what the definition says
side_low : (l r : ℕ) → side_up_to l r * side_up_to l r ≤ l
side_low l zero = omega arith
side_low l (suc r) = go (nat_le (suc r * suc r) l) refl (side_low l r)
  where
    go : (b : Bool) → nat_le (suc r * suc r) l ≡ b → side_up_to l r * side_up_to l r ≤ l → cond b (suc r) (side_up_to l r) * cond b (suc r) (side_up_to l r) ≤ l
    go true e rest = leb-true (suc r * suc r) l e
    go false e rest = rest

pub in_areas : (k : Colour) (c : List Cell) (q : ℕ) → q < side_of c * side_of c → cell_at (areas_in k c) q ≡ area_cell k (cell_at c q)
unfolding side_of
in_areas k c q on =
    let low : side_of c * side_of c ≤ length c = side_low (length c) (length c) in
    get_or-map (area_cell k) c q Empty Empty (omega (arith, on, low))

-- the first of a set, and a set with one more
pub first_held : (s : List Place) (x : Place) → first_place s ≡ Some x → IsTrue (holds_place s x)
first_held [] x e = absurd (cc e)
first_held (y ∷ ys) x e = or_left (same_place x y) (holds_place ys x) ((same_place_decides x y).1 (cc e))

pub first_none : (s : List Place) → first_place s ≡ None → s ≡ []
first_none [] e = refl
first_none (y ∷ ys) e = absurd (cc e)

pub with_held : (s : List Place) (x : Place) → IsTrue (holds_place (with_place s x) x)
with_held s x = sets_gain s x x ∙ or_left (same_place x x) (holds_place s x) ((same_place_decides x x).1 refl)

pub with_most : (s : List Place) (x : Place) → length (with_place s x) ≤ suc (length s)
with_most [] x = omega arith
with_most (y ∷ ys) x = go (same_place x y) (is_before x y) (with_most ys x)
  where
    go : (a b : Bool) → length (with_place ys x) ≤ suc (length ys) → length (cond a (y ∷ ys) (cond b (x ∷ y ∷ ys) (y ∷ with_place ys x))) ≤ suc (length (y ∷ ys))
    go true b rest = grind (arith, rest)
    go false true rest = grind (arith, rest)
    go false false rest = grind (arith, rest)

with_least : (s : List Place) (x : Place) → holds_place s x ≡ false → suc (length s) ≤ length (with_place s x)
with_least [] x out = omega arith
with_least (y ∷ ys) x out = go (same_place x y) (is_before x y) out (with_least ys x)
  where
    go : (a b : Bool) → (a || holds_place ys x) ≡ false → (holds_place ys x ≡ false → suc (length ys) ≤ length (with_place ys x)) → suc (length (y ∷ ys)) ≤ length (cond a (y ∷ ys) (cond b (x ∷ y ∷ ys) (y ∷ with_place ys x)))
    go true b o rest = absurd (cc o)
    go false true o rest = grind (arith, rest o)
    go false false o rest = grind (arith, rest o)

-- nothing is met; one point is met; and one after the other
pub met_none : (is_new : Place → Type 0) (area left : List Place) → HasMet is_new area left area left
met_none is_new area left = record {
  kept = λ x held. held;
  left_kept = λ x held. held;
  added = λ x held. inl held;
  among = λ x held. inl held;
  more = omega arith;
  as_many = omega arith;
}

pub met_one : (is_new : Place → Type 0) (area left : List Place) (p : Place) → holds_place area p ≡ false → is_new p → HasMet is_new area left (with_place area p) (with_place left p)
met_one is_new area left p out new = record {
  kept = λ x held. gains area x held;
  left_kept = λ x held. gains left x held;
  added = λ x held. elim (or_cases (same_place x p) (holds_place area x) (sym (sets_gain area p x) ∙ held)) [
    | inl same ↦ inr (in_left x same, subst is_new (sym ((same_place_decides x p).0 same)) new)
    | inr had ↦ inl had
  ];
  among = λ x held. elim (or_cases (same_place x p) (holds_place left x) (sym (sets_gain left p x) ∙ held)) [
    | inl same ↦ inr (sets_gain area p x ∙ or_left (same_place x p) (holds_place area x) same)
    | inr had ↦ inl had
  ];
  more = omega (arith, with_least area p out);
  as_many = omega (arith, with_least area p out, with_most left p);
}
  where
    gains : (s : List Place) (x : Place) → IsTrue (holds_place s x) → IsTrue (holds_place (with_place s p) x)
    gains s x held = sets_gain s p x ∙ or_right (same_place x p) (holds_place s x) held

    in_left : (x : Place) → same_place x p ≡ true → IsTrue (holds_place (with_place left p) x)
    in_left x same = sets_gain left p x ∙ or_left (same_place x p) (holds_place left x) same

pub met_then : (one is_new : Place → Type 0) (area left mid mid_left more more_left : List Place) → ((x : Place) → one x → is_new x) → HasMet is_new area left mid mid_left → HasMet one mid mid_left more more_left → HasMet is_new area left more more_left
met_then one is_new area left mid mid_left more more_left into h then = record {
  kept = λ x held. then.kept x (h.kept x held);
  left_kept = λ x held. then.left_kept x (h.left_kept x held);
  added = λ x held. elim (then.added x held) [
    | inl had ↦ elim (h.added x had) [ inl old ↦ inl old | inr new ↦ inr (then.left_kept x new.0, new.1) ]
    | inr new ↦ inr (new.0, into x new.1)
  ];
  among = λ x held. elim (then.among x held) [
    | inl had ↦ elim (h.among x had) [ inl old ↦ inl old | inr new ↦ inr (then.kept x new) ]
    | inr new ↦ inr new
  ];
  more = omega (arith, h.more, then.more);
  as_many = omega (arith, h.as_many, then.as_many);
}

-- a point that is met beside another
pub beside_point : (n : ℕ) (k : Colour) (c : List Cell) (p : ℕ) (x : Place) → IsOn n x → adjacent n p (number_of n x) ≡ true → (y : Place) → IsPoint n k c x y → IsBesidePoint n k c p y
beside_point n k c p x on adj y here = (subst (IsOn n) (sym here.0) on, subst (λ (z : Place). IsTrue (adjacent n p (number_of n z))) (sym here.0) adj, here.1)

-- more is met
pub met_more : (n : ℕ) (k : Colour) (c : List Cell) (stones : Points) (area more : List Place) → ((x : Place) → IsTrue (holds_place area x) → IsTrue (holds_place more x)) → (r : ℕ) → IsMetOrWall n k c stones area r → IsMetOrWall n k c stones more r
met_more n k c stones area more kept r (inl met) = inl (kept (place_of n r) met)
met_more n k c stones area more kept r (inr wall) = inr wall

-- the area of the start, so far
pub record Spreading (n : ℕ) (k : Colour) (c a : List Cell) (stones chain : Points) (start : ℕ) (area left : List Place) : Type 0 where
  pub on_board : (x : Place) → IsTrue (holds_place area x) → IsOn n x
  pub begun : IsTrue (these n area start)
  pub among : (x : Place) → IsTrue (holds_place left x) → IsTrue (holds_place area x)
  pub joined : (q : ℕ) → IsTrue (these n area q) → Joined n a start q
  pub looked : (q : ℕ) → IsTrue (these n area q) → IsTrue (these n left q)
      ⊎ (IsNear n chain q × ((r : ℕ) → IsTrue (adjacent n q r) → IsMetOrWall n k c stones area r))

-- an eye is one at each of its points
pub eye_joined : (n : ℕ) (a : List Cell) (stones chain : Points) (p q : ℕ) → Joined n a p q → IsEyeArea n a stones (IsNear n chain) p → IsEyeArea n a stones (IsNear n chain) q
eye_joined n a stones chain p q j eye = record {
  walls = λ r on lib. eye.walls r on (lib.0, (lib.1.0, lib.1.1, joined_on n a p q lib.1.0 j lib.1.2));
  beside = λ r on further. eye.beside r on (joined_on n a p q r j further);
}

module _ (n : ℕ) (k : Colour) (c a : List Cell) (cells : (q : ℕ) → q < n * n → cell_at a q ≡ area_cell k (cell_at c q)) (stones chain : Points) where
  -- a stone outside beside the area, or a point that is not near
  pub gap_fails : (p r : ℕ) → IsTrue (adjacent n p r) → IsGap k c stones r → IsEyeArea n a stones (IsNear n chain) p → ⊥
  gap_fails p r adj gap eye =
      let on : r < n * n = (adjacent_on_board n p r adj).1 in
      cc (eye.walls r on (not_in_area n k c a cells r on gap.0, (p, adjacent_back n p r adj, joined_self n a p)), gap.1)

  module _ (point : Place) (on : IsOn n point) (inside : cell_at c (number_of n point) ≢ Stone k) where
    abbrev start : ℕ
    start = number_of n point

    start_in : cell_at a start ≡ Stone (opponent_of k)
    start_in = in_area n k c a cells start (number_below n point on) inside

    pub spread_first : (area : List Place) → area ≡ with_place [] point → Spreading n k c a stones chain (number_of n point) area area
    spread_first area is = record {
      on_board = λ x held. subst (IsOn n) (sym (only x held)) on;
      begun = ap (λ s. holds_place s (place_of n start)) is ∙ or_left (same_place (place_of n start) point) false ((same_place_decides (place_of n start) point).1 (place_back n point on));
      among = λ x held. held;
      joined = λ q held.
          let same : number_of n point ≡ q = sym (ap (number_of n) (only (place_of n q) held)) ∙ number_back n q in
          subst (Joined n a start) same (joined_self n a start);
      looked = λ q held. inl held;
    }
      where
        only : (x : Place) → IsTrue (holds_place area x) → x ≡ point
        only x held = elim (or_cases (same_place x point) false (sym (ap (λ s. holds_place s x) is) ∙ held)) [
          | inl same ↦ (same_place_decides x point).0 same
          | inr none ↦ absurd (cc none)
        ]

    module _ (area left : List Place) (h : Spreading n k c a stones chain (number_of n point) area left) where
      pub left_on : (x : Place) → IsTrue (holds_place left x) → IsOn n x
      left_on x held = h.on_board x (h.among x held)

      at : (x : Place) → IsTrue (holds_place area x) → IsTrue (these n area (number_of n x))
      at x held = ap (holds_place area) (place_back n x (h.on_board x held)) ∙ held

      pub left_inside : (x : Place) → IsTrue (holds_place left x) → cell_at c (number_of n x) ≢ Stone k
      left_inside x held own =
          let there = h.among x held in
          let j = h.joined (number_of n x) (at x there) in
          cc (joined_holds n a start (number_of n x) j, start_in, not_in_area n k c a cells (number_of n x) (number_below n x (h.on_board x there)) own)

      -- one point is looked at
      module _ (x : Place) (held : IsTrue (holds_place left x)) (more more_left : List Place) (met : HasMet (IsBesidePoint n k c (number_of n x)) area (without_place left x) more more_left) where
        more_on : (y : Place) → IsTrue (holds_place more y) → IsOn n y
        more_on y there = elim (met.added y there) [ inl had ↦ h.on_board y had | inr new ↦ new.1.0 ]

        more_joined_at : (y : Place) → IsTrue (holds_place more y) → Joined n a (number_of n point) (number_of n y)
        more_joined_at y there = elim (met.added y there) [
          | inl had ↦ h.joined (number_of n y) (at y had)
          | inr new ↦
              let j = h.joined (number_of n x) (at x (h.among x held)) in
              let y_in : cell_at a (number_of n y) ≡ Stone (opponent_of k) = in_area n k c a cells (number_of n y) (number_below n y new.1.0) new.1.2 in
              joined_beside n a start (number_of n x) (number_of n y) j new.1.1 (y_in ∙ sym (joined_holds n a start (number_of n x) j ∙ start_in))
        ]

        more_joined : (q : ℕ) → IsTrue (these n more q) → Joined n a (number_of n point) q
        more_joined q there = subst (Joined n a start) (number_back n q) (more_joined_at (place_of n q) there)

        pub spread_more : IsNear n chain (number_of n x) → ((r : ℕ) → IsTrue (adjacent n (number_of n x) r) → IsMetOrWall n k c stones more r) → Spreading n k c a stones chain (number_of n point) more more_left
        spread_more near closed = record {
          on_board = more_on;
          begun = met.kept (place_of n start) h.begun;
          among = λ y there. elim (met.among y there) [
            | inl had ↦ met.kept y (h.among y (and_right _ (holds_place left y) (sym (sets_lose left x y) ∙ had)))
            | inr new ↦ new
          ];
          joined = more_joined;
          looked = λ q there. elim (met.added (place_of n q) there) [
            | inl had ↦ elim (h.looked q had) [
              | inl still ↦ again q still (same_place (place_of n q) x) refl
              | inr done ↦ inr (done.0, λ r adj. met_more n k c stones area more met.kept r (done.1 r adj))
            ]
            | inr new ↦ inl new.0
          ];
        }
          where
            again : (q : ℕ) → IsTrue (these n left q) → (b : Bool) → same_place (place_of n q) x ≡ b → IsTrue (these n more_left q)
                ⊎ (IsNear n chain q × ((r : ℕ) → IsTrue (adjacent n q r) → IsMetOrWall n k c stones more r))
            again q still true e =
                let same : number_of n x ≡ q = sym (ap (number_of n) ((same_place_decides (place_of n q) x).0 e)) ∙ number_back n q in
                inr (subst (λ z. IsNear n chain z × ((r : ℕ) → IsTrue (adjacent n z r) → IsMetOrWall n k c stones more r)) same (near, closed))
            again q still false e = inl (met.left_kept (place_of n q) (sets_lose left x (place_of n q) ∙ cc (e, still)))

        -- no area is an eye if one of its points is in none
        pub spread_fails : (IsEyeArea n a stones (IsNear n chain) (number_of n x) → ⊥) → IsEyeArea n a stones (IsNear n chain) (number_of n point) → ⊥
        spread_fails fails eye = fails (eye_joined n a stones chain start (number_of n x) (h.joined (number_of n x) (at x (h.among x held))) eye)

        pub more_fail : (IsEyeArea n a stones (IsNear n chain) (number_of n x) → ⊥) → (failed more_failed : List Place) → AreNoEyes n a stones chain failed → IsWith more failed more_failed → AreNoEyes n a stones chain more_failed
        more_fail fails failed more_failed none with y there = elim (with.most y there) [
          | inl had ↦ none y had
          | inr new ↦ (more_on y new, λ eye. spread_fails fails (eye_joined n a stones chain (number_of n y) start (joined_back n a start (number_of n y) (more_joined_at y new)) eye))
        ]

        -- each step leaves fewer points to be met, or to be looked at
        pub spread_less : (most : ℕ) → length more ≤ most → 2 * (most - length more) + length more_left < 2 * (most - length area) + length left
        spread_less most low = omega (arith, low, met.more, met.as_many, without_less left x held)

      -- at the end it is the area, and an eye
      pub spread_all : left ≡ [] → IsChainOf n a (number_of n point) area × IsEyeArea n a stones (IsNear n chain) (number_of n point)
      spread_all none = (
        record { joined = λ q low. (h.joined q, λ j. reached start q j.0 h.begun j.1); on_board = h.on_board },
        record {
          walls = λ r low lib. wall r low lib ((done lib.1.0 (reached_at lib.1.0 lib.1.2)).1 r (adjacent_back n r lib.1.0 lib.1.1));
          beside = λ q low j. (done q (reached_at q j)).0;
        },
      )
        where
          done : (q : ℕ) → IsTrue (these n area q) → IsNear n chain q × ((r : ℕ) → IsTrue (adjacent n q r) → IsMetOrWall n k c stones area r)
          done q there = elim (h.looked q there) [ inl still ↦ absurd (cc (still, none)) | inr looked ↦ looked ]

          begins : (own : Cell) (p q : ℕ) (rs : List ℕ) → IsWay n a own p q rs → cell_at a p ≡ own
          begins own p q [] w = w.0
          begins own p q (r ∷ rs) w = w.0

          reached : (p q : ℕ) (rs : List ℕ) → IsTrue (these n area p) → IsWay n a (cell_at a start) p q rs → IsTrue (these n area q)
          reached p q [] there w = subst (λ z. IsTrue (these n area z)) w.1 there
          reached p q (r ∷ rs) there w = elim ((done p there).1 r w.1) [
            | inl met ↦ reached r q rs met w.2
            | inr wall_there ↦ absurd (cc (begins (cell_at a start) r q rs w.2, start_in, not_in_area n k c a cells r (adjacent_on_board n p r w.1).1 wall_there.0))
          ]

          reached_at : (q : ℕ) → Joined n a (number_of n point) q → IsTrue (these n area q)
          reached_at q j = reached start q j.0 h.begun j.1

          wall : (r : ℕ) → r < n * n → IsLibertyOf n a (number_of n point) r → IsMetOrWall n k c stones area r → IsTrue (stones r)
          wall r low lib (inl met) = absurd (cc (lib.0, joined_holds n a start r (h.joined r met), start_in))
          wall r low lib (inr outside) = outside.1

-- at first no area has failed
pub no_eyes_first : (n : ℕ) (a : List Cell) (stones chain : Points) (s : List Place) → s ≡ [] → AreNoEyes n a stones chain s
no_eyes_first n a stones chain s none x held = absurd (cc (held, none))
