-- What loops over the points of a board find out.
use Rattle.pass_alive.proofs.Common.{◌≡◌, ℕ, suc, ◌*◌, ◌<◌, Bool, true, false, inl, inr, IsTrue, ◌↔◌, IsFalse, not, Some, None, List, [], ◌∷◌, map, refl, sym, ◌∙◌, ap, subst, arith, All, list_any, Cell, Empty, same_cell, adjacent, cell_at, neighbours, Place, IsOn, number_of, place_of, holds_place, Member, any_to, neighbours_member, adjacent_on_board, adjacent_back, IsChainOf, joined_self, joined_back, joined_on, Points, Fixed, these, number_on, IsNear, AreSides, IsBesideFree, IsFreePlace, IsNoEye, IsEyeArea, IsEyeOutside, TwoEyeAreas, TwoEyeSets, holds_point}
use Rattle.std.proofs.Common.{Option, is_some, IfSome, IfNone}
use Rattle.go_points.proofs.Lists.{member_map}
use Rattle.pass_alive.specs.Private.Areas.{NoEyeOutside}
use Rattle.pass_alive.proofs.Regions.{number_back, on_place, region_holds}
use Rattle.go_turns.proofs.Openings.{place_back}
use Rattle.go_points.proofs.Sides.{number_below}

-- a point beside another
pub near_yes : (n : ℕ) (test : Points) (p r : ℕ) → adjacent n p r ≡ true → test r ≡ true → (b : Bool) → b ≡ true → IsTrue b ↔ IsNear n test p
near_yes n test p r adj held b e = (λ _. (r, adj, held), λ _. e)

all_member : (P : Place → Type 0) (items : List Place) → All P items → (x : Place) → Member x items → P x
all_member P [] all x m = absurd m
all_member P (y ∷ ys) all x (inl e) = subst P (sym e) (all 0 y (omega arith))
all_member P (y ∷ ys) all x (inr m) = all_member P ys (λ j d low. all (suc j) d (omega (arith, low))) x m

pub near_no : (n : ℕ) (set items : List Place) (p : ℕ) → map (number_of n) items ≡ neighbours n p → All (IsOn n) items → list_any (holds_place set) items ≡ false → (b : Bool) → b ≡ false → IsTrue b ↔ IsNear n (these n set) p
near_no n set items p those on none b e = (λ h. absurd (cc (h, e)), λ near. absurd (no near))
  where
    no : IsNear n (these n set) p → ⊥
    no near =
        let m : Member near.0 (map (number_of n) items) = subst (Member near.0) (sym those) (neighbours_member n p near.0 near.1) in
        let found = member_map (number_of n) near.0 items m in
        let back : place_of n near.0 ≡ found.0 = ap (place_of n) found.2 ∙ place_back n found.0 (all_member (IsOn n) items on found.0 found.1) in
        cc (any_to (holds_place set) found.0 items found.1 (sym (ap (holds_place set) back) ∙ near.2), none)

-- what an eye asks of its own point
pub eye_here : (n : ℕ) (a : List Cell) (stones chain : Points) (p : ℕ) → p < n * n → IsEyeArea n a stones (IsNear n chain) p → IsNear n chain p
eye_here n a stones chain p on eye = eye.beside p on (joined_self n a p)

-- whether the point is empty, as a cell that was read says
pub empty_as : (cells : List Cell) (q : ℕ) (x : Cell) (b : Bool) → b ≡ same_cell x Empty → x ≡ cell_at cells q → same_cell (cell_at cells q) Empty ≡ b
empty_as cells q x b e is = sym (e ∙ ap (λ (a : Cell). same_cell a Empty) is)

-- the area of an empty point
pub eye_found : (n : ℕ) (c a : List Cell) (stones chain known : List Place) (x : Place) (area : List Place) → IsFreePlace n c x → IsFalse (holds_place known x)
    → IsChainOf n a (number_of n x) area × IsEyeArea n a (these n stones) (IsNear n (these n chain)) (number_of n x)
    → IsEyeOutside n c a (these n stones) (these n chain) (these n known) area
eye_found n c a stones chain known x area place unknown found = record {
  at = number_of n x;
  on = number_below n x place.0;
  empty = place.1;
  unknown = ap (holds_place known) (place_back n x place.0) ∙ unknown;
  area = found.0;
  eye = found.1;
}

-- two eyes, from the two that were looked for
module _ (n : ℕ) (c a : List Cell) (stones chain : Points) where
  pub two_found : (s t : List Place) (none : Points) → IsEyeOutside n c a stones chain none s → IsEyeOutside n c a stones chain (these n s) t → TwoEyeSets n c a stones (IsNear n chain)
  two_found s t none one other = record {
    areas = record {
      first = one.at;
      second = other.at;
      first_on = one.on;
      second_on = other.on;
      first_empty = one.empty;
      second_empty = other.empty;
      first_eye = one.eye;
      second_eye = other.eye;
      apart = λ j. cc ((one.area.joined other.at other.on).1 j, other.unknown);
    };
    first_set = s;
    second_set = t;
    is_first = one.area;
    is_second = other.area;
  }

  pub none_found : NoEyeOutside n c a stones chain (these n []) → TwoEyeAreas n c a stones (IsNear n chain) → ⊥
  none_found fails two = fails two.first two.first_on two.first_empty refl two.first_eye

  pub one_found : (s : List Place) (none : Points) → IsEyeOutside n c a stones chain none s → NoEyeOutside n c a stones chain (these n s) → TwoEyeAreas n c a stones (IsNear n chain) → ⊥
  one_found s none one fails two = go (these n s two.first) (these n s two.second) refl refl
    where
      go : (x y : Bool) → these n s two.first ≡ x → these n s two.second ≡ y → ⊥
      go false y first second = fails two.first two.first_on two.first_empty first two.first_eye
      go true false first second = fails two.second two.second_on two.second_empty second two.second_eye
      go true true first second =
          two.apart (joined_on n a two.first one.at two.second (joined_back n a one.at two.first ((one.area.joined two.first two.first_on).0 first)) ((one.area.joined two.second two.second_on).0 second))

-- no eye beside the chain is none at all: an eye is beside it
pub no_eye_outside : (n : ℕ) (c a : List Cell) (stones : Points) (chain sides : List Place) (known : Points) → AreSides n c chain sides
    → ((x : Place) → IsTrue (holds_place sides x) → IsNoEye n a stones (these n chain) known (number_of n x)) → NoEyeOutside n c a stones (these n chain) known
no_eye_outside n c a stones chain sides known are none p on free unknown eye =
    let here = eye_here n a stones (these n chain) p on eye in
    let there : IsTrue (these n sides p) = are.all p free here in
    let back : number_of n (place_of n p) ≡ p = number_back n p in
    none (place_of n p) there (ap known back ∙ unknown) (subst (IsEyeArea n a stones (IsNear n (these n chain))) (sym back) eye)

-- a liberty outside the region
pub lasting_by : (n : ℕ) (c : List Cell) (region chain : List Place) → ((x : Place) → IsTrue (holds_place chain x) → IsOn n x) → (b : Bool)
    → IsTrue b ↔ ((x : Place) × IsTrue (holds_place chain x) × IsBesideFree n c (these n region) (number_of n x))
    → IsTrue b ↔ ((q : ℕ) × Fixed (map (number_on n) region) c q × IsNear n (these n chain) q)
lasting_by n c region chain chain_on b found = (λ h. there (found.0 h), λ lasting. found.1 (back lasting))
  where
    in_region : (p q : ℕ) → IsTrue (adjacent n p q) → holds_point (map (number_on n) region) q ≡ these n region q
    in_region p q adj = let on : q < n * n = (adjacent_on_board n p q adj).1 in region_holds n q region on (on_place n q on)

    there : (x : Place) × IsTrue (holds_place chain x) × IsBesideFree n c (these n region) (number_of n x) → (q : ℕ) × Fixed (map (number_on n) region) c q × IsNear n (these n chain) q
    there side =
        let x = side.0 in
        let q = side.2.0 in
        let adj = side.2.1 in (
          q,
          record { empty = side.2.2; outside = in_region (number_of n x) q adj ∙ side.2.3 },
          (number_of n x, adjacent_back n (number_of n x) q adj, ap (holds_place chain) (place_back n x (chain_on x side.1)) ∙ side.1),
        )

    back : (q : ℕ) × Fixed (map (number_on n) region) c q × IsNear n (these n chain) q → (x : Place) × IsTrue (holds_place chain x) × IsBesideFree n c (these n region) (number_of n x)
    back lasting =
        let q = lasting.0 in
        let r = lasting.2.0 in
        let adj = adjacent_back n q r lasting.2.1 in
        (place_of n r, lasting.2.2, (q, subst (λ z. IsTrue (adjacent n z q)) (sym (number_back n r)) adj, lasting.1.empty, sym (in_region r q adj) ∙ lasting.1.outside))

-- what is said of an option that holds something, or nothing
pub if_some : {A : Type 0} (P : A → Type 0) (o : Option A) → IfSome o P → is_some o ≡ true → (x : A) × P x
if_some P None h e = absurd (cc e)
if_some P (Some x) h e = (x, h)

pub or_none : {A : Type 0} (P : Type 0) (o : Option A) → IfNone o P → (P → ⊥) → is_some o ≡ true
or_none P None h fails = absurd (fails h)
or_none P (Some x) h fails = refl

pub not_is : {P : Type 0} (b : Bool) → (b ≡ false → P) → (b ≡ true → P → ⊥) → IsTrue (not b) ↔ P
not_is true passed fails = (λ h. absurd (cc h), λ p. absurd (fails refl p))
not_is false passed fails = (λ _. passed refl, λ _. refl)
