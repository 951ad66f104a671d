-- The keeper's stones of a state and the points between them, as the boards of a decision, and what they say of the state.
use Rattle.safe_groups.proofs.Common.{arith, sym, subst, refl, ◌≡◌, ◌≢◌, ◌∙◌, List, ℕ, ap, IsTrue, IsFalse, true, false, Bool, inl, inr, [], ◌∷◌, ◌*◌, ◌<◌, ◌⊎◌, ◌&&◌, cond, not, cell_at, adjacent, adjacent_back, adjacent_on_board, Cell, Empty, Stone, Colour, same_cell, same_cell_eq, eq_same_cell, nat_lt, ltb-true, and_left, and_right, and_both, IsWay, Area, Points, own, theirs, is_outside, side_of, Ground, area_of, marked, IsState, lt-ltb, Place, place_of, holds_place, Joined, IsChainOf, joined_self, joined_holds, joined_beside, IsEye, TwoEyes, alone_cell, space_cell, IsEyePoint, IsSafeAt, IsGivenAt, same_place_decides, or_cases, or_left, or_right, sets_gain, IsOn, number_of, same_place, with_place, joined_on, IsOfChain}
use Rattle.std.proofs.Common.{div-add-mod'}
use Rattle.std.proofs.lemmas.Nat.{div_below, mod_below}
use Rattle.go_points.proofs.Sides.{number_below}
use Rattle.go_turns.proofs.Openings.{place_back}
use Rattle.go_chains.proofs.Joins.{joined_back}
use Rattle.safe_groups.specs.Private.Spaces.{these, AreAlone, AreSpaces, AreEyePoints, AreBeside, AreNear, IsFreeOf, LeansOn}
use Rattle.safe_groups.proofs.Opening.{not_both}

-- the point of a number
number_at : (n q : ℕ) → number_of n (place_of n q) ≡ q
number_at n q = div-add-mod' q n

place_on : (n q : ℕ) → q < n * n → IsOn n (place_of n q)
place_on n q low =
    let some : 0 < n = grind (arith, low) in
    record { row_within = div_below q n n some low; column_within = mod_below q n some }

mine_or_not : (a : Area) (x : Cell) → (x ≡ own a) ⊎ (x ≢ own a)
mine_or_not a x = go (same_cell x (own a)) refl
  where
    go : (b : Bool) → same_cell x (own a) ≡ b → (x ≡ own a) ⊎ (x ≢ own a)
    go true e = inl (same_cell_eq x (own a) e)
    go false e = inr (λ same. cc (e, eq_same_cell x (own a) same))

module _ (a : Area) (c stones : List Cell) (alone : AreAlone a c stones) where
  pub alone_back : (p : ℕ) → p < a.size * a.size → cell_at stones p ≡ own a → cell_at c p ≡ own a
  alone_back p on e = go (same_cell (cell_at c p) (own a)) refl (sym (alone p on) ∙ e)
    where
      go : (b : Bool) → same_cell (cell_at c p) (own a) ≡ b → cond b (own a) Empty ≡ own a → cell_at c p ≡ own a
      go true is h = same_cell_eq (cell_at c p) (own a) is
      go false is h = absurd (cc h)

  alone_there : (p : ℕ) → p < a.size * a.size → cell_at c p ≡ own a → cell_at stones p ≡ own a
  alone_there p on e = alone p on ∙ ap (λ b. cond b (own a) Empty) (eq_same_cell (cell_at c p) (own a) e)

  alone_way : (p q : ℕ) (rs : List ℕ) → p < a.size * a.size → IsWay a.size stones (own a) p q rs → IsWay a.size c (own a) p q rs
  alone_way p q [] on way = (alone_back p on way.0, way.1)
  alone_way p q (r ∷ rs) on way = (alone_back p on way.0, way.1, alone_way r q rs (adjacent_on_board a.size p r way.1).1 way.2)

  pub alone_joined : (p q : ℕ) → p < a.size * a.size → cell_at c p ≡ own a → Joined a.size stones p q → Joined a.size c p q
  alone_joined p q on is joined = (joined.0, subst (λ x. IsWay a.size c x p q joined.0) (sym is) (alone_way p q joined.0 on (subst (λ x. IsWay a.size stones x p q joined.0) (alone_there p on is) joined.1)))

  pub near_beside : (p : ℕ) (chain near : List Place) → p < a.size * a.size → cell_at c p ≡ own a → IsChainOf a.size stones p chain → AreNear a.size chain near → AreBeside a c p near
  near_beside p chain near on is are beside = λ q at held.
      let found = beside (place_of a.size q) held in
      let r = number_of a.size found.0 in
      let r_on : r < a.size * a.size = number_below a.size found.0 found.1 in
      let in_chain : IsTrue (holds_place chain (place_of a.size r)) = subst (λ y. IsTrue (holds_place chain y)) (sym (place_back a.size found.0 found.1)) found.2 in
      let adj : IsTrue (adjacent a.size r q) = subst (λ m. IsTrue (adjacent a.size r m)) (number_at a.size q) found.3 in
      (r, adjacent_back a.size r q adj, alone_joined p r on is ((are.joined r r_on).0 in_chain))

module _ (g : Ground) (c stones : List Cell) (alone : AreAlone (area_of g) c stones) where
  pub leans_chain : (p : ℕ) (marks : List Cell) (s : List Place) → p < side_of g.cells * side_of g.cells → cell_at c p ≡ own (area_of g) → IsChainOf (side_of g.cells) stones p s → LeansOn g marks s
      → (q : ℕ) × IsTrue (marked g marks q) × Joined (side_of g.cells) c p q
  leans_chain p marks s on is chain lean = (lean.0, lean.2, alone_joined (area_of g) c stones alone p lean.0 on is ((chain.joined lean.0 lean.1).0 lean.3))

-- Of the points of a space those that have been looked at are points of an eye.
module _ (g : Ground) (space near avoided : List Place) where
  abbrev pub AreFound : List Place → Type 0
  AreFound left = (q : Place) → IsTrue (holds_place space q) → IsOn (side_of g.cells) q → IsTrue (holds_place left q) ⊎ IsEyePoint g near avoided (number_of (side_of g.cells) q)

  pub found_one : (left rest : List Place) (x : Place) → left ≡ x ∷ rest → (IsOn (side_of g.cells) x → IsEyePoint g near avoided (number_of (side_of g.cells) x)) → AreFound left → AreFound rest
  found_one left rest x is here before q held on = elim (before q held on) [
    | inl waits ↦ elim (or_cases (same_place q x) (holds_place rest q) (ap (λ l. holds_place l q) (sym is) ∙ waits)) [
      | inl same ↦
          let at : x ≡ q = sym ((same_place_decides q x).0 same) in
          inr (subst (λ y. IsEyePoint g near avoided (number_of (side_of g.cells) y)) at (here (subst (IsOn (side_of g.cells)) (sym at) on)))
      | inr rests ↦ inl rests
    ]
    | inr found ↦ inr found
  ]

  pub found_all : (left : List Place) → left ≡ [] → AreFound left → AreEyePoints g space near avoided
  found_all left none found q at held = elim (found (place_of (side_of g.cells) q) held (place_on (side_of g.cells) q at)) [
    | inl waits ↦ absurd (cc (ap (λ l. holds_place l (place_of (side_of g.cells) q)) (sym none) ∙ waits))
    | inr is ↦ subst (IsEyePoint g near avoided) (number_at (side_of g.cells) q) is
  ]

-- One point beside the stone after another is added.
module _ (n : ℕ) (x : Place) (old : List Place) where
  abbrev pub HasBeside : List Place → Type 0
  HasBeside new = (q : Place) → IsTrue (holds_place new q) → IsTrue (holds_place old q) ⊎ IsTrue (adjacent n (number_of n x) (number_of n q))

  pub beside_one : (new : List Place) (y : Place) → IsTrue (adjacent n (number_of n x) (number_of n y)) → HasBeside new → HasBeside (with_place new y)
  beside_one new y adj more q held = elim (or_cases (same_place q y) (holds_place new q) (sym (sets_gain new y q) ∙ held)) [
    | inl same ↦ inr (subst (λ z. IsTrue (adjacent n (number_of n x) (number_of n z))) (sym ((same_place_decides q y).0 same)) adj)
    | inr had ↦ more q had
  ]

-- One stone of the chain after another has the points beside it added.
module _ (n : ℕ) (chain : List Place) where
  pub near_more : (x : Place) (old new : List Place) → IsOn n x → IsTrue (holds_place chain x) → HasBeside n x old new → AreNear n chain old → AreNear n chain new
  near_more x old new on held more near q is = elim (more q is) [
    | inl had ↦ near q had
    | inr beside ↦ (x, on, held, beside)
  ]

-- a space that is enclosed by the keeper's stones, all of it near the chain, is an eye
module _ (g : Ground) (c spaces : List Cell) (are : AreSpaces (area_of g) c spaces) (p : ℕ) (near avoided space : List Place) (beside : AreBeside (area_of g) c p near) where
  abbrev n : ℕ
  n = side_of g.cells

  abbrev a : Area
  a = area_of g

  not_mine : (q : ℕ) → q < side_of g.cells * side_of g.cells → (cell_at spaces q ≡ Empty → ⊥) → cell_at c q ≢ own (area_of g)
  not_mine q on stone e = stone (are q on ∙ ap (λ b. cond b Empty (theirs (area_of g))) (eq_same_cell (cell_at c q) (own (area_of g)) e))

  filled : (q : ℕ) → q < side_of g.cells * side_of g.cells → cell_at c q ≢ own (area_of g) → cell_at spaces q ≡ theirs (area_of g)
  filled q on ne = are q on ∙ go (same_cell (cell_at c q) (own (area_of g))) refl
    where
      go : (b : Bool) → same_cell (cell_at c q) (own (area_of g)) ≡ b → cond b Empty (theirs (area_of g)) ≡ theirs (area_of g)
      go true e = absurd (ne (same_cell_eq (cell_at c q) (own (area_of g)) e))
      go false e = refl

  module _ (x : ℕ) (on : x < side_of g.cells * side_of g.cells) (stone : cell_at spaces x ≡ Empty → ⊥) (chain : IsChainOf (side_of g.cells) spaces x space) (points : AreEyePoints g space near avoided) where
    at : (q : ℕ) → IsTrue (these (side_of g.cells) space q) → q < side_of g.cells * side_of g.cells
    at q e = ltb-true q (side_of g.cells * side_of g.cells) (and_left (nat_lt q (side_of g.cells * side_of g.cells)) (holds_place space (place_of (side_of g.cells) q)) e)

    holds : (q : ℕ) → IsTrue (these (side_of g.cells) space q) → IsTrue (holds_place space (place_of (side_of g.cells) q))
    holds q e = and_right (nat_lt q (side_of g.cells * side_of g.cells)) (holds_place space (place_of (side_of g.cells) q)) e

    first_is : cell_at spaces x ≡ theirs (area_of g)
    first_is = filled x on (not_mine x on stone)

    joined : (q : ℕ) → IsTrue (these (side_of g.cells) space q) → Joined (side_of g.cells) spaces x q
    joined q e = (chain.joined q (at q e)).0 (holds q e)

    in_space : (q : ℕ) → q < side_of g.cells * side_of g.cells → Joined (side_of g.cells) spaces x q → IsTrue (these (side_of g.cells) space q)
    in_space q low j = and_both (nat_lt q (side_of g.cells * side_of g.cells)) (holds_place space (place_of (side_of g.cells) q)) (lt-ltb q (side_of g.cells * side_of g.cells) low) ((chain.joined q low).1 j)

    space_mine : (q : ℕ) → IsTrue (these (side_of g.cells) space q) → cell_at c q ≢ own (area_of g)
    space_mine q e = not_mine q (at q e) (λ free. cc (free, joined_holds (side_of g.cells) spaces x q (joined q e), first_is))

    found : (q : ℕ) → IsTrue (these (side_of g.cells) space q) → IsEyePoint g near avoided q
    found q e = points q (at q e) (holds q e)

    within : (q : ℕ) → IsTrue (these (side_of g.cells) space q) → IsFalse (is_outside (area_of g) q)
    within q e = go (same_cell (cell_at g.cells q) (Stone g.keeper)) (nat_lt q (side_of g.cells * side_of g.cells)) (same_cell (cell_at g.cells q) Empty) (lt-ltb q (side_of g.cells * side_of g.cells) (at q e)) (eq_same_cell (cell_at g.cells q) Empty (found q e).inside)
      where
        go : (k l m : Bool) → l ≡ true → m ≡ true → (not k && not (l && m)) ≡ false
        go true l m e f = refl
        go false true true e f = refl
        go false false m e f = absurd (cc e)
        go false true false e f = absurd (cc f)

    pub is_eye : IsEye (area_of g) c p (these (side_of g.cells) space)
    is_eye = record {
      some = (x, in_space x on (joined_self (side_of g.cells) spaces x));
      on_board = at;
      inside = within;
      not_own = space_mine;
      enclosed = λ q r e adj. (let r_on = (adjacent_on_board (side_of g.cells) q r adj).1 in elim (mine_or_not (area_of g) (cell_at c r)) [
        | inl mine ↦ inr mine
        | inr other ↦ inl (in_space r r_on (joined_beside (side_of g.cells) spaces x q r (joined q e) adj (filled r r_on other ∙ sym (joined_holds (side_of g.cells) spaces x q (joined q e) ∙ first_is))))
      ]);
      beside = λ q e. beside q (at q e) (found q e).near_one;
    }

    pub is_free : IsFreeOf (side_of g.cells) space avoided
    is_free = λ q e. go (nat_lt q (side_of g.cells * side_of g.cells)) (holds_place avoided (place_of (side_of g.cells) q)) (found q e).free
      where
        go : (l m : Bool) → m ≡ false → (l && m) ≡ false
        go true m e = e
        go false m e = refl

pub two_eyes : (a : Area) (c : List Cell) (p : ℕ) (first second : List Place) → IsEye a c p (these a.size first) → IsEye a c p (these a.size second) → IsFreeOf a.size second first → TwoEyes a c p
two_eyes a c p first second one other free = record { first = these a.size second; second = these a.size first; is_first = other; is_second = one; apart = free }

-- what is true of a stone is true of those that it is joined with
safe_eye : (a : Area) (c : List Cell) (p q : ℕ) (eye : Points) → Joined a.size c p q → IsEye a c p eye → IsEye a c q eye
safe_eye a c p q eye joined is = record {
  some = is.some;
  on_board = is.on_board;
  inside = is.inside;
  not_own = is.not_own;
  enclosed = is.enclosed;
  beside = λ r e. (let at = is.beside r e in (at.0, at.1, joined_on a.size c q p at.0 (joined_back a.size c p q joined) at.2));
}

pub safe_joined : (a : Area) (c : List Cell) (p q : ℕ) → Joined a.size c p q → IsSafeAt a c p → IsSafeAt a c q
safe_joined a c p q joined (inl eyes) = inl (record { first = eyes.first; second = eyes.second; is_first = safe_eye a c p q eyes.first joined eyes.is_first; is_second = safe_eye a c p q eyes.second joined eyes.is_second; apart = eyes.apart })
safe_joined a c p q joined (inr lean) = inr (lean.0, lean.1, joined_on a.size c q p lean.0 (joined_back a.size c p q joined) lean.2)

-- the stones of chains that are safe
abbrev pub AreSafe : Area → List Cell → List Place → Type 0
AreSafe a c set = (q : Place) → IsTrue (holds_place set q) → IsOn a.size q × IsSafeAt a c (number_of a.size q)

pub safe_more : (a : Area) (c stones : List Cell) (p : ℕ) (old new : List Place) → AreAlone a c stones → p < a.size * a.size → (cell_at c p ≡ own a → IsSafeAt a c p) → AreSafe a c old
    → ((q : Place) → IsTrue (holds_place new q) → IsTrue (holds_place old q) ⊎ IsOfChain a.size stones p q) → AreSafe a c new
safe_more a c stones p old new alone on here safe more q held = elim (more q held) [
  | inl had ↦ safe q had
  | inr chain ↦
      let mine : cell_at c p ≡ own a = go (same_cell (cell_at c p) (own a)) refl (alone p on) chain.stone in
      (chain.on_board, safe_joined a c p (number_of a.size q) (alone_joined a c stones alone p (number_of a.size q) on mine chain.joined) (here mine))
]
  where
    go : (b : Bool) → same_cell (cell_at c p) (own a) ≡ b → cell_at stones p ≡ cond (same_cell (cell_at c p) (own a)) (own a) Empty → cell_at stones p ≢ Empty → cell_at c p ≡ own a
    go true e is some = same_cell_eq (cell_at c p) (own a) e
    go false e is some = absurd (some (is ∙ ap (λ b. cond b (own a) Empty) e))

-- there is a stone, if there is a chain
pub some_there : (c : List Cell) (p : ℕ) → true ≡ not (same_cell (cell_at c p) Empty) → cell_at c p ≢ Empty
some_there c p some e = cc (some, eq_same_cell (cell_at c p) Empty e)

-- what is left of the chain is of it
pub chain_first : (left rest chain : List Place) (x : Place) → left ≡ x ∷ rest → ((q : Place) → IsTrue (holds_place left q) → IsTrue (holds_place chain q)) → IsTrue (holds_place chain x)
chain_first left rest chain x is among = among x (ap (λ l. holds_place l x) is ∙ or_left (same_place x x) (holds_place rest x) ((same_place_decides x x).1 refl))

pub chain_rest : (left rest chain : List Place) (x : Place) → left ≡ x ∷ rest → ((q : Place) → IsTrue (holds_place left q) → IsTrue (holds_place chain q)) → (q : Place) → IsTrue (holds_place rest q) → IsTrue (holds_place chain q)
chain_rest left rest chain x is among q held = among q (ap (λ l. holds_place l q) is ∙ or_right (same_place q x) (holds_place rest q) held)

-- One stone of the chain after another is added.
module _ (n : ℕ) (c : List Cell) (p : ℕ) (old : List Place) where
  abbrev pub HasChain : List Place → Type 0
  HasChain new = (q : Place) → IsTrue (holds_place new q) → IsTrue (holds_place old q) ⊎ IsOfChain n c p q

  pub chain_one : (new : List Place) (x : Place) → IsOfChain n c p x → HasChain new → HasChain (with_place new x)
  chain_one new x is more q held = elim (or_cases (same_place q x) (holds_place new q) (sym (sets_gain new x q) ∙ held)) [
    | inl same ↦ inr (subst (IsOfChain n c p) (sym ((same_place_decides q x).0 same)) is)
    | inr had ↦ more q had
  ]

  pub of_chain : (chain : List Place) (x : Place) → IsChainOf n c p chain → cell_at c p ≢ Empty → IsTrue (holds_place chain x) → IsOfChain n c p x
  of_chain chain x are some held =
      let on = are.on_board x held in
      record { on_board = on; stone = some; joined = (are.joined (number_of n x) (number_below n x on)).0 (subst (λ y. IsTrue (holds_place chain y)) (sym (place_back n x on)) held) }
