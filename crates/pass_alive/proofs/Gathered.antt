-- The areas that can be eyes are gathered one by one.
use Rattle.pass_alive.proofs.Common.{◌≡◌, ◌≢◌, ℕ, false, ◌+◌, ◌<◌, ◌≤◌, ◌⊎◌, inl, inr, IsTrue, List, [], ◌∷◌, length, map, get_or, sym, ◌∙◌, ap, subst, Cell, Empty, adjacent, neighbours, cell_at, Place, IsOn, number_of, place_of, same_place, holds_place, with_place, same_place_decides, sets_gain, or_cases, or_left, or_right, adjacent_back, IsWay, Joined, IsChainOf, joined_self, these, IsNear, IsFreePlace, AreSides}
use Rattle.pass_alive.specs.Private.Areas.{HasSides, HasAround, HasStonesAround, HasStonesNear, is_due}
use Rattle.pass_alive.proofs.Regions.{number_back}
use Rattle.pass_alive.proofs.Members.{AllBut, AllBeside, but_first, but_item, but_more, but_none, beside_more, beside_all}
use Rattle.go_turns.proofs.Openings.{place_back}

-- the sides of a chain are gathered point by point
pub record SidesSoFar (n : ℕ) (c : List Cell) (old items : List Place) (i : ℕ) (now : List Place) : Type 0 where
  pub kept : (x : Place) → IsTrue (holds_place old x) → IsTrue (holds_place now x)
  pub free : (x : Place) → IsTrue (holds_place now x) → IsTrue (holds_place old x) ⊎ IsFreePlace n c x
  pub added : AllBeside n (λ q. cell_at c q ≡ Empty → IsTrue (these n now q)) items i

module _ (n : ℕ) (c : List Cell) (old items : List Place) where
  pub sides_first : SidesSoFar n c old items 0 old
  sides_first = record { kept = λ x held. held; free = λ x held. inl held; added = λ q m. absurd m }

  module _ (i : ℕ) (x : Place) (low : i < length items) (is : x ≡ get_or items i x) (now : List Place) (h : SidesSoFar n c old items i now) where
    pub sides_kept : (cell_at c (number_of n x) ≡ Empty → ⊥) → SidesSoFar n c old items (i + 1) now
    sides_kept other = record {
      kept = h.kept;
      free = h.free;
      added = beside_more n (λ q. cell_at c q ≡ Empty → IsTrue (these n now q)) items i x low is (λ free. absurd (other free)) h.added;
    }

    pub sides_more : IsFreePlace n c x → SidesSoFar n c old items (i + 1) (with_place now x)
    sides_more here = record {
      kept = λ y held. had y (h.kept y held);
      free = λ y held. elim (or_cases (same_place y x) (holds_place now y) (sym (sets_gain now x y) ∙ held)) [
        | inl same ↦ inr (subst (IsFreePlace n c) (sym ((same_place_decides y x).0 same)) here)
        | inr before ↦ h.free y before
      ];
      added = beside_more n (λ q. cell_at c q ≡ Empty → IsTrue (these n (with_place now x) q)) items i x low is
          (λ free. sets_gain now x (place_of n (number_of n x)) ∙ or_left (same_place (place_of n (number_of n x)) x) (holds_place now (place_of n (number_of n x))) ((same_place_decides (place_of n (number_of n x)) x).1 (place_back n x here.0)))
          (λ q m free. had (place_of n q) (h.added q m free));
    }
      where
        had : (y : Place) → IsTrue (holds_place now y) → IsTrue (holds_place (with_place now x) y)
        had y held = sets_gain now x y ∙ or_right (same_place y x) (holds_place now y) held

  pub sides_all : (i p : ℕ) → length items ≤ i → map (number_of n) items ≡ neighbours n p → (now : List Place) → SidesSoFar n c old items i now → HasSides n c p old now
  sides_all i p past those now h = record {
    kept = h.kept;
    free = h.free;
    added = beside_all n (λ q. cell_at c q ≡ Empty → IsTrue (these n now q)) items i p past those h.added;
  }

-- and stone by stone
pub record SidesGathered (n : ℕ) (c : List Cell) (chain left now : List Place) : Type 0 where
  pub free : (x : Place) → IsTrue (holds_place now x) → IsFreePlace n c x
  pub looked : AllBut (λ s. (q : ℕ) → IsTrue (adjacent n (number_of n s) q) → cell_at c q ≡ Empty → IsTrue (these n now q)) chain left

module _ (n : ℕ) (c : List Cell) (chain : List Place) where
  pub gathering_first : (left now : List Place) → left ≡ chain → now ≡ [] → SidesGathered n c chain left now
  gathering_first left now e none = record {
    free = λ x held. absurd (cc (held, none));
    looked = but_first (λ s. (q : ℕ) → IsTrue (adjacent n (number_of n s) q) → cell_at c q ≡ Empty → IsTrue (these n now q)) chain left e;
  }

  pub gathering_item : (left rest : List Place) (s : Place) → left ≡ s ∷ rest → (now : List Place) → SidesGathered n c chain left now → IsTrue (holds_place chain s)
  gathering_item left rest s e now h = but_item (λ s. (q : ℕ) → IsTrue (adjacent n (number_of n s) q) → cell_at c q ≡ Empty → IsTrue (these n now q)) chain left rest s e h.looked

  pub gathering_more : (left rest : List Place) (s : Place) → left ≡ s ∷ rest → (old now : List Place) → HasSides n c (number_of n s) old now → SidesGathered n c chain left old → SidesGathered n c chain rest now
  gathering_more left rest s e old now has h = record {
    free = λ x held. elim (has.free x held) [ inl before ↦ h.free x before | inr new ↦ new ];
    looked = but_more (λ s. (q : ℕ) → IsTrue (adjacent n (number_of n s) q) → cell_at c q ≡ Empty → IsTrue (these n now q)) chain left rest s e has.added
        (record {
          among = h.looked.among;
          passed = λ p held. elim (h.looked.passed p held) [
            | inl still ↦ inl still
            | inr done ↦ inr (λ q adj free. has.kept (place_of n q) (done q adj free))
          ];
        });
  }

  pub gathering_all : (left now : List Place) → left ≡ [] → ((x : Place) → IsTrue (holds_place chain x) → IsOn n x) → SidesGathered n c chain left now → AreSides n c chain now
  gathering_all left now e on h = record {
    free = h.free;
    all = λ q free near.
        let back = number_back n near.0 in
        but_none (λ s. (q : ℕ) → IsTrue (adjacent n (number_of n s) q) → cell_at c q ≡ Empty → IsTrue (these n now q)) chain left e h.looked (place_of n near.0) near.2
        q (subst (λ z. IsTrue (adjacent n z q)) (sym back) (adjacent_back n q near.0 near.1)) free;
  }

-- whatever is beside a point is gathered
pub record AroundSoFar (n : ℕ) (old items : List Place) (i : ℕ) (now : List Place) : Type 0 where
  pub kept : (x : Place) → IsTrue (holds_place old x) → IsTrue (holds_place now x)
  pub on_board : (x : Place) → IsTrue (holds_place now x) → IsTrue (holds_place old x) ⊎ IsOn n x
  pub added : AllBeside n (λ q. IsTrue (these n now q)) items i

module _ (n : ℕ) (old items : List Place) where
  pub around_first : AroundSoFar n old items 0 old
  around_first = record { kept = λ x held. held; on_board = λ x held. inl held; added = λ q m. absurd m }

  pub around_more : (i : ℕ) (x : Place) → i < length items → x ≡ get_or items i x → IsOn n x → (now : List Place) → AroundSoFar n old items i now → AroundSoFar n old items (i + 1) (with_place now x)
  around_more i x low is on now h = record {
    kept = λ y held. had y (h.kept y held);
    on_board = λ y held. elim (or_cases (same_place y x) (holds_place now y) (sym (sets_gain now x y) ∙ held)) [
      | inl same ↦ inr (subst (IsOn n) (sym ((same_place_decides y x).0 same)) on)
      | inr before ↦ h.on_board y before
    ];
    added = beside_more n (λ q. IsTrue (these n (with_place now x) q)) items i x low is
        (sets_gain now x (place_of n (number_of n x)) ∙ or_left (same_place (place_of n (number_of n x)) x) (holds_place now (place_of n (number_of n x))) ((same_place_decides (place_of n (number_of n x)) x).1 (place_back n x on)))
        (λ q m. had (place_of n q) (h.added q m));
  }
    where
      had : (y : Place) → IsTrue (holds_place now y) → IsTrue (holds_place (with_place now x) y)
      had y held = sets_gain now x y ∙ or_right (same_place y x) (holds_place now y) held

  pub around_all : (i p : ℕ) → length items ≤ i → map (number_of n) items ≡ neighbours n p → (now : List Place) → AroundSoFar n old items i now → HasAround n p old now
  around_all i p past those now h = record {
    kept = h.kept;
    on_board = h.on_board;
    added = beside_all n (λ q. IsTrue (these n now q)) items i p past those h.added;
  }

-- and point by point
abbrev pub IsAround : ℕ → List Place → Place → Type 0
IsAround n now s = (q : ℕ) → IsTrue (adjacent n (number_of n s) q) → IsTrue (these n now q)

pub record AroundGathered (n : ℕ) (points left now : List Place) : Type 0 where
  pub on_board : (x : Place) → IsTrue (holds_place now x) → IsOn n x
  pub looked : AllBut (IsAround n now) points left

module _ (n : ℕ) (points : List Place) where
  pub all_first : (left now : List Place) → left ≡ points → now ≡ [] → AroundGathered n points left now
  all_first left now e none = record { on_board = λ x held. absurd (cc (held, none)); looked = but_first (IsAround n now) points left e }

  pub all_item : (left rest : List Place) (s : Place) → left ≡ s ∷ rest → (now : List Place) → AroundGathered n points left now → IsTrue (holds_place points s)
  all_item left rest s e now h = but_item (IsAround n now) points left rest s e h.looked

  pub all_more : (left rest : List Place) (s : Place) → left ≡ s ∷ rest → (old now : List Place) → HasAround n (number_of n s) old now → AroundGathered n points left old → AroundGathered n points rest now
  all_more left rest s e old now has h = record {
    on_board = λ x held. elim (has.on_board x held) [ inl before ↦ h.on_board x before | inr new ↦ new ];
    looked = but_more (IsAround n now) points left rest s e has.added
        (record {
          among = h.looked.among;
          passed = λ p held. elim (h.looked.passed p held) [ inl still ↦ inl still | inr done ↦ inr (λ q adj. has.kept (place_of n q) (done q adj)) ];
        });
  }

  pub all_near : (left now : List Place) → left ≡ [] → AroundGathered n points left now → (q : ℕ) → IsNear n (these n points) q → IsTrue (these n now q)
  all_near left now e h q near =
      but_none (IsAround n now) points left e h.looked (place_of n near.0) near.2 q
      (subst (λ z. IsTrue (adjacent n z q)) (sym (number_back n near.0)) (adjacent_back n q near.0 near.1))

-- stones beside a point are gathered, where they are not due late
abbrev pub IsDueNear : ℕ → List Place → List Place → List Place → ℕ → Type 0
IsDueNear n stones late now q = IsTrue (these n stones q) → IsTrue (is_due now late (place_of n q))

pub record StonesSoFar (n : ℕ) (stones late old items : List Place) (i : ℕ) (now : List Place) : Type 0 where
  pub kept : (x : Place) → IsTrue (holds_place old x) → IsTrue (holds_place now x)
  pub added : AllBeside n (IsDueNear n stones late now) items i
  pub most : (x : Place) → IsTrue (holds_place now x) → IsTrue (holds_place old x) ⊎ IsTrue (holds_place stones x)

module _ (n : ℕ) (stones late old items : List Place) where
  pub stones_first : StonesSoFar n stones late old items 0 old
  stones_first = record { kept = λ x held. held; added = λ q m. absurd m; most = λ x held. inl held }

  module _ (i : ℕ) (x : Place) (low : i < length items) (is : x ≡ get_or items i x) (on : IsOn n x) (now : List Place) (h : StonesSoFar n stones late old items i now) where
    pub stones_kept : (IsTrue (holds_place stones x) → IsTrue (is_due now late x)) → StonesSoFar n stones late old items (i + 1) now
    stones_kept due = record {
      kept = h.kept;
      added = beside_more n (IsDueNear n stones late now) items i x low is
          (λ held. subst (λ z. IsTrue (is_due now late z)) (sym (place_back n x on)) (due (sym (ap (holds_place stones) (place_back n x on)) ∙ held))) h.added;
      most = h.most;
    }

    pub stones_more : IsTrue (holds_place stones x) → StonesSoFar n stones late old items (i + 1) (with_place now x)
    stones_more stone = record {
      kept = λ y held. had y (h.kept y held);
      added = beside_more n (IsDueNear n stones late (with_place now x)) items i x low is
          (λ held. or_left (holds_place (with_place now x) (place_of n (number_of n x))) (holds_place late (place_of n (number_of n x)))
          (sets_gain now x (place_of n (number_of n x)) ∙ or_left (same_place (place_of n (number_of n x)) x) (holds_place now (place_of n (number_of n x))) ((same_place_decides (place_of n (number_of n x)) x).1 (place_back n x on))))
          (λ q m held. still (place_of n q) (h.added q m held));
      most = λ y held. elim (or_cases (same_place y x) (holds_place now y) (sym (sets_gain now x y) ∙ held)) [
        | inl same ↦ inr (subst (λ z. IsTrue (holds_place stones z)) (sym ((same_place_decides y x).0 same)) stone)
        | inr before ↦ h.most y before
      ];
    }
      where
        had : (y : Place) → IsTrue (holds_place now y) → IsTrue (holds_place (with_place now x) y)
        had y held = sets_gain now x y ∙ or_right (same_place y x) (holds_place now y) held

        still : (y : Place) → IsTrue (is_due now late y) → IsTrue (is_due (with_place now x) late y)
        still y is_due_now = elim (or_cases (holds_place now y) (holds_place late y) is_due_now) [
          | inl first ↦ or_left (holds_place (with_place now x) y) (holds_place late y) (had y first)
          | inr after ↦ or_right (holds_place (with_place now x) y) (holds_place late y) after
        ]

  pub stones_all : (i p : ℕ) → length items ≤ i → map (number_of n) items ≡ neighbours n p → (now : List Place) → StonesSoFar n stones late old items i now → HasStonesAround n stones late p old now
  stones_all i p past those now h = record {
    kept = h.kept;
    added = beside_all n (IsDueNear n stones late now) items i p past those h.added;
    most = h.most;
  }

-- and point by point
abbrev pub AreDueAround : ℕ → List Place → List Place → List Place → Place → Type 0
AreDueAround n stones late now s = (q : ℕ) → IsTrue (adjacent n (number_of n s) q) → IsDueNear n stones late now q

pub record StonesGathered (n : ℕ) (stones late points old left now : List Place) : Type 0 where
  pub kept : (x : Place) → IsTrue (holds_place old x) → IsTrue (holds_place now x)
  pub looked : AllBut (AreDueAround n stones late now) points left
  pub most : (x : Place) → IsTrue (holds_place now x) → IsTrue (holds_place old x) ⊎ IsTrue (holds_place stones x)

module _ (n : ℕ) (stones late points old : List Place) where
  pub near_first : (left : List Place) → left ≡ points → StonesGathered n stones late points old left old
  near_first left e = record { kept = λ x held. held; looked = but_first (AreDueAround n stones late old) points left e; most = λ x held. inl held }

  pub near_item : (left rest : List Place) (s : Place) → left ≡ s ∷ rest → (now : List Place) → StonesGathered n stones late points old left now → IsTrue (holds_place points s)
  near_item left rest s e now h = but_item (AreDueAround n stones late now) points left rest s e h.looked

  pub near_more : (left rest : List Place) (s : Place) → left ≡ s ∷ rest → (before now : List Place) → HasStonesAround n stones late (number_of n s) before now
      → StonesGathered n stones late points old left before → StonesGathered n stones late points old rest now
  near_more left rest s e before now has h = record {
    kept = λ x held. has.kept x (h.kept x held);
    looked = but_more (AreDueAround n stones late now) points left rest s e has.added
        (record {
          among = h.looked.among;
          passed = λ p held. elim (h.looked.passed p held) [ inl still ↦ inl still | inr done ↦ inr (λ q adj is. due_still (place_of n q) (done q adj is)) ];
        });
    most = λ x held. elim (has.most x held) [ inl had ↦ h.most x had | inr stone ↦ inr stone ];
  }
    where
      due_still : (y : Place) → IsTrue (is_due before late y) → IsTrue (is_due now late y)
      due_still y was = elim (or_cases (holds_place before y) (holds_place late y) was) [
        | inl first ↦ or_left (holds_place now y) (holds_place late y) (has.kept y first)
        | inr after ↦ or_right (holds_place now y) (holds_place late y) after
      ]

  pub near_all : (left now : List Place) → left ≡ [] → StonesGathered n stones late points old left now → HasStonesNear n stones late points old now
  near_all left now e h = record {
    kept = h.kept;
    added = λ q near held.
        but_none (AreDueAround n stones late now) points left e h.looked (place_of n near.0) near.2 q
        (subst (λ z. IsTrue (adjacent n z q)) (sym (number_back n near.0)) (adjacent_back n q near.0 near.1)) held;
    most = h.most;
  }

-- a point beside none of its kind is a chain
module _ (n : ℕ) (c : List Cell) (x : Place) (x_on : IsOn n x) (alone : (q : ℕ) → IsTrue (adjacent n (number_of n x) q) → cell_at c q ≢ cell_at c (number_of n x)) where
  only : (p : Place) → IsTrue (holds_place (x ∷ []) p) → p ≡ x
  only p held = elim (or_cases (same_place p x) false held) [ inl same ↦ (same_place_decides p x).0 same | inr none ↦ absurd (cc none) ]

  starts : (own : Cell) (p q : ℕ) (rs : List ℕ) → IsWay n c own p q rs → cell_at c p ≡ own
  starts own p q [] way = way.0
  starts own p q (r ∷ rs) way = way.0

  back : (q : ℕ) (rs : List ℕ) → IsWay n c (cell_at c (number_of n x)) (number_of n x) q rs → IsTrue (holds_place (x ∷ []) (place_of n q))
  back q [] way =
      let same : place_of n q ≡ x = ap (place_of n) (sym way.1) ∙ place_back n x x_on in
      or_left (same_place (place_of n q) x) false ((same_place_decides (place_of n q) x).1 same)
  back q (r ∷ rs) way = absurd (alone r way.1 (starts (cell_at c (number_of n x)) r q rs way.2))

  pub chain_alone : IsChainOf n c (number_of n x) (x ∷ [])
  chain_alone = record {
    joined = λ q low. (
      λ held. let same : number_of n x ≡ q = sym (ap (number_of n) (only (place_of n q) held)) ∙ number_back n q in subst (Joined n c (number_of n x)) same (joined_self n c (number_of n x)),
      λ j. back q j.0 j.1,
    );
    on_board = λ p held. subst (IsOn n) (sym (only p held)) x_on;
  }
