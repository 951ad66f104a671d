-- Where several areas serve together, all stones of the keeper's reach empty on the board.
use Rattle.safe_groups.proofs.Common.{sym, subst, refl, ◌≡◌, ◌≢◌, ◌∙◌, List, ℕ, zero, suc, ap, IsTrue, inl, inr, [], ◌∷◌, ◌*◌, ◌<◌, ◌⊎◌, arith, cell_at, IsPath, Reaches, Cell, Empty, Stone, Colour, IsWay, Fits, Leans, Areas, AreInOrder, area_at, Joined}
use Rattle.safe_groups.proofs.Fitting.{own_reaches}
use Rattle.safe_groups.proofs.Moving.{is_or_not}

-- a way, and then a path
pub along : (n : ℕ) (b : List Cell) (own : Cell) (p q : ℕ) (rs qs : List ℕ) → IsWay n b own p q rs → IsPath n b own Empty q qs → (us : List ℕ) × IsPath n b own Empty p us
along n b own p q [] qs way path = (qs, subst (λ r. IsPath n b own Empty r qs) (sym way.1) path)
along n b own p q (r ∷ rs) qs way path = let rest = along n b own r q rs qs way.2 path in (r ∷ rest.0, (way.0, way.1, rest.1))

module _ (n : ℕ) (k : Colour) (b c : List Cell) (mine : (p : ℕ) → cell_at c p ≡ Stone k → cell_at b p ≡ Stone k) where
  way_there : (p q : ℕ) (rs : List ℕ) → IsWay n c (Stone k) p q rs → IsWay n b (Stone k) p q rs
  way_there p q [] way = (mine p way.0, way.1)
  way_there p q (r ∷ rs) way = (mine p way.0, way.1, way_there r q rs way.2)

  -- a stone that is joined in the state to one that reaches empty on the board does so, too
  joined_reaches : (p q : ℕ) → cell_at c p ≡ Stone k → Joined n c p q → Reaches n b q Empty → Reaches n b p Empty
  joined_reaches p q is joined r =
      let way : IsWay n b (Stone k) p q joined.0 = way_there p q joined.0 (subst (λ x. IsWay n c x p q joined.0) is joined.1) in
      let there : cell_at b p ≡ Stone k = mine p is in
      let last : cell_at b q ≡ Stone k = ends p q joined.0 way in
      let path = along n b (Stone k) p q joined.0 r.1.0 way (subst (λ x. IsPath n b x Empty q r.1.0) last r.1.1) in
      ((λ e. cc (there, e)), (path.0, subst (λ x. IsPath n b x Empty p path.0) (sym there) path.1))
    where
      ends : (p q : ℕ) (rs : List ℕ) → IsWay n b (Stone k) p q rs → cell_at b q ≡ Stone k
      ends p q [] way = sym (ap (cell_at b) way.1) ∙ way.0
      ends p q (r ∷ rs) way = ends r q rs way.2

-- The areas' states, of which that at the place l may have one more stone of the other side's.
module _ (n : ℕ) (k : Colour) (A : Areas) (order : AreInOrder A) (b : List Cell) (s : ℕ → List Cell) (fits : (i : ℕ) → i < A.count → Fits (area_at n k A i) b (s i))
    (kept : (i p : ℕ) → i < A.count → IsTrue (A.kept i p) → cell_at (s i) p ≡ Stone k) (stand : (i p : ℕ) → i < A.count → cell_at (s i) p ≡ Stone k → Leans (area_at n k A i) (A.held i) (s i) p)
    (l : ℕ) (given : (i p : ℕ) → i < A.count → i ≢ l → IsTrue (A.gives i p) → Leans (area_at n k A i) (A.earlier i) (s i) p) where
  breathes_by : (i p q : ℕ) → i < A.count → cell_at (s i) p ≡ Stone k → Joined n (s i) p q → Reaches n b q Empty → Reaches n b p Empty
  breathes_by i p q within is joined r = joined_reaches n k b (s i) (fits i within).has_own p q is joined r

  breathes_here : (i p : ℕ) → i < A.count → cell_at (s i) p ≡ Stone k → Reaches n (s i) p Empty → Reaches n b p Empty
  breathes_here i p within is r = own_reaches (area_at n k A i) b (s i) (fits i within) p is r

  -- the areas of one group, if those of all earlier groups breathe
  module _ (g : ℕ) (below : (i p : ℕ) → i < A.count → A.group i < g → cell_at (s i) p ≡ Stone k → Reaches n b p Empty) where
    early : (i q : ℕ) → i < A.count → A.group i < suc g → IsTrue (A.earlier i q) → Reaches n b q Empty
    early i q within low e =
        let found = order.earlier i q within e in
        below found.0 q found.1 (omega (arith, low, found.2)) (kept found.0 q found.1 found.3)

    gives_breathes : (j q : ℕ) → j < A.count → A.group j < suc g → j ≢ l → IsTrue (A.gives j q) → Reaches n b q Empty
    gives_breathes j q within low ne e =
        let is : cell_at (s j) q ≡ Stone k = kept j q within (order.given j q within e) in
        elim (given j q within ne e) [
          | inl r ↦ breathes_here j q within is r
          | inr lean ↦ breathes_by j q lean.0 within is lean.2 (early j lean.0 within low lean.1)
        ]

    -- the area in which the other side has moved, with its group
    moved_breathes : (j q : ℕ) → j < A.count → A.group j < suc g → j ≡ l → cell_at (s j) q ≡ Stone k → Reaches n b q Empty
    moved_breathes j q within low at is = elim (stand j q within is) [
      | inl r ↦ breathes_here j q within is r
      | inr lean ↦ breathes_by j q lean.0 within is lean.2 (elim (order.held j lean.0 within lean.1) [
        | inl e ↦ early j lean.0 within low e
        | inr other ↦ gives_breathes other.0 lean.0 other.1 (omega (arith, low, other.3)) (λ same. other.2 (same ∙ sym at)) other.4
      ])
    ]

    held_breathes : (i q : ℕ) → i < A.count → A.group i < suc g → IsTrue (A.held i q) → Reaches n b q Empty
    held_breathes i q within low e = elim (order.held i q within e) [
      | inl old ↦ early i q within low old
      | inr other ↦
          let j = other.0 in
          let lower : A.group j < suc g = omega (arith, low, other.3) in
          elim (is_or_not j l) [
            | inl at ↦ moved_breathes j q other.1 lower at (kept j q other.1 (order.given j q other.1 other.4))
            | inr ne ↦ gives_breathes j q other.1 lower ne other.4
          ]
    ]

    group_breathes : (i p : ℕ) → i < A.count → A.group i < suc g → cell_at (s i) p ≡ Stone k → Reaches n b p Empty
    group_breathes i p within low is = elim (stand i p within is) [
      | inl r ↦ breathes_here i p within is r
      | inr lean ↦ breathes_by i p lean.0 within is lean.2 (held_breathes i lean.0 within low lean.1)
    ]

  by_group : (g : ℕ) (i p : ℕ) → i < A.count → A.group i < g → cell_at (s i) p ≡ Stone k → Reaches n b p Empty
  by_group zero i p within low is = absurd (omega (arith, low))
  by_group (suc g) i p within low is = group_breathes g (by_group g) i p within low is

  pub all_breathe : (i p : ℕ) → i < A.count → cell_at (s i) p ≡ Stone k → Reaches n b p Empty
  all_breathe i p within is = by_group (suc (A.group i)) i p within (omega arith) is
