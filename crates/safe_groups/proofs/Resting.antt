-- A state in which nothing is to be answered stays one, whatever the other side plays.
use Rattle.safe_groups.proofs.Common.{sym, subst, refl, ◌≡◌, ◌≢◌, ◌∙◌, List, ℕ, ap, IsTrue, IsFalse, true, false, Bool, inl, inr, [], ◌∷◌, ◌*◌, ◌<◌, ◌≤◌, ◌⊎◌, ◌&&◌, cond, not, length, map, set, arith, nat_eq, eqb-true, same_cell, same_cell_eq, eq_same_cell, same_cells, same_cells_eq, and_left, and_right, and_both, length-map-range_with_len, opponent_of, cell_at, adjacent, adjacent_on_board, on_or_off, get_or_past, IsPath, Reaches, Cell, Empty, Stone, Colour, IsWay, Area, Points, States, own, theirs, is_outside, IsWalled, Rooted, clear_loose, after_other, Leans, IsAtRest, eq-eqb, get_or-map-range_with_len, same_cells_refl, joined_on, joined_beside, joined_holds, reaches_beside, Joined, IsEye, TwoEyes, IsResting, adjacent_back}
use Rattle.go_points.specs.Grid.{points}
use Rattle.safe_groups.proofs.Opening.{cell_cases, not_both, vanishes, clear_loose_at, length-clear_loose, stays_cases, vanishes_theirs, vanishes_stuck, vanishes_unrooted}
use Rattle.safe_groups.proofs.Fitting.{stone_on, was_there, own_stays, kept_at, walled_still, rooted_still}
use Rattle.safe_groups.proofs.Grounds.{same_by_points, at_rest_by}
use Rattle.safe_groups.proofs.Moving.{SameOwn, is_or_not, at_put, past_put, walled_put}

-- Another state of the area with the same stones of the keeper's, none of the other side's loose.
pub record IsLike (a : Area) (w c : List Cell) : Type 0 where
  pub walled : IsWalled a c
  pub same : SameOwn a w c
  pub clear : clear_loose a c ≡ c

-- the keeper's stones stay joined when the other side plays
module _ (a : Area) (c : List Cell) (x : ℕ) (free : cell_at c x ≡ Empty) where
  mine_still : (q : ℕ) → cell_at c q ≡ own a → cell_at (set c x (theirs a)) q ≡ own a
  mine_still q e = past_put c x q (theirs a) (λ at. cc (e, ap (cell_at c) at, free)) ∙ e

  way_still : (p q : ℕ) (rs : List ℕ) → IsWay a.size c (own a) p q rs → IsWay a.size (set c x (theirs a)) (own a) p q rs
  way_still p q [] way = (mine_still p way.0, way.1)
  way_still p q (r ∷ rs) way = (mine_still p way.0, way.1, way_still r q rs way.2)

  joined_still : (p q : ℕ) → cell_at c p ≡ own a → Joined a.size c p q → Joined a.size (set c x (theirs a)) p q
  joined_still p q is joined = (joined.0, subst (λ y. IsWay a.size (set c x (theirs a)) y p q joined.0) (sym (mine_still p is)) (way_still p q joined.0 (subst (λ y. IsWay a.size c y p q joined.0) is joined.1)))

module _ (a : Area) (w c : List Cell) (like : IsLike a w c) where
  joined_way : (p q : ℕ) (rs : List ℕ) → IsWay a.size w (own a) p q rs → IsWay a.size c (own a) p q rs
  joined_way p q [] way = (like.same.more p way.0, way.1)
  joined_way p q (r ∷ rs) way = (like.same.more p way.0, way.1, joined_way r q rs way.2)

  pub joined_there : (p q : ℕ) → cell_at c p ≡ own a → Joined a.size w p q → Joined a.size c p q
  joined_there p q is joined =
      let before : cell_at w p ≡ own a = like.same.back p is in
      (joined.0, subst (λ x. IsWay a.size c x p q joined.0) (sym is) (joined_way p q joined.0 (subst (λ x. IsWay a.size w x p q joined.0) before joined.1)))

  -- What an eye holds now.
  module _ (p : ℕ) (eye : Points) (is : IsEye a w p eye) where
    not_mine : (q : ℕ) → IsTrue (eye q) → cell_at c q ≢ own a
    not_mine q e mine = is.not_own q e (like.same.back q mine)

    -- a way of the other side's stones stays within it
    way_inside : (q r : ℕ) (rs : List ℕ) → IsTrue (eye q) → IsWay a.size c (theirs a) q r rs → IsTrue (eye r)
    way_inside q r [] e way = subst (λ s. IsTrue (eye s)) way.1 e
    way_inside q r (s ∷ rs) e way = elim (is.enclosed q s e way.1) [
      | inl next ↦ way_inside s r rs next way.2
      | inr mine ↦ absurd (not_both a (cell_at c s) (like.same.more s mine) (starts s r rs way.2))
    ]
      where
        starts : (s r : ℕ) (us : List ℕ) → IsWay a.size c (theirs a) s r us → cell_at c s ≡ theirs a
        starts s r [] way = way.0
        starts s r (u ∷ us) way = way.0

    -- and so does a path to an empty point
    path_inside : (q : ℕ) (qs : List ℕ) → IsTrue (eye q) → cell_at c q ≡ theirs a → IsPath a.size c (theirs a) Empty q qs → (e : ℕ) × IsTrue (eye e) × (cell_at c e ≡ Empty)
    path_inside q [] e there path = absurd (cc (there, path))
    path_inside q (r ∷ []) e there path = elim (is.enclosed q r e path.1) [
      | inl next ↦ (r, next, path.2)
      | inr mine ↦ absurd (cc (like.same.more r mine, path.2))
    ]
    path_inside q (r ∷ s ∷ rs) e there path = elim (is.enclosed q r e path.1) [
      | inl next ↦ path_inside r (s ∷ rs) next path.2.0 path.2
      | inr mine ↦ absurd (not_both a (cell_at c r) (like.same.more r mine) path.2.0)
    ]

    -- one of its points is empty, since otherwise its stones would be loose
    pub some_empty : (e : ℕ) × IsTrue (eye e) × (cell_at c e ≡ Empty)
    some_empty = let q = is.some.0 in let e = is.some.1 in elim (cell_cases a (cell_at c q)) [
      | inl free ↦ (q, e, free)
      | inr stone ↦ elim stone [
        | inl mine ↦ absurd (not_mine q e mine)
        | inr there ↦ held q e there (vanishes a c q) refl
      ]
    ]
      where
        held : (q : ℕ) → IsTrue (eye q) → cell_at c q ≡ theirs a → (v : Bool) → vanishes a c q ≡ v → (e : ℕ) × IsTrue (eye e) × (cell_at c e ≡ Empty)
        held q e there true v = absurd (cc (there, sym (ap (λ d. cell_at d q) like.clear) ∙ clear_loose_at a c q (is.on_board q e) ∙ ap (λ b. cond b Empty (cell_at c q)) v))
        held q e there false v = elim (stays_cases a c like.walled q (is.on_board q e) there v) [
          | inl root ↦ absurd (cc (root.1, is.inside root.0 (way_inside q root.0 root.2.0 e (subst (λ x. IsWay a.size c x q root.0 root.2.0) there root.2.1))))
          | inr reach ↦ path_inside q reach.1.0 e there (subst (λ x. IsPath a.size c x Empty q reach.1.0) there reach.1.1)
        ]

    -- so the chain reaches it
    pub eye_reached : cell_at c p ≡ own a → Reaches a.size c p Empty
    eye_reached mine =
        let found = some_empty in
        let near = is.beside found.0 found.1 in
        reaches_beside a.size c p near.0 found.0 (λ e. cc (mine, e)) (joined_there p near.0 mine near.2) (adjacent_back a.size found.0 near.0 near.1) found.2

    -- and still does if the other side plays elsewhere
    pub eye_left : (x : ℕ) → cell_at c x ≡ Empty → IsFalse (eye x) → cell_at c p ≡ own a → Reaches a.size (set c x (theirs a)) p Empty
    eye_left x free other mine =
        let found = some_empty in
        let near = is.beside found.0 found.1 in
        let there : cell_at (set c x (theirs a)) p ≡ own a = mine_still a c x free p mine in
        reaches_beside a.size (set c x (theirs a)) p near.0 found.0 (λ e. cc (there, e)) (joined_still a c x free p near.0 mine (joined_there p near.0 mine near.2)) (adjacent_back a.size found.0 near.0 near.1)
        (past_put c x found.0 (theirs a) (λ e. cc (found.1, ap eye e, other)) ∙ found.2)

-- What stays after the loose stones are taken off is not loose.
module _ (a : Area) (d : List Cell) (walled : IsWalled a d) where
  reached_still : (q : ℕ) (qs : List ℕ) → cell_at d q ≡ theirs a → q < a.size * a.size → IsPath a.size d (theirs a) Empty q qs → cell_at (clear_loose a d) q ≡ theirs a
  reached_still q qs is on path = clear_loose_at a d q on ∙ go (vanishes a d q) refl
    where
      go : (v : Bool) → vanishes a d q ≡ v → cond v Empty (cell_at d q) ≡ theirs a
      go true v = absurd (vanishes_stuck a d q on v ((λ e. cc (is, e)), (qs, subst (λ x. IsPath a.size d x Empty q qs) (sym is) path)))
      go false v = is

  path_still : (q : ℕ) (qs : List ℕ) → cell_at d q ≡ theirs a → IsPath a.size d (theirs a) Empty q qs → IsPath a.size (clear_loose a d) (theirs a) Empty q qs
  path_still q [] is path = absurd (cc (is, path))
  path_still q (r ∷ []) is path =
      let on = adjacent_on_board a.size q r path.1 in
      (reached_still q (r ∷ []) is on.0 path, path.1, kept_at a d walled r on.1 (λ e. cc (e, path.2)) ∙ path.2)
  path_still q (r ∷ s ∷ rs) is path =
      let on = adjacent_on_board a.size q r path.1 in
      (reached_still q (r ∷ s ∷ rs) is on.0 path, path.1, path_still r (s ∷ rs) path.2.0 path.2)

  stays_clear : (p : ℕ) → p < a.size * a.size → vanishes a (clear_loose a d) p ≡ false
  stays_clear p on = go (vanishes a (clear_loose a d) p) refl
    where
      go : (v : Bool) → vanishes a (clear_loose a d) p ≡ v → v ≡ false
      go false v = refl
      go true v =
          let there : cell_at (clear_loose a d) p ≡ theirs a = vanishes_theirs a (clear_loose a d) p on v in
          let before = was_there a d walled (opponent_of a.keeper) p there in
          absurd (elim (stays_cases a d walled p on before.0 before.1) [
            | inl root ↦ vanishes_unrooted a (clear_loose a d) p on v (rooted_still a d walled p on before.0 root)
            | inr reach ↦
                let path = path_still p reach.1.0 before.0 (subst (λ x. IsPath a.size d x Empty p reach.1.0) before.0 reach.1.1) in
                vanishes_stuck a (clear_loose a d) p on v ((λ e. cc (there, e)), (reach.1.0, subst (λ x. IsPath a.size (clear_loose a d) x Empty p reach.1.0) (sym there) path))
          ])

  pub clear_twice : clear_loose a (clear_loose a d) ≡ clear_loose a d
  clear_twice = same_by_points a.size (clear_loose a (clear_loose a d)) (clear_loose a d) (length-clear_loose a (clear_loose a d)) (length-clear_loose a d)
      (λ p on. clear_loose_at a (clear_loose a d) p on ∙ ap (λ b. cond b Empty (cell_at (clear_loose a d) p)) (stays_clear p on))

-- So whatever the other side plays, nothing is taken, and the state after it is like the first one.
module _ (a : Area) (w : List Cell) (rest : IsResting a w) (c : List Cell) (like : IsLike a w c) where
  leans_by_eye : (p : ℕ) (eye : Points) → IsEye a w p eye → (stones : Points) → cell_at c p ≡ own a → Leans a stones c p
  leans_by_eye p eye is stones mine = inl (eye_reached a w c like p eye is mine)

  pub rest_leans : (p : ℕ) → cell_at c p ≡ own a → Leans a a.held c p
  rest_leans p mine = elim (rest.own p (like.same.back p mine)) [
    | inl eyes ↦ inl (eye_reached a w c like p eyes.first eyes.is_first mine)
    | inr lean ↦ inr (lean.0, lean.1, joined_there a w c like p lean.0 mine lean.2)
  ]

  given_mine : (p : ℕ) → ((q : ℕ) → IsTrue (a.gives q) → IsTrue (a.kept q)) → IsTrue (a.gives p) → cell_at c p ≡ own a
  given_mine p kept e = like.walled.kept p (kept p e)

  rest_given : ((q : ℕ) → IsTrue (a.gives q) → IsTrue (a.kept q)) → (p : ℕ) → IsTrue (a.gives p) → Leans a a.earlier c p
  rest_given kept p e = elim (rest.given p e) [
    | inl one ↦ inl (eye_reached a w c like p one.0 one.1 (given_mine p kept e))
    | inr lean ↦ inr (lean.0, lean.1, joined_there a w c like p lean.0 (given_mine p kept e) lean.2)
  ]

  pub rests : ((q : ℕ) → IsTrue (a.gives q) → IsTrue (a.kept q)) → IsAtRest a c
  rests kept = at_rest_by a c like.walled rest_leans (rest_given kept) like.clear

  module _ (x : ℕ) (on : x < a.size * a.size) (free : cell_at c x ≡ Empty) where
    pub rest_untaken : (p : ℕ) → cell_at c p ≡ own a → Leans a a.held (set c x (theirs a)) p
    rest_untaken p mine = elim (rest.own p (like.same.back p mine)) [
      | inl eyes ↦ inl (go eyes (eyes.first x) refl)
      | inr lean ↦ inr (lean.0, lean.1, joined_still a c x free p lean.0 mine (joined_there a w c like p lean.0 mine lean.2))
    ]
      where
        go : (eyes : TwoEyes a w p) (b : Bool) → eyes.first x ≡ b → Reaches a.size (set c x (theirs a)) p Empty
        go eyes false e = eye_left a w c like p eyes.first eyes.is_first x free e mine
        go eyes true e = eye_left a w c like p eyes.second eyes.is_second x free (eyes.apart x e) mine

    pub like_after : IsLike a w (after_other a c x)
    like_after = record {
      walled = walled_still a put wall;
      same = record {
        more = λ p e. own_stays a put wall p (mine_still a c x free p (like.same.more p e));
        back = λ p e. like.same.back p (only p (was_there a put wall a.keeper p e).0);
      };
      clear = clear_twice a put wall;
    }
      where
        put : List Cell
        put = set c x (theirs a)

        wall : IsWalled a put
        wall = walled_put a c like.walled x on free (theirs a)

        only : (p : ℕ) → cell_at put p ≡ own a → cell_at c p ≡ own a
        only p e = elim (is_or_not p x) [
          | inl here ↦ absurd (not_both a (cell_at (set c x (theirs a)) p) e (ap (cell_at (set c x (theirs a))) here ∙ at_put a.size c x (theirs a) like.walled.full on))
          | inr ne ↦ sym (past_put c x p (theirs a) ne) ∙ e
        ]

-- The test by which such states are told.
abbrev bare_cell : Area → List Cell → ℕ → Cell
bare_cell a c p = cond (is_outside a p) (cell_at c p) (cond (same_cell (cell_at c p) (own a)) (own a) Empty)

abbrev bare : Area → List Cell → List Cell
bare a c = map (bare_cell a c) (points a.size)

bare_at : (a : Area) (c : List Cell) (p : ℕ) → p < a.size * a.size → cell_at (bare a c) p ≡ bare_cell a c p
bare_at a c p on = get_or-map-range_with_len (bare_cell a c) 0 (a.size * a.size) p p Empty on (omega (arith))

length-bare : (a : Area) (c : List Cell) → length (bare a c) ≡ a.size * a.size
length-bare a c = length-map-range_with_len (bare_cell a c) 0 (a.size * a.size)

abbrev pub is_like : Area → List Cell → List Cell → Bool
is_like a w c = nat_eq (length c) (a.size * a.size) && (same_cells (bare a c) (bare a w) && same_cells (clear_loose a c) c)

module _ (a : Area) (w : List Cell) (wall : IsWalled a w) where
  mine_bare : (x : Cell) (out : Bool) → cond out x (cond (same_cell x (own a)) (own a) Empty) ≡ own a → x ≡ own a
  mine_bare x true e = e
  mine_bare x false e = go (same_cell x (own a)) refl e
    where
      go : (b : Bool) → same_cell x (own a) ≡ b → cond b (own a) Empty ≡ own a → x ≡ own a
      go true is e2 = same_cell_eq x (own a) is
      go false is e2 = absurd (cc e2)

  bare_mine : (x : Cell) (out : Bool) → x ≡ own a → cond out x (cond (same_cell x (own a)) (own a) Empty) ≡ own a
  bare_mine x true e = e
  bare_mine x false e = ap (λ b. cond b (own a) Empty) (eq_same_cell x (own a) e)

  pub like_told : (c : List Cell) → is_like a w c ≡ true → IsLike a w c
  like_told c told = record {
    walled = record {
      full = full;
      kept = λ p is. more p (wall.kept p is);
      outside = λ p on out. sym (at_outside c p on out) ∙ ap (λ d. cell_at d p) same ∙ at_outside w p on out ∙ wall.outside p on out;
    };
    same = record { more = more; back = λ p e. shown w p (stone_on a.size c a.keeper p full e) (sym (ap (λ d. cell_at d p) same) ∙ hidden c p (stone_on a.size c a.keeper p full e) e) };
    clear = same_cells_eq (clear_loose a c) c (and_right (same_cells (bare a c) (bare a w)) (same_cells (clear_loose a c) c) (and_right (nat_eq (length c) (a.size * a.size)) (same_cells (bare a c) (bare a w) && same_cells (clear_loose a c) c) told));
  }
    where
      full : length c ≡ a.size * a.size
      full = eqb-true (length c) (a.size * a.size) (and_left (nat_eq (length c) (a.size * a.size)) (same_cells (bare a c) (bare a w) && same_cells (clear_loose a c) c) told)

      same : bare a c ≡ bare a w
      same = same_cells_eq (bare a c) (bare a w) (and_left (same_cells (bare a c) (bare a w)) (same_cells (clear_loose a c) c) (and_right (nat_eq (length c) (a.size * a.size)) (same_cells (bare a c) (bare a w) && same_cells (clear_loose a c) c) told))

      at_outside : (d : List Cell) (p : ℕ) → p < a.size * a.size → is_outside a p ≡ true → cell_at (bare a d) p ≡ cell_at d p
      at_outside d p on out = bare_at a d p on ∙ ap (λ b. cond b (cell_at d p) (cond (same_cell (cell_at d p) (own a)) (own a) Empty)) out

      hidden : (d : List Cell) (p : ℕ) → p < a.size * a.size → cell_at d p ≡ own a → cell_at (bare a d) p ≡ own a
      hidden d p on e = bare_at a d p on ∙ bare_mine (cell_at d p) (is_outside a p) e

      shown : (d : List Cell) (p : ℕ) → p < a.size * a.size → cell_at (bare a d) p ≡ own a → cell_at d p ≡ own a
      shown d p on e = mine_bare (cell_at d p) (is_outside a p) (sym (bare_at a d p on) ∙ e)

      more : (p : ℕ) → cell_at w p ≡ own a → cell_at c p ≡ own a
      more p e = let on = stone_on a.size w a.keeper p wall.full e in shown c p on (ap (λ d. cell_at d p) same ∙ hidden w p on e)

  pub like_tells : (c : List Cell) → IsLike a w c → is_like a w c ≡ true
  like_tells c like = and_both _ _ (eq-eqb (length c) (a.size * a.size) like.walled.full) (and_both _ _ (ap (same_cells (bare a c)) (sym same) ∙ same_cells_refl (bare a c)) (ap (same_cells (clear_loose a c)) (sym like.clear) ∙ same_cells_refl (clear_loose a c)))
    where
      each : (p : ℕ) → (b : Bool) → is_outside a p ≡ b → p < a.size * a.size → cond b (cell_at c p) (cond (same_cell (cell_at c p) (own a)) (own a) Empty) ≡ cond b (cell_at w p) (cond (same_cell (cell_at w p) (own a)) (own a) Empty)
      each p true out on = like.walled.outside p on out ∙ sym (wall.outside p on out)
      each p false out on = ap (λ v. cond v (own a) Empty) (agree (same_cell (cell_at c p) (own a)) (same_cell (cell_at w p) (own a)) refl refl)
        where
          agree : (u v : Bool) → same_cell (cell_at c p) (own a) ≡ u → same_cell (cell_at w p) (own a) ≡ v → u ≡ v
          agree true true e f = refl
          agree false false e f = refl
          agree true false e f = absurd (cc (sym (eq_same_cell (cell_at w p) (own a) (like.same.back p (same_cell_eq (cell_at c p) (own a) e))) ∙ f))
          agree false true e f = absurd (cc (sym (eq_same_cell (cell_at c p) (own a) (like.same.more p (same_cell_eq (cell_at w p) (own a) f))) ∙ e))

      same : bare a c ≡ bare a w
      same = same_by_points a.size (bare a c) (bare a w) (length-bare a c) (length-bare a w) (λ p on. bare_at a c p on ∙ each p (is_outside a p) refl on ∙ sym (bare_at a w p on))

pub like_self : (a : Area) (w : List Cell) → IsResting a w → IsLike a w w
like_self a w rest = record { walled = rest.walled; same = record { more = λ p e. e; back = λ p e. e }; clear = rest.clear }
