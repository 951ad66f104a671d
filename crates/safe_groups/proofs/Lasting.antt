-- Whether stones keep a liberty when one more is put down, by those beside it.
use Rattle.safe_groups.proofs.Common.{sym, subst, refl, ◌≡◌, ◌≢◌, ◌∙◌, List, ℕ, ap, IsTrue, true, false, Bool, inl, inr, [], ◌∷◌, ◌*◌, ◌<◌, ◌≤◌, ◌⊎◌, ◌&&◌, cond, not, length, arith, get_or_past, eq_same_cell, adjacent_on_board, on_or_off, reaches_path, clear, cell_at, same_cell, adjacent, opponent_of, reaches, IsPath, Reaches, Cell, Empty, Stone, joined_self, IsWay, Area, own, theirs, is_outside, IsWalled, opened, clear_loose, joined_on, joined_beside, joined_holds, Leans, Joined, length-clear, IsAtRest, set, after_other, after_answer, adjacent_back, Lasts, LastBeside}
use Rattle.go_points.proofs.Clearing.{reaching_kept}
use Rattle.safe_groups.proofs.Moving.{is_or_not, at_put, past_put, full_put}
use Rattle.safe_groups.proofs.Opening.{not_both, opened_at, inside_at, empty_at, vanishes, cleared_at, outside_spared, length-clear_loose, clear_loose_at, way_open, path_open, theirs_inside, vanishes_theirs, vanishes_unrooted, vanishes_stuck}
use Rattle.safe_groups.proofs.Grounds.{length-opened, same_by_points}
use Rattle.safe_groups.proofs.Reaching.{along}

-- Two colourings that differ at one point alone, which is empty in the first.
module _ (n : ℕ) (c d : List Cell) (x : ℕ) (free : cell_at c x ≡ Empty) (same : (p : ℕ) → p ≢ x → cell_at d p ≡ cell_at c p) where
  pub kept_at : (p : ℕ) (k : Cell) → k ≢ Empty → cell_at c p ≡ k → cell_at d p ≡ k
  kept_at p k some is = same p (λ here. some (sym is ∙ ap (cell_at c) here ∙ free)) ∙ is

  way_kept : (k : Cell) → k ≢ Empty → (p q : ℕ) (rs : List ℕ) → IsWay n c k p q rs → IsWay n d k p q rs
  way_kept k some p q [] w = (kept_at p k some w.0, w.1)
  way_kept k some p q (r ∷ rs) w = (kept_at p k some w.0, w.1, way_kept k some r q rs w.2)

  pub joined_kept : (p q : ℕ) → cell_at c p ≢ Empty → Joined n c p q → Joined n d p q
  joined_kept p q some joined = (joined.0, subst (λ z. IsWay n d z p q joined.0) (sym (kept_at p (cell_at c p) some refl)) (way_kept (cell_at c p) some p q joined.0 joined.1))

  -- a way to a point beside x
  record Meets (k : Cell) (p : ℕ) : Type 0 where
    at : ℕ
    beside : IsTrue (adjacent n at x)
    points : List ℕ
    way : IsWay n d k p at points

  path_kept : (k : Cell) → k ≢ Empty → (p : ℕ) (qs : List ℕ) → cell_at c p ≡ k → IsPath n c k Empty p qs → ((us : List ℕ) × IsPath n d k Empty p us) ⊎ Meets k p
  path_kept k some p [] is path = absurd (some (sym is ∙ path))
  path_kept k some p (q ∷ []) is path = elim (is_or_not q x) [
    | inl here ↦ inr (record { at = p; beside = subst (λ z. IsTrue (adjacent n p z)) here path.1; points = []; way = (kept_at p k some is, refl) })
    | inr ne ↦ inl (q ∷ [], (kept_at p k some is, path.1, same q ne ∙ path.2))
  ]
  path_kept k some p (q ∷ r ∷ rs) is path = elim (path_kept k some q (r ∷ rs) path.2.0 path.2) [
    | inl found ↦ inl (q ∷ found.0, (kept_at p k some is, path.1, found.1))
    | inr meets ↦ inr (record { at = meets.at; beside = meets.beside; points = q ∷ meets.points; way = (kept_at p k some is, path.1, meets.way) })
  ]

  -- what reaches empty still does, or is joined to a point beside x
  pub reaches_kept : (p : ℕ) → Reaches n c p Empty → Reaches n d p Empty ⊎ ((q : ℕ) × IsTrue (adjacent n q x) × Joined n d p q)
  reaches_kept p r =
      let here : cell_at d p ≡ cell_at c p = kept_at p (cell_at c p) r.0 refl in
      elim (path_kept (cell_at c p) r.0 p r.1.0 refl r.1.1) [
        | inl found ↦ inl ((λ e. r.0 (sym here ∙ e)), (found.0, subst (λ z. IsPath n d z Empty p found.0) (sym here) found.1))
        | inr meets ↦ inr (meets.at, meets.beside, (meets.points, subst (λ z. IsWay n d z p meets.at meets.points) (sym here) meets.way))
      ]

-- a stone that is joined to one that reaches empty does
joined_reaches : (n : ℕ) (c : List Cell) (p q : ℕ) → Joined n c p q → Reaches n c q Empty → Reaches n c p Empty
joined_reaches n c p q joined r =
    let last : cell_at c q ≡ cell_at c p = joined_holds n c p q joined in
    let path = along n c (cell_at c p) p q joined.0 r.1.0 joined.1 (subst (λ z. IsPath n c z Empty q r.1.0) last r.1.1) in
    ((λ e. r.0 (last ∙ e)), (path.0, path.1))

pub lasts_on : (a : Area) (c : List Cell) (p q : ℕ) → Joined a.size c p q → Lasts a c q → Lasts a c p
lasts_on a c p q joined (inl r) = inl (joined_reaches a.size c p q joined r)
lasts_on a c p q joined (inr found) = inr (found.0, found.1, joined_on a.size c p q found.0 joined found.2)

-- one of the keeper's that lasts leans on held stones
leans_so : (a : Area) (c : List Cell) (p : ℕ) → cell_at c p ≡ own a → Lasts a c p → Leans a a.held c p
leans_so a c p is (inl r) = inl r
leans_so a c p is (inr found) = inr (found.0, found.1.own (joined_holds a.size c p found.0 found.2 ∙ is), found.2)

-- a stone that is not captured reaches empty
reaches_by : (u v : Bool) → u ≡ true → (u && not v) ≡ false → v ≡ true
reaches_by true true e h = refl
reaches_by true false e h = absurd (cc h)
reaches_by false v e h = absurd (cc e)

module _ (a : Area) (c d : List Cell) (x : ℕ) (free : cell_at c x ≡ Empty) (same : (p : ℕ) → p ≢ x → cell_at d p ≡ cell_at c p) where
  -- no stone of the keeper's is taken if those beside x last
  pub untaken_beside : LastBeside a d x (own a) → ((p : ℕ) → cell_at c p ≡ own a → Leans a a.held c p) → (p : ℕ) → cell_at c p ≡ own a → Leans a a.held d p
  untaken_beside beside stand p is =
      let there : cell_at d p ≡ own a = kept_at a.size c d x free same p (own a) (λ e. cc e) is in
      elim (stand p is) [
        | inl r ↦ elim (reaches_kept a.size c d x free same p r) [
          | inl still ↦ inl still
          | inr meets ↦ leans_so a d p there (lasts_on a d p meets.0 meets.2 (beside meets.0 (adjacent_back a.size meets.0 x meets.1) (joined_holds a.size d p meets.0 meets.2 ∙ there)))
        ]
        | inr held ↦ inr (held.0, held.1, joined_kept a.size c d x free same p held.0 (λ e. cc (is, e)) held.2)
      ]

  -- with nothing outside
  opened_same : (p : ℕ) → p ≢ x → cell_at (opened a d) p ≡ cell_at (opened a c) p
  opened_same p ne = elim (on_or_off a.size p) [
    | inl on ↦ opened_at a d p on ∙ ap (cond (is_outside a p) Empty) (same p ne) ∙ sym (opened_at a c p on)
    | inr past ↦ get_or_past (opened a d) p Empty (omega (arith, length-opened a d, past)) ∙ sym (get_or_past (opened a c) p Empty (omega (arith, length-opened a c, past)))
  ]

  opened_free : cell_at (opened a c) x ≡ Empty
  opened_free = elim (on_or_off a.size x) [
    | inl on ↦ empty_at a c x on free
    | inr past ↦ get_or_past (opened a c) x Empty (omega (arith, length-opened a c, past))
  ]

  open_theirs : (q : ℕ) → q < a.size * a.size → cell_at (opened a d) q ≡ theirs a → (is_outside a q ≡ false) × (cell_at d q ≡ theirs a)
  open_theirs q on e = go (is_outside a q) refl
    where
      go : (b : Bool) → is_outside a q ≡ b → (is_outside a q ≡ false) × (cell_at d q ≡ theirs a)
      go true out = absurd (cc (opened_at a d q on ∙ ap (λ b. cond b Empty (cell_at d q)) out, e))
      go false within = (within, sym (inside_at a d q on within) ∙ e)

  lasts_open : (q : ℕ) → q < a.size * a.size → is_outside a q ≡ false → cell_at d q ≡ theirs a → Lasts a d q → Reaches a.size (opened a d) q Empty
  lasts_open q on within is lasts =
      let there : cell_at (opened a d) q ≡ theirs a = inside_at a d q on within ∙ is in
      let path : (us : List ℕ) × IsPath a.size (opened a d) (theirs a) Empty q us = found lasts in
      ((λ e. cc (there, e)), (path.0, subst (λ z. IsPath a.size (opened a d) z Empty q path.0) (sym there) path.1))
    where
      found : Lasts a d q → (us : List ℕ) × IsPath a.size (opened a d) (theirs a) Empty q us
      found (inl r) = path_open a d q r.1.0 within is (subst (λ z. IsPath a.size d z Empty q r.1.0) is r.1.1)
      found (inr f) = way_open a d q f.0 f.2.0 within (f.1.theirs (joined_holds a.size d q f.0 f.2 ∙ is)) (subst (λ z. IsWay a.size d z q f.0 f.2.0) is f.2.1)

  -- what does not vanish does not when x is played, if those beside x last
  stays : LastBeside a d x (theirs a) → (p : ℕ) → p < a.size * a.size → p ≢ x → vanishes a c p ≡ false → vanishes a d p ≡ true → ⊥
  unfolding vanishes
  stays beside p on ne was now =
      let gone = theirs_inside a d p on now in
      let there : cell_at (opened a d) p ≡ theirs a = inside_at a d p on gone.0 ∙ gone.1 in
      let before : cell_at (opened a c) p ≡ theirs a = sym (opened_same p ne) ∙ there in
      let reach : Reaches a.size (opened a c) p Empty = (reaches_path a.size (opened a c) p Empty).0 (reaches_by (same_cell (cell_at (opened a c) p) (theirs a)) (reaches a.size (opened a c) p Empty) (eq_same_cell _ _ before) was) in
      elim (reaches_kept a.size (opened a c) (opened a d) x opened_free opened_same p reach) [
        | inl r ↦ cc ((reaches_path a.size (opened a d) p Empty).1 r, gone.2)
        | inr meets ↦
            let q = meets.0 in
            let at = adjacent_on_board a.size q x meets.1 in
            let within = open_theirs q at.0 (joined_holds a.size (opened a d) p q meets.2 ∙ there) in
            let r = lasts_open q at.0 within.0 within.1 (beside q (adjacent_back a.size q x meets.1) within.1) in
            cc ((reaches_path a.size (opened a d) p Empty).1 (joined_reaches a.size (opened a d) p q meets.2 r), gone.2)
      ]

  module _ (clear_c : clear_loose a c ≡ c) where
    none_vanishes : (p : ℕ) → p < a.size * a.size → vanishes a c p ≡ false
    none_vanishes p on = go (vanishes a c p) refl
      where
        go : (b : Bool) → vanishes a c p ≡ b → b ≡ false
        go true e = absurd (cc (sym (clear_loose_at a c p on ∙ ap (λ b. cond b Empty (cell_at c p)) e) ∙ ap (λ l. cell_at l p) clear_c, vanishes_theirs a c p on e))
        go false e = refl

    -- no stone of the other side's is loose after the move at x, if those beside it last, and x does
    pub clear_beside : length d ≡ a.size * a.size → LastBeside a d x (theirs a) → (cell_at d x ≡ theirs a → Lasts a d x) → clear_loose a d ≡ d
    clear_beside full beside here = same_by_points a.size (clear_loose a d) d (length-clear_loose a d) full (λ p on. clear_loose_at a d p on ∙ each p on (vanishes a d p) refl)
      where
        each : (p : ℕ) → p < a.size * a.size → (b : Bool) → vanishes a d p ≡ b → cond b Empty (cell_at d p) ≡ cell_at d p
        each p on false e = refl
        each p on true e = absurd (elim (is_or_not p x) [
          | inr ne ↦ stays beside p on ne (none_vanishes p on) e
          | inl at ↦
              let gone = theirs_inside a d p on e in
              let last : Lasts a d p = subst (Lasts a d) (sym at) (here (sym (ap (cell_at d) at) ∙ gone.1)) in
              cc ((reaches_path a.size (opened a d) p Empty).1 (lasts_open p on gone.0 gone.1 last), gone.2)
        ])

    -- so it is after a move of the other side's that lasts
    pub clear_lasting : length d ≡ a.size * a.size → cell_at d x ≡ theirs a → Lasts a d x → clear_loose a d ≡ d
    clear_lasting full there last = clear_beside full (λ q adj is. lasts_on a d q x (joined_beside a.size d q q x (joined_self a.size d q) (adjacent_back a.size x q adj) (there ∙ sym is)) last) (λ e. last)

    -- a single stone between the keeper's goes again
    pub single_goes : IsWalled a c → x < a.size * a.size → cell_at d x ≡ theirs a → ((q : ℕ) → IsTrue (adjacent a.size x q) → cell_at c q ≡ own a) → clear_loose a d ≡ c
    unfolding vanishes
    single_goes walled at there round = same_by_points a.size (clear_loose a d) c (length-clear_loose a d) walled.full (λ p on. clear_loose_at a d p on ∙ each p on)
      where
        beside_x : (q : ℕ) → IsTrue (adjacent a.size x q) → cell_at d q ≡ own a
        beside_x q adj = kept_at a.size c d x free same q (own a) (λ e. cc e) (round q adj)

        -- what is not the other side's is not outside
        inside_own : (q : ℕ) → q < a.size * a.size → (cell_at c q ≡ theirs a → ⊥) → is_outside a q ≡ false
        inside_own q on other = go (is_outside a q) refl
          where
            go : (b : Bool) → is_outside a q ≡ b → b ≡ false
            go true e = absurd (other (walled.outside q on e))
            go false e = refl

        stuck : (b : Bool) → reaches a.size (opened a d) x Empty ≡ b → b ≡ false
        stuck false e = refl
        stuck true e =
            let r = (reaches_path a.size (opened a d) x Empty).0 e in
            absurd (no_path r.1.0 r.0 r.1.1)
          where
            held_at : (q : ℕ) → IsTrue (adjacent a.size x q) → cell_at (opened a d) q ≡ own a
            held_at q adj =
                let on = (adjacent_on_board a.size x q adj).1 in
                inside_at a d q on (inside_own q on (λ e. not_both a (cell_at c q) (round q adj) e)) ∙ beside_x q adj

            no_path : (qs : List ℕ) → cell_at (opened a d) x ≢ Empty → IsPath a.size (opened a d) (cell_at (opened a d) x) Empty x qs → ⊥
            no_path [] some path = some path
            no_path (q ∷ []) some path = cc (held_at q path.1, path.2)
            no_path (q ∷ r ∷ rs) some path = not_both a (cell_at (opened a d) q) (held_at q path.1) (path.2.0 ∙ inside_at a d x at (inside_own x at (λ e. cc (free, e))) ∙ there)

        goes : vanishes a d x ≡ true
        goes = both (same_cell (cell_at (opened a d) x) (theirs a)) (reaches a.size (opened a d) x Empty) (eq_same_cell _ _ (inside_at a d x at (inside_own x at (λ e. cc (free, e))) ∙ there)) (stuck (reaches a.size (opened a d) x Empty) refl)
          where
            both : (u v : Bool) → u ≡ true → v ≡ false → (u && not v) ≡ true
            both true false e f = refl
            both true true e f = absurd (cc f)
            both false v e f = absurd (cc e)

        each : (p : ℕ) → p < a.size * a.size → cond (vanishes a d p) Empty (cell_at d p) ≡ cell_at c p
        each p on = elim (is_or_not p x) [
          | inl here ↦ ap (λ q. cond (vanishes a d q) Empty (cell_at d q)) here ∙ ap (λ b. cond b Empty (cell_at d x)) goes ∙ sym free ∙ ap (cell_at c) (sym here)
          | inr ne ↦ go (vanishes a d p) refl ne ∙ same p ne
        ]
          where
            go : (b : Bool) → vanishes a d p ≡ b → p ≢ x → cond b Empty (cell_at d p) ≡ cell_at d p
            go false e ne = refl
            go true e ne = absurd (stays (λ q adj is. absurd (not_both a (cell_at d q) (beside_x q adj) is)) p on ne (none_vanishes p on) e)

-- what is left when loose stones go has none
module _ (a : Area) (c e : List Cell) (is : e ≡ clear_loose a c) where
  cell_left : (p : ℕ) → p < a.size * a.size → cell_at e p ≡ cond (vanishes a c p) Empty (cell_at c p)
  cell_left p on = ap (λ l. cell_at l p) is ∙ clear_loose_at a c p on

  opened_left : opened a e ≡ clear a.size (opened a c) (opponent_of a.keeper)
  opened_left = same_by_points a.size (opened a e) (clear a.size (opened a c) (opponent_of a.keeper)) (length-opened a e) (length-clear a.size (opened a c) (opponent_of a.keeper)) (λ p on. opened_at a e p on ∙ ap (cond (is_outside a p) Empty) (cell_left p on) ∙ go p on (is_outside a p) refl ∙ sym (cleared_at a c p on))
    where
      go : (p : ℕ) → p < a.size * a.size → (b : Bool) → is_outside a p ≡ b → cond b Empty (cond (vanishes a c p) Empty (cell_at c p)) ≡ cond (vanishes a c p) Empty (cell_at (opened a c) p)
      go p on true out = sym (ap (λ b. cond b Empty (cell_at (opened a c) p)) (outside_spared a c p on out) ∙ opened_at a c p on ∙ ap (λ b. cond b Empty (cell_at c p)) out)
      go p on false within = ap (cond (vanishes a c p) Empty) (sym (inside_at a c p on within))

  unvanished : (p : ℕ) → p < a.size * a.size → cell_at e p ≡ theirs a → (b : Bool) → vanishes a c p ≡ b → (vanishes a c p ≡ false) × (cell_at c p ≡ theirs a)
  unvanished p on there true f = absurd (cc (cell_left p on ∙ ap (λ b. cond b Empty (cell_at c p)) f, there))
  unvanished p on there false f = (f, sym (cell_left p on ∙ ap (λ b. cond b Empty (cell_at c p)) f) ∙ there)

  stays_left : (p : ℕ) → p < a.size * a.size → vanishes a e p ≡ true → ⊥
  unfolding vanishes
  stays_left p on f =
      let gone = theirs_inside a e p on f in
      let was = unvanished p on gone.1 (vanishes a c p) refl in
      let there : cell_at (opened a c) p ≡ theirs a = inside_at a c p on gone.0 ∙ was.1 in
      let reach : Reaches a.size (opened a c) p Empty = (reaches_path a.size (opened a c) p Empty).0 (reaches_by (same_cell (cell_at (opened a c) p) (theirs a)) (reaches a.size (opened a c) p Empty) (eq_same_cell _ _ there) was.0) in
      let kept : Reaches a.size (opened a e) p Empty = subst (λ l. Reaches a.size l p Empty) (sym opened_left) (reaching_kept a.size (opened a c) (opponent_of a.keeper) p reach) in
      cc ((reaches_path a.size (opened a e) p Empty).1 kept, gone.2)

  pub clear_again : clear_loose a e ≡ e
  clear_again = same_by_points a.size (clear_loose a e) e (length-clear_loose a e) (ap length is ∙ length-clear_loose a c) (λ p on. clear_loose_at a e p on ∙ go p on (vanishes a e p) refl)
    where
      go : (p : ℕ) → p < a.size * a.size → (b : Bool) → vanishes a e p ≡ b → cond b Empty (cell_at e p) ≡ cell_at e p
      go p on false f = refl
      go p on true f = absurd (stays_left p on f)

-- a state at rest has no loose stones
pub rest_clear : (a : Area) (c : List Cell) → IsWalled a c → IsAtRest a c → clear_loose a c ≡ c
rest_clear a c walled rest = same_by_points a.size (clear_loose a c) c (length-clear_loose a c) walled.full (λ p on. clear_loose_at a c p on ∙ go p on (vanishes a c p) refl)
  where
    go : (p : ℕ) → p < a.size * a.size → (b : Bool) → vanishes a c p ≡ b → cond b Empty (cell_at c p) ≡ cell_at c p
    go p on false e = refl
    go p on true e = absurd (vanishes_stuck a c p on e (rest.theirs p (vanishes_theirs a c p on e) (λ root. vanishes_unrooted a c p on e root)))

-- A state at rest, in which the other side plays.
module _ (a : Area) (c placed : List Cell) (x : ℕ) (walled : IsWalled a c) (rest : IsAtRest a c) (on : x < a.size * a.size) (free : cell_at c x ≡ Empty) (is : placed ≡ set c x (theirs a)) where
  same : (p : ℕ) → p ≢ x → cell_at placed p ≡ cell_at c p
  same p ne = ap (λ d. cell_at d p) is ∙ past_put c x p (theirs a) ne

  there : cell_at placed x ≡ theirs a
  there = ap (λ d. cell_at d x) is ∙ at_put a.size c x (theirs a) walled.full on

  pub keeps : LastBeside a placed x (own a) → (p : ℕ) → cell_at c p ≡ own a → Leans a a.held (set c x (theirs a)) p
  keeps beside p e = subst (λ d. Leans a a.held d p) is (untaken_beside a c placed x free same beside rest.own p e)

  pub lasting_clear : Lasts a placed x → clear_loose a placed ≡ placed
  lasting_clear last = clear_lasting a c placed x free same (rest_clear a c walled rest) (ap length is ∙ full_put a.size c x (theirs a) walled.full) there last

  pub lasting_left : Lasts a placed x → after_other a c x ≡ placed
  lasting_left last = ap (clear_loose a) (sym is) ∙ lasting_clear last

  pub goes_again : ((q : ℕ) → IsTrue (adjacent a.size x q) → cell_at c q ≡ own a) → after_other a c x ≡ c
  goes_again round = ap (clear_loose a) (sym is) ∙ single_goes a c placed x free same (rest_clear a c walled rest) walled on there round

  pub loose_left : (left : List Cell) → left ≡ clear_loose a placed → after_other a c x ≡ left
  loose_left left made = ap (clear_loose a) (sym is) ∙ sym made

-- the keeper's answer takes nothing, if the stones of the other side's beside it last
pub answer_clear : (a : Area) (c placed : List Cell) (x : ℕ) → length c ≡ a.size * a.size → x < a.size * a.size → clear_loose a c ≡ c → cell_at c x ≡ Empty → placed ≡ set c x (own a) → LastBeside a placed x (theirs a) → placed ≡ after_answer a c x
answer_clear a c placed x full on clear free is beside = sym (ap (clear_loose a) (sym is) ∙ clear_beside a c placed x free same clear (ap length is ∙ full_put a.size c x (own a) full) beside (λ e. absurd (not_both a (cell_at placed x) there e)))
  where
    same : (p : ℕ) → p ≢ x → cell_at placed p ≡ cell_at c p
    same p ne = ap (λ d. cell_at d p) is ∙ past_put c x p (own a) ne

    there : cell_at placed x ≡ own a
    there = ap (λ d. cell_at d x) is ∙ at_put a.size c x (own a) full on
