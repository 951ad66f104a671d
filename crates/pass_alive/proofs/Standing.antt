-- What stones that live by their shape keep, whatever the attacker plays.
use Rattle.pass_alive.proofs.Common.{◌≡◌, ◌≢◌, ℕ, ◌*◌, ◌<◌, ◌≤◌, ◌⊎◌, inl, inr, IsTrue, List, [], ◌∷◌, length, set, refl, sym, ◌∙◌, ap, subst, arith, get_or_past, get_or-set_same, get_or-set_other, length-set, Cell, Empty, Stone, opponent_of, cell_at, IsPath, Reaches, clear, after_move, adjacent_back, IsWay, Joined, joined_holds, joined_self, joined_back, joined_on, joined_beside, Game, holds_point, Points, Fixed, IsBeside, TwoEyes, Live, Stands, MayMove}
use Rattle.std.proofs.lemmas.Bool.{cases_lt}
use Rattle.go_points.proofs.Cells.{opponent_twice, opponent_ne}
use Rattle.go_points.proofs.Clearing.{empty_stays, stone_before, reaching_stays, reaching_kept, on_board_of, EveryStoneReaches, after_move_reaches, one_or_other}
use Rattle.go_chains.proofs.Joins.{reaches_beside}
use Rattle.pass_alive.specs.Life.{EyeSpace}
use Rattle.go_chains.proofs.CutPoints.{way_first}

-- once a stone is put down at p, each point holds what it held, or that stone
pub put_down : (d : List Cell) (p q : ℕ) (x : Cell) → (cell_at (set d p x) q ≡ cell_at d q) ⊎ (cell_at (set d p x) q ≡ x)
put_down d p q x =
    let split : (q ≡ p) ⊎ (q ≢ p) = grind arith in
    elim split [
      | inl here ↦ at_p here (cases_lt p (length d))
      | inr ne ↦ inl (get_or-set_other d p q x Empty ne)
    ]
  where
    at_p : q ≡ p → (p < length d) ⊎ (length d ≤ p) → (cell_at (set d p x) q ≡ cell_at d q) ⊎ (cell_at (set d p x) q ≡ x)
    at_p here (inl low) = inr (ap (cell_at (set d p x)) here ∙ get_or-set_same d p x Empty low)
    at_p here (inr past) = inl (get_or_past (set d p x) q Empty (omega (arith, here, past, length-set d p x)) ∙ sym (get_or_past d q Empty (omega (arith, here, past))))

path_first : (n : ℕ) (c : List Cell) (own end : Cell) (p : ℕ) (qs : List ℕ) → IsPath n c own end p qs → (cell_at c p ≡ own) ⊎ (cell_at c p ≡ end)
path_first n c own end p [] path = inr path
path_first n c own end p (q ∷ qs) path = inl path.0

-- the attacker's stone at p, and the colouring after it
abbrev pub put : Game → List Cell → ℕ → List Cell
put g d p = set d p (Stone (opponent_of g.defender))

abbrev pub after : Game → List Cell → ℕ → List Cell
after g d p = clear g.size (clear g.size (put g d p) g.defender) (opponent_of g.defender)

pub after_is : (g : Game) (d : List Cell) (p : ℕ) → after_move g.size d (opponent_of g.defender) p ≡ after g d p
unfolding after_move
after_is g d p = ap (λ k. clear g.size (clear g.size (put g d p) k) (opponent_of g.defender)) (opponent_twice g.defender)

module _ (g : Game) (c : List Cell) (stones : Points) (live : Live g c stones) where
  pub stands_first : Stands g c stones c
  stands_first = record {
    chains = λ p q is j. joined_holds g.size c p q j ∙ live.own p is;
    none_new = λ q e. e;
    eyes = λ eye space. space.some_empty;
    fixed = λ q f. f.empty;
  }

  module _ (d : List Cell) (p : ℕ) (st : Stands g c stones d) (may : MayMove g d p) where
    elsewhere : (q : ℕ) → q ≢ p → cell_at (put g d p) q ≡ cell_at d q
    elsewhere q ne = get_or-set_other d p q (Stone (opponent_of g.defender)) Empty ne

    -- the chains stand beside the new stone
    stone_put : (x q : ℕ) → IsTrue (stones x) → Joined g.size c x q → cell_at (put g d p) q ≡ Stone g.defender
    stone_put x q is j =
        let stands : cell_at d q ≡ Stone g.defender = st.chains x q is j in
        elsewhere q (λ e. cc (stands, may.empty, ap (cell_at d) e)) ∙ stands

    way_put : (own : Cell) (x y q : ℕ) (rs : List ℕ) → IsTrue (stones x) → Joined g.size c x y → IsWay g.size c own y q rs → IsWay g.size (put g d p) (Stone g.defender) y q rs
    way_put own x y q [] is j w = (stone_put x y is j, w.1)
    way_put own x y q (r ∷ rs) is j w =
        let further : Joined g.size c x r = joined_beside g.size c x y r j w.1 (way_first g.size c own r q rs w.2 ∙ sym w.0) in
        (stone_put x y is j, w.1, way_put own x r q rs is further w.2)

    joined_put : (x q r : ℕ) → IsTrue (stones x) → Joined g.size c x q → Joined g.size c x r → Joined g.size (put g d p) q r
    joined_put x q r is j more =
        let whole : Joined g.size c q r = joined_on g.size c q x r (joined_back g.size c x q j) more in
        (whole.0, subst (λ own. IsWay g.size (put g d p) own q r whole.0) (sym (stone_put x q is j)) (way_put (cell_at c q) x q r whole.0 is j whole.1))

    -- a liberty that the new stone leaves
    left_free : (q : ℕ) → q ≢ p → cell_at d q ≡ Empty → cell_at (put g d p) q ≡ Empty
    left_free q ne e = elsewhere q ne ∙ e

    not_fixed : (q : ℕ) → Fixed g.region c q → q ≢ p
    not_fixed q f e = cc (f.outside, may.inside, ap (holds_point g.region) e)

    of_eyes : (x : ℕ) → TwoEyes g.size g.defender c stones x → (q : ℕ) × IsBeside g.size c x q × (cell_at (put g d p) q ≡ Empty)
    of_eyes x eyes =
        let one = st.eyes eyes.first eyes.is_first.space in
        let two = st.eyes eyes.second eyes.is_second.space in
        let split : (one.0 ≡ p) ⊎ (one.0 ≢ p) = grind arith in
        elim split [
          | inl same ↦ (two.0, eyes.is_second.beside two.0 two.1, left_free two.0 (λ e. cc (eyes.apart one.0 one.1, two.1, ap eyes.second (same ∙ sym e))) two.2)
          | inr ne ↦ (one.0, eyes.is_first.beside one.0 one.1, left_free one.0 ne one.2)
        ]

    liberty : (x : ℕ) → IsTrue (stones x) → (q : ℕ) × IsBeside g.size c x q × (cell_at (put g d p) q ≡ Empty)
    liberty x is = elim (live.safe x is) [
      | inl lasting ↦ (lasting.0, lasting.2, left_free lasting.0 (not_fixed lasting.0 lasting.1) (st.fixed lasting.0 lasting.1))
      | inr eyes ↦ of_eyes x eyes
    ]

    reaches_put : (x q : ℕ) → IsTrue (stones x) → Joined g.size c x q → Reaches g.size (put g d p) q Empty
    reaches_put x q is j =
        let free = liberty x is in
        let holds : cell_at (put g d p) q ≡ Stone g.defender = stone_put x q is j in
        reaches_beside g.size (put g d p) q free.1.0 free.0 (λ e. cc (holds, e)) (joined_put x q free.1.0 is j free.1.2) (adjacent_back g.size free.0 free.1.0 free.1.1) free.2

    chain_after : (x q : ℕ) → IsTrue (stones x) → Joined g.size c x q → cell_at (after g d p) q ≡ Stone g.defender
    chain_after x q is j =
        let reaches = reaches_put x q is j in
        let on : q < g.size * g.size = on_board_of g.size (put g d p) q reaches in
        reaching_stays g.size (clear g.size (put g d p) g.defender) (opponent_of g.defender) q on (reaching_kept g.size (put g d p) g.defender q reaches)
        ∙ reaching_stays g.size (put g d p) g.defender q on reaches ∙ stone_put x q is j

    none_new_after : (q : ℕ) → cell_at (after g d p) q ≡ Stone g.defender → cell_at c q ≡ Stone g.defender
    none_new_after q e =
        let once = (stone_before g.size (clear g.size (put g d p) g.defender) (opponent_of g.defender) g.defender q e).0 in
        let before : cell_at (put g d p) q ≡ Stone g.defender = (stone_before g.size (put g d p) g.defender g.defender q once).0 in
        elim (put_down d p q (Stone (opponent_of g.defender))) [
          | inl same ↦ st.none_new q (sym same ∙ before)
          | inr new ↦ absurd (opponent_ne g.defender (cc (before, new)))
        ]

    fixed_after : (q : ℕ) → Fixed g.region c q → cell_at (after g d p) q ≡ Empty
    fixed_after q f = empty_stays g.size (clear g.size (put g d p) g.defender) (opponent_of g.defender) q (empty_stays g.size (put g d p) g.defender q (left_free q (not_fixed q f) (st.fixed q f)))

    -- from a stone of the attacker's in an eye, its path to empty does not leave the eye
    along : (eye : Points) → EyeSpace g.size g.defender c stones eye → (q : ℕ) (qs : List ℕ) → IsTrue (eye q) → IsPath g.size (after g d p) (Stone (opponent_of g.defender)) Empty q qs
        → (r : ℕ) × IsTrue (eye r) × (cell_at (after g d p) r ≡ Empty)
    along eye space q [] is path = (q, is, path)
    along eye space q (r ∷ rs) is path = elim (space.enclosed q r is path.1) [
      | inl inside ↦ along eye space r rs inside path.2
      | inr wall ↦
          let holds : cell_at (after g d p) r ≡ Stone g.defender = chain_after r r wall (joined_self g.size c r) in
          absurd (elim (path_first g.size (after g d p) (Stone (opponent_of g.defender)) Empty r rs path.2) [
            | inl theirs ↦ opponent_ne g.defender (cc (holds, theirs))
            | inr free ↦ cc (holds, free)
          ])
    ]

    eye_after : EveryStoneReaches g.size (after g d p) → (eye : Points) → EyeSpace g.size g.defender c stones eye → (q : ℕ) × IsTrue (eye q) × (cell_at (after g d p) q ≡ Empty)
    eye_after every eye space = look (cell_at (after g d p) space.some_empty.0) refl
      where
        look : (x : Cell) → cell_at (after g d p) space.some_empty.0 ≡ x → (q : ℕ) × IsTrue (eye q) × (cell_at (after g d p) q ≡ Empty)
        look Empty e = (space.some_empty.0, space.some_empty.1, e)
        look (Stone j) e = elim (one_or_other g.defender j) [
          | inl own ↦ absurd (space.not_own space.some_empty.0 space.some_empty.1 (none_new_after space.some_empty.0 (e ∙ ap Stone own)))
          | inr theirs ↦
              let reaches : Reaches g.size (after g d p) space.some_empty.0 Empty = every space.some_empty.0 j e in
              along eye space space.some_empty.0 reaches.1.0 space.some_empty.1 (subst (λ own. IsPath g.size (after g d p) own Empty space.some_empty.0 reaches.1.0) (e ∙ ap Stone theirs) reaches.1.1)
        ]

    every_after : EveryStoneReaches g.size (after g d p)
    every_after = subst (EveryStoneReaches g.size) (after_is g d p) (after_move_reaches g.size d (opponent_of g.defender) p)

    stands_after : Stands g c stones (after g d p)
    stands_after = record {
      chains = chain_after;
      none_new = none_new_after;
      eyes = eye_after every_after;
      fixed = fixed_after;
    }

    pub stands_next : Stands g c stones (after_move g.size d (opponent_of g.defender) p)
    stands_next = subst (Stands g c stones) (sym (after_is g d p)) stands_after

pub pass_alive_stands : (g : Game) (c : List Cell) (stones : Points) → Live g c stones → Stands g c stones c
pass_alive_stands g c stones live = stands_first g c stones live

pub pass_alive_stays : (g : Game) (c : List Cell) (stones : Points) → Live g c stones → (d : List Cell) (p : ℕ) → Stands g c stones d → MayMove g d p → Stands g c stones (after_move g.size d (opponent_of g.defender) p)
pass_alive_stays g c stones live d p st may = stands_next g c stones live d p st may
