-- The stones that are left when chains without two eyes and without a lasting liberty are taken away.
use Rattle.pass_alive.proofs.Common.{◌≡◌, ℕ, ◌*◌, ◌+◌, ◌<◌, ◌≤◌, Bool, true, false, Some, None, ◌⊎◌, inl, inr, IsTrue, IsFalse, ◌↔◌, List, [], ◌∷◌, map, length, refl, sym, ◌∙◌, ap, subst, arith, list_all, or_cases, or_left, or_right, suc, with_place, same_place, same_place_decides, sets_gain, Colour, Cell, Stone, same_cell, cell_at, Place, IsOn, number_of, place_of, holds_place, all_at, all_from, same_cell_eq, eq_same_cell, adjacent_on_board, adjacent_back, IsWay, Joined, IsChainOf, joined_self, joined_back, joined_on, joined_holds, area_cell, areas_in, Points, IsBeside, Live, PassAlive, Game, these, number_on, game_of, IsNear, IsWith, IsEyeArea, MayLive, LastsOutside}
use Rattle.std.proofs.Common.{Option, IfSome, IfNone}
use Rattle.std.proofs.Math.Nat.{mul-le-mul_right, suc-mul}
use Rattle.go_points.specs.Points.{first_place}
use Rattle.go_chains.specs.Joined.{HoldsThose}
use Rattle.pass_alive.specs.Sets.{AreLiving}
use Rattle.pass_alive.specs.Private.Areas.{IsSafe, IsWithout, HasStonesNear, AreLeft, IsLess, is_due}
use Rattle.pass_alive.proofs.Regions.{targets_hold}
use Rattle.pass_alive.proofs.Spaces.{two_eyes, two_areas, near_areas, near_sets, may_live_more, place_on}
use Rattle.pass_alive.proofs.Taking.{is_false}
use Rattle.pass_alive.proofs.Spreading.{with_held, with_most, first_held, first_none}
use Rattle.go_turns.proofs.Openings.{place_back}

module _ (n : ℕ) (region : List ℕ) (c a : List Cell) where
  -- the stones of a chain are safe together, and may live together
  pub beside_joined : (x y q : ℕ) → Joined n c y x → IsBeside n c x q → IsBeside n c y q
  beside_joined x y q j near = (near.0, near.1, joined_on n c y x near.0 j near.2)

  pub may_live_joined : (stones : Points) (x y : ℕ) → Joined n c y x → MayLive n region c a stones x → MayLive n region c a stones y
  may_live_joined stones x y j (inl lasting) = inl (lasting.0, lasting.1, beside_joined x y lasting.0 j lasting.2)
  may_live_joined stones x y j (inr two) = inr (near_areas n c a stones (IsBeside n c x) (IsBeside n c y) (λ q. beside_joined x y q j) two)

  pub safe_joined : (stones : Points) (x y : ℕ) → Joined n c y x → IsSafe n region c a stones x → IsSafe n region c a stones y
  safe_joined stones x y j (inl lasting) = inl (lasting.0, lasting.1, beside_joined x y lasting.0 j lasting.2)
  safe_joined stones x y j (inr two) = inr (near_sets n c a stones (IsBeside n c x) (IsBeside n c y) (λ q. beside_joined x y q j) two)

-- stones that live are on the board
way_on_board : (n : ℕ) (c : List Cell) (own : Cell) (x r : ℕ) (rs : List ℕ) → r < n * n → IsWay n c own x r rs → x < n * n
way_on_board n c own x r [] on w = subst (λ z. z < n * n) (sym w.1) on
way_on_board n c own x r (s ∷ ss) on w = (adjacent_on_board n x s w.1).0

beside_on : (n : ℕ) (c : List Cell) (x q : ℕ) → IsBeside n c x q → x < n * n
beside_on n c x q near = way_on_board n c (cell_at c x) x near.0 near.2.0 (adjacent_on_board n q near.0 near.1).1 near.2.1

pub live_on : (g : Game) (c : List Cell) (stones : Points) → Live g c stones → (q : ℕ) → IsTrue (stones q) → q < g.size * g.size
live_on g c stones live q is = elim (live.safe q is) [
  | inl lasting ↦ beside_on g.size c q lasting.0 lasting.2
  | inr eyes ↦ beside_on g.size c q eyes.is_first.space.some_empty.0 (eyes.is_first.beside eyes.is_first.space.some_empty.0 eyes.is_first.space.some_empty.1)
]

-- stones that live may live, in the sense that the code asks
may_live : (n : ℕ) (k : Colour) (region : List Place) (c a : List Cell) (cells : (q : ℕ) → q < n * n → cell_at a q ≡ area_cell k (cell_at c q)) (living : Points) → Live (game_of n [] k region) c living → (x : ℕ) → IsTrue (living x) → MayLive n (map (number_on n) region) c a living x
may_live n k region c a cells living live x is = elim (live.safe x is) [
  | inl lasting ↦ inl lasting
  | inr eyes ↦ inr (two_areas n k c a cells living live.own x eyes)
]

module _ (n : ℕ) (k : Colour) (region : List Place) (c : List Cell) (cells : (q : ℕ) → q < n * n → cell_at (areas_in k c) q ≡ area_cell k (cell_at c q)) where
  -- at first all are left, and those in doubt are due
  pub left_first : (stones due late : List Place) → HoldsThose n (λ q. same_cell (cell_at c q) (Stone k)) stones → ((p : Place) → IsTrue (holds_place due p) → IsTrue (holds_place stones p))
      → LastsOutside n (map (number_on n) region) c (these n due) (these n stones) → late ≡ [] → AreLeft n k region c stones (is_due due late)
  left_first stones due late those among outside none = record {
    on_board = those.on_board;
    own = own;
    kept = λ living live q is. those.holds q (live_on (game_of n [] k region) c living live q is) ∙ eq_same_cell (cell_at c q) (Stone k) (live.own q is);
    whole = λ p q low held j. those.holds q low ∙ eq_same_cell (cell_at c q) (Stone k) (joined_holds n c p q j ∙ own p held);
    among = λ p is. elim (or_cases (holds_place due p) (holds_place late p) is) [ inl first ↦ among p first | inr after ↦ absurd (cc (after, none)) ];
    safe = λ q low held idle. elim (outside q low held) [
      | inl first ↦ absurd (cc (or_left (these n due q) (these n late q) first, idle q low (joined_self n c q)))
      | inr lasting ↦ inl lasting
    ];
  }
    where
      own : (q : ℕ) → IsTrue (these n stones q) → cell_at c q ≡ Stone k
      own q held = same_cell_eq (cell_at c q) (Stone k) (sym (those.holds q (place_on n q (those.on_board (place_of n q) held))) ∙ held)

  -- at the end none is due, so all are safe
  pub left_last : (stones : List Place) (due : Place → Bool) → ((p : Place) → IsFalse (due p)) → AreLeft n k region c stones due → AreLiving n k region c stones
  left_last stones due none h = record {
    on_board = h.on_board;
    live = record {
      own = h.own;
      safe = λ q held. elim (h.safe q (place_on n q (h.on_board (place_of n q) held)) held (λ r low j. none (place_of n r))) [
        | inl lasting ↦ inl lasting
        | inr two ↦ inr (two_eyes n k c (areas_in k c) cells (these n stones) q two)
      ];
    };
    greatest = h.kept;
  }

  -- one chain is judged, that of a stone that is due
  module _ (stones : List Place) (due : Place → Bool) (h : AreLeft n k region c stones due) (x : Place) (here_due : IsTrue (due x)) where
    pub due_on : IsOn n x
    due_on = h.on_board x (h.among x here_due)

    due_back : place_of n (number_of n x) ≡ x
    due_back = place_back n x due_on

    due_here : IsTrue (these n stones (number_of n x))
    due_here = ap (holds_place stones) due_back ∙ h.among x here_due

    pub due_cell : cell_at c (number_of n x) ≡ Stone k
    due_cell = h.own (number_of n x) due_here

    module _ (chain : List Place) (is : IsChainOf n c (number_of n x) chain) where
      due_low : number_of n x < n * n
      due_low = place_on n (number_of n x) (subst (IsOn n) (sym due_back) due_on)

      pub in_chain : IsTrue (holds_place chain x)
      in_chain = sym (ap (holds_place chain) due_back) ∙ (is.joined (number_of n x) due_low).1 (joined_self n c (number_of n x))

      -- all its stones are left
      pub chain_left : (p : Place) → IsTrue (holds_place chain p) → IsTrue (holds_place stones p)
      chain_left p held =
          let back : place_of n (number_of n p) ≡ p = place_back n p (is.on_board p held) in
          let low : number_of n p < n * n = place_on n (number_of n p) (subst (IsOn n) (sym back) (is.on_board p held)) in
          sym (ap (holds_place stones) back) ∙ h.whole (number_of n x) (number_of n p) low due_here ((is.joined (number_of n p) low).0 (ap (holds_place chain) back ∙ held))

      -- a chain that is not this one has no stone in it
      apart : (q r : ℕ) → q < n * n → r < n * n → Joined n c q r → IsFalse (these n chain q) → IsFalse (these n chain r)
      apart q r q_low r_low j out = is_false (these n chain r) (λ held. cc (out, (is.joined q q_low).1 (joined_on n c (number_of n x) r q ((is.joined r r_low).0 held) (joined_back n c q r j))))

      -- it is put off
      pub left_late : (late : Place → Bool) → ((p : Place) → IsTrue (late p) → IsTrue (holds_place stones p)) → ((p : Place) → IsFalse (holds_place chain p) → IsTrue (due p) → IsTrue (late p)) → IsTrue (late x) → AreLeft n k region c stones late
      left_late late among kept here = record {
        on_board = h.on_board;
        own = h.own;
        kept = h.kept;
        whole = h.whole;
        among = among;
        safe = λ q low held idle. h.safe q low held (λ r r_low j. is_false (due (place_of n r)) (λ was. go q r low r_low j idle was (these n chain r) refl));
      }
        where
          go : (q r : ℕ) → q < n * n → r < n * n → Joined n c q r → ((s : ℕ) → s < n * n → Joined n c q s → IsFalse (late (place_of n s))) → IsTrue (due (place_of n r)) → (b : Bool) → these n chain r ≡ b → ⊥
          go q r low r_low j idle was true e = cc (idle (number_of n x) due_low (joined_on n c q r (number_of n x) j (joined_back n c (number_of n x) r ((is.joined r r_low).0 e))), ap late due_back, here)
          go q r low r_low j idle was false e = cc (kept (place_of n r) e was, idle r r_low j)

      -- it is safe
      pub left_safe : (less : Place → Bool) → ((p : Place) → IsTrue (less p) → IsTrue (due p)) → ((p : Place) → IsFalse (holds_place chain p) → IsTrue (due p) → IsTrue (less p))
          → IsSafe n (map (number_on n) region) c (areas_in k c) (these n stones) (number_of n x) → AreLeft n k region c stones less
      left_safe less within kept safe = record {
        on_board = h.on_board;
        own = h.own;
        kept = h.kept;
        whole = h.whole;
        among = λ p held. h.among p (within p held);
        safe = λ q low held idle. go q low held idle (these n chain q) refl;
      }
        where
          go : (q : ℕ) → q < n * n → IsTrue (these n stones q) → ((r : ℕ) → r < n * n → Joined n c q r → IsFalse (less (place_of n r))) → (b : Bool) → these n chain q ≡ b → IsSafe n (map (number_on n) region) c (areas_in k c) (these n stones) q
          go q low held idle true e = safe_joined n (map (number_on n) region) c (areas_in k c) (these n stones) (number_of n x) q (joined_back n c (number_of n x) q ((is.joined q low).0 e)) safe
          go q low held idle false e = h.safe q low held (λ r r_low j. is_false (due (place_of n r)) (λ was. cc (kept (place_of n r) (apart q r low r_low j e) was, idle r r_low j)))

      -- it is taken away, and what is due then has all stones that are left two steps from it
      module _ (dead : MayLive n (map (number_on n) region) c (areas_in k c) (these n stones) (number_of n x) → ⊥) (fewer near : List Place) (more : Place → Bool) (gone : IsWithout chain stones fewer)
          (near_all : (q : ℕ) → IsNear n (these n chain) q → IsTrue (these n near q))
          (from : (p : Place) → IsTrue (more p) → (IsTrue (due p) × IsFalse (holds_place chain p)) ⊎ IsTrue (holds_place fewer p)) (kept : (p : Place) → IsFalse (holds_place chain p) → IsTrue (due p) → IsTrue (more p))
          (added : (q : ℕ) → IsNear n (these n near) q → IsTrue (these n fewer q) → IsTrue (more (place_of n q))) where
        out_of_chain : (q : ℕ) → IsTrue (these n fewer q) → IsFalse (these n chain q)
        out_of_chain q held = is_false (these n chain q) (λ is_in. cc (gone.gone (place_of n q) is_in, held))

        stays : (q : ℕ) → IsTrue (these n stones q) → IsFalse (these n chain q) → IsTrue (these n fewer q)
        stays q held out = gone.kept (place_of n q) out held

        -- a chain that is not due now was not due before
        was_idle : (q : ℕ) → q < n * n → IsTrue (these n fewer q) → ((r : ℕ) → r < n * n → Joined n c q r → IsFalse (more (place_of n r))) → (r : ℕ) → r < n * n → Joined n c q r → IsFalse (due (place_of n r))
        was_idle q low held idle r r_low j = is_false (due (place_of n r)) (λ was. cc (kept (place_of n r) (apart q r low r_low j (out_of_chain q held)) was, idle r r_low j))

        -- and no stone round its eyes has gone
        walls_stay : (q p : ℕ) → q < n * n → IsTrue (these n fewer q) → ((r : ℕ) → r < n * n → Joined n c q r → IsFalse (more (place_of n r)))
            → IsEyeArea n (areas_in k c) (these n stones) (IsBeside n c q) p → IsEyeArea n (areas_in k c) (these n fewer) (IsBeside n c q) p
        walls_stay q p low held idle eye = record {
          walls = λ w w_low lib. stays w (eye.walls w w_low lib) (is_false (these n chain w) (λ is_in.
              let y : ℕ = lib.1.0 in
              let y_low : y < n * n = (adjacent_on_board n w y lib.1.1).1 in
              let beside : IsBeside n c q y = eye.beside y y_low lib.1.2 in
              let r : ℕ = beside.0 in
              let r_low : r < n * n = (adjacent_on_board n y r beside.1).1 in
              let r_left : IsTrue (these n fewer r) = stays r (h.whole q r r_low (gone.within (place_of n q) held) beside.2) (apart q r low r_low beside.2 (out_of_chain q held)) in
              let is_near : IsTrue (these n near y) = near_all y (w, adjacent_back n w y lib.1.1, is_in) in
              cc (added r (y, adjacent_back n y r beside.1, is_near) r_left, idle r r_low beside.2)));
          beside = eye.beside;
        }

        pub left_taken : AreLeft n k region c fewer more
        left_taken = record {
          on_board = λ p held. h.on_board p (gone.within p held);
          own = λ q held. h.own q (gone.within (place_of n q) held);
          kept = λ living live q lives. stays q (h.kept living live q lives) (is_false (these n chain q) (λ is_in.
              let low : q < n * n = live_on (game_of n [] k region) c living live q lives in
              let may = may_live_more n (map (number_on n) region) c (areas_in k c) living (these n stones) q (h.kept living live) (may_live n k region c (areas_in k c) cells living live q lives) in
              dead (may_live_joined n (map (number_on n) region) c (areas_in k c) (these n stones) q (number_of n x) ((is.joined q low).0 is_in) may)));
          whole = λ p q low held j. stays q (h.whole p q low (gone.within (place_of n p) held) j)
              (apart p q (place_on n p (h.on_board (place_of n p) (gone.within (place_of n p) held))) low j (out_of_chain p held));
          among = λ p held. elim (from p held) [ inl was ↦ gone.kept p was.1 (h.among p was.0) | inr left ↦ left ];
          safe = λ q low held idle. elim (h.safe q low (gone.within (place_of n q) held) (was_idle q low held idle)) [
            | inl lasting ↦ inl lasting
            | inr two ↦ inr (record {
              areas = record {
                first = two.areas.first;
                second = two.areas.second;
                first_on = two.areas.first_on;
                second_on = two.areas.second_on;
                first_empty = two.areas.first_empty;
                second_empty = two.areas.second_empty;
                first_eye = walls_stay q two.areas.first low held idle two.areas.first_eye;
                second_eye = walls_stay q two.areas.second low held idle two.areas.second_eye;
                apart = two.areas.apart;
              };
              first_set = two.first_set;
              second_set = two.second_set;
              is_first = two.is_first;
              is_second = two.is_second;
            })
          ];
        }

-- what is left to do becomes less: first the stones, then those that are due, then those that are due late
weigh : (x y b u : ℕ) → x < y → u < b → x * b + u < y * b
weigh x y b u low few =
    let step : suc x * b ≤ y * b = mul-le-mul_right b (omega (arith, low)) in
    let same : suc x * b ≡ x * b + b = suc-mul x b in
    omega (arith, step, same, few)

pub less_left : (stones due late new_stones new_due new_late : List Place) (most : ℕ) → length new_due ≤ most → length new_late ≤ most → IsLess stones due late new_stones new_due new_late
    → length new_stones * ((most + 1) * (most + 1)) + (length new_due * (most + 1) + length new_late)
    < length stones * ((most + 1) * (most + 1)) + (length due * (most + 1) + length late)
less_left stones due late new_stones new_due new_late most few few_late (inl fewer) =
    let below : length new_due * (most + 1) + length new_late < (most + 1) * (most + 1) = weigh (length new_due) (most + 1) (most + 1) (length new_late) (omega (arith, few)) (omega (arith, few_late)) in
    let all = weigh (length new_stones) (length stones) ((most + 1) * (most + 1)) (length new_due * (most + 1) + length new_late) fewer below in
    plus_more _ (length stones * ((most + 1) * (most + 1))) (length due * (most + 1) + length late) all
  where
    plus_more : (x y z : ℕ) → x < y → x < y + z
    plus_more x y z low = omega (arith, low)
less_left stones due late new_stones new_due new_late most few few_late (inr (same, less)) =
    plus_same _ _ _ _ (ap (λ (s : List Place). length s * ((most + 1) * (most + 1))) same) (rest less)
  where
    plus_same : (x y u v : ℕ) → x ≡ y → u < v → x + u < y + v
    plus_same x y u v e low = omega (arith, e, low)

    plus_less : (x y u v : ℕ) → x < y → x < y + v
    plus_less x y u v low = omega (arith, low)

    plus_both : (x y u v : ℕ) → x ≤ y → u < v → x + u < y + v
    plus_both x y u v most low = omega (arith, most, low)

    rest : ((length new_due < length due) ⊎ ((length new_due ≤ length due) × (length new_late < length late))) → length new_due * (most + 1) + length new_late < length due * (most + 1) + length late
    rest (inl fewer) = plus_less _ _ 0 _ (weigh (length new_due) (length due) (most + 1) (length new_late) fewer (omega (arith, few_late)))
    rest (inr (no_more, fewer)) = plus_both _ _ _ _ (mul-le-mul_right (most + 1) no_more) fewer

-- the next that is due
pub late_some : (due late : List Place) (o : Option Place) → o ≡ first_place late → IfSome o (λ p. IsTrue (is_due due late p))
late_some due late None e = tt
late_some due late (Some p) e = or_right (holds_place due p) (holds_place late p) (first_held late p (sym e))

pub late_none : (due late : List Place) (o : Option Place) → due ≡ [] → o ≡ first_place late → IfNone o ((p : Place) → IsFalse (is_due due late p))
late_none due late None none e = λ p. is_false (is_due due late p) (λ is. elim (or_cases (holds_place due p) (holds_place late p) is) [
  | inl first ↦ cc (first, none)
  | inr after ↦ cc (after, first_none late (sym e))
])
late_none due late (Some p) none e = tt

-- the two sets of what is due, without a chain
module _ (chain due late less_due less_late : List Place) (without : IsWithout chain due less_due) (without_late : IsWithout chain late less_late) where
  pub due_within : (p : Place) → IsTrue (is_due less_due less_late p) → IsTrue (is_due due late p)
  due_within p is = elim (or_cases (holds_place less_due p) (holds_place less_late p) is) [
    | inl first ↦ or_left (holds_place due p) (holds_place late p) (without.within p first)
    | inr after ↦ or_right (holds_place due p) (holds_place late p) (without_late.within p after)
  ]

  pub due_kept : (p : Place) → IsFalse (holds_place chain p) → IsTrue (is_due due late p) → IsTrue (is_due less_due less_late p)
  due_kept p out is = elim (or_cases (holds_place due p) (holds_place late p) is) [
    | inl first ↦ or_left (holds_place less_due p) (holds_place less_late p) (without.kept p out first)
    | inr after ↦ or_right (holds_place less_due p) (holds_place less_late p) (without_late.kept p out after)
  ]

  pub due_out : (p : Place) → IsTrue (is_due less_due less_late p) → IsFalse (holds_place chain p)
  due_out p is = is_false (holds_place chain p) (λ is_in. elim (or_cases (holds_place less_due p) (holds_place less_late p) is) [
    | inl first ↦ cc (without.gone p is_in, first)
    | inr after ↦ cc (without_late.gone p is_in, after)
  ])

  pub less_due_left : (stones : List Place) (x : Place) → IsTrue (holds_place chain x) → IsTrue (is_due due late x) → IsLess stones due late stones less_due less_late
  less_due_left stones x is_in is = inr (
    refl,
    elim (or_cases (holds_place due x) (holds_place late x) is) [
      | inl first ↦ inl (without.fewer x is_in first)
      | inr after ↦ inr (without.shorter, without_late.fewer x is_in after)
    ],
  )

  -- and with what has come to be due
  module _ (n : ℕ) (fewer near more : List Place) (with : HasStonesNear n fewer less_late near less_due more) where
    pub more_from : (p : Place) → IsTrue (is_due more less_late p) → (IsTrue (is_due due late p) × IsFalse (holds_place chain p)) ⊎ IsTrue (holds_place fewer p)
    more_from p is = elim (or_cases (holds_place more p) (holds_place less_late p) is) [
      | inl first ↦ elim (with.most p first) [
        | inl was ↦ let had = or_left (holds_place less_due p) (holds_place less_late p) was in inl (due_within p had, due_out p had)
        | inr left ↦ inr left
      ]
      | inr after ↦ let had = or_right (holds_place less_due p) (holds_place less_late p) after in inl (due_within p had, due_out p had)
    ]

    pub more_kept : (p : Place) → IsFalse (holds_place chain p) → IsTrue (is_due due late p) → IsTrue (is_due more less_late p)
    more_kept p out is = elim (or_cases (holds_place less_due p) (holds_place less_late p) (due_kept p out is)) [
      | inl first ↦ or_left (holds_place more p) (holds_place less_late p) (with.kept p first)
      | inr after ↦ or_right (holds_place more p) (holds_place less_late p) after
    ]

-- a chain that is put off
module _ (chain due late less_due more_late : List Place) (without : IsWithout chain due less_due) (with : IsWith chain late more_late) where
  pub late_here : (x : Place) → IsTrue (holds_place chain x) → IsTrue (is_due less_due more_late x)
  late_here x is_in = or_right (holds_place less_due x) (holds_place more_late x) (with.added x is_in)

  pub late_kept : (p : Place) → IsFalse (holds_place chain p) → IsTrue (is_due due late p) → IsTrue (is_due less_due more_late p)
  late_kept p out h = elim (or_cases (holds_place due p) (holds_place late p) h) [
    | inl first ↦ or_left (holds_place less_due p) (holds_place more_late p) (without.kept p out first)
    | inr after ↦ or_right (holds_place less_due p) (holds_place more_late p) (with.kept p after)
  ]

  pub late_among : (F : Place → Type 0) → ((p : Place) → IsTrue (is_due due late p) → F p) → ((p : Place) → IsTrue (holds_place chain p) → F p) → (p : Place) → IsTrue (is_due less_due more_late p) → F p
  late_among F all of_chain p h = elim (or_cases (holds_place less_due p) (holds_place more_late p) h) [
    | inl had ↦ all p (or_left (holds_place due p) (holds_place late p) (without.within p had))
    | inr after ↦ elim (with.most p after) [
      | inl had ↦ all p (or_right (holds_place due p) (holds_place late p) had)
      | inr is_in ↦ of_chain p is_in
    ]
  ]

  pub less_put_off : (stones : List Place) (x : Place) → IsTrue (holds_place chain x) → IsTrue (holds_place due x) → IsLess stones due late stones less_due more_late
  less_put_off stones x is_in first = inr (refl, inl (without.fewer x is_in first))

-- so the targets live by their shape exactly if they are in the set
pub pass_alive_by : (n : ℕ) (k : Colour) (targets region : List Place) (c : List Cell) (s : List Place) → AreLiving n k region c s → (b : Bool) → b ≡ list_all (holds_place s) targets → IsTrue b ↔ PassAlive (game_of n targets k region) c
pass_alive_by n k targets region c s living b is = (
  λ h. record {
    stones = these n s;
    live = with_targets (these n s) [] targets living.live;
    targets = targets_hold n s living.on_board targets ∙ sym is ∙ h;
  },
  λ alive.
      let smaller : Live (game_of n [] k region) c alive.stones = with_targets alive.stones targets [] alive.live in
      is ∙ sym (targets_hold n s living.on_board targets) ∙ all_from (these n s) (map (number_on n) targets) (λ q m. living.greatest alive.stones smaller q (all_at alive.stones q (map (number_on n) targets) alive.targets m)),
)
  where
    with_targets : (stones : Points) (ts us : List Place) → Live (game_of n ts k region) c stones → Live (game_of n us k region) c stones
    with_targets stones ts us live = record { own = live.own; safe = live.safe }
