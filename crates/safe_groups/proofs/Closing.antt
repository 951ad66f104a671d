-- The states of an area that are judged have answers, with all those that come of the states in which nothing is to be answered.
use Rattle.safe_groups.proofs.Common.{sym, subst, refl, ◌≡◌, ◌≢◌, ◌∙◌, List, ℕ, zero, suc, ap, IsTrue, true, false, Bool, inl, inr, [], ◌∷◌, ◌++◌, ◌*◌, ◌<◌, ◌⊎◌, length, set, arith, get_or, nat_lt, same_cell, cell_at, Cell, Empty, Stone, or_cases, or_left, or_right, has_occurred, same_cells, same_cells_eq, Area, States, own, theirs, IsWalled, IsAtRest, IsKnown, IsAnswer, IsAnswered, Replies, Leans, after_other, area_of, states_of, Ground, All, All-tail, same_cells_refl, IsResting, AreJudged, AreStates, HasReplies, IsJudged, IsMoveAnswered, IsSettled, IsStateAnswered}
use Rattle.std.specs.List.{list_any}
use Rattle.std.proofs.Common.{◌||◌}
use Rattle.safe_groups.proofs.Fitting.{fits_self}
use Rattle.safe_groups.proofs.Judging.{answers_inside, listed_at, of_listed}
use Rattle.safe_groups.proofs.Resting.{IsLike, is_like, like_told, like_tells, like_self, rests, rest_untaken, like_after}
use Rattle.safe_groups.proofs.Verdicts.{default_same}

-- States of the list in which nothing is to be answered, and each other state of it is answered.
pub record Parted (g : Ground) (all some : List (List Cell)) (from : List (List Cell)) : Type 0 where
  pub resting : (w : List Cell) → has_occurred some w ≡ true → IsResting (area_of g) w
  pub parted : (c : List Cell) → has_occurred from c ≡ true → IsStateAnswered (area_of g) (states_of all) c ⊎ (has_occurred some c ≡ true)

part : (g : Ground) (all from : List (List Cell)) → ((k : ℕ) (d : List Cell) → k < length from → IsJudged g all (get_or from k d)) → (some : List (List Cell)) × Parted g all some from
part g all [] judged = ([], record { resting = λ w e. absurd (cc e); parted = λ c e. absurd (cc e) })
part g all (x ∷ xs) judged = go (part g all xs (λ k d low. judged (suc k) d (omega (arith, low)))) (judged 0 x (omega arith))
  where
    here : (c : List Cell) → has_occurred (x ∷ xs) c ≡ true → (c ≡ x) ⊎ (has_occurred xs c ≡ true)
    here c e = elim (or_cases (same_cells c x) (has_occurred xs c) e) [
      | inl is ↦ inl (same_cells_eq c x is)
      | inr rest ↦ inr rest
    ]

    go : ((some : List (List Cell)) × Parted g all some xs) → IsJudged g all x → (some : List (List Cell)) × Parted g all some (x ∷ xs)
    go rest (inl answered) = (
      rest.0,
      record {
        resting = rest.1.resting;
        parted = λ c e. elim (here c e) [
          | inl is ↦ inl (subst (IsStateAnswered (area_of g) (states_of all)) (sym is) answered)
          | inr other ↦ rest.1.parted c other
        ];
      },
    )
    go rest (inr resting) = (
      x ∷ rest.0,
      record {
        resting = λ w e. elim (or_cases (same_cells w x) (has_occurred rest.0 w) e) [
          | inl is ↦ subst (IsResting (area_of g)) (sym (same_cells_eq w x is)) resting
          | inr other ↦ rest.1.resting w other
        ];
        parted = λ c e. elim (here c e) [
          | inl is ↦ inr (or_left (same_cells c x) (has_occurred rest.0 c) (ap (same_cells c) (sym is) ∙ same_cells_refl c))
          | inr other ↦ elim (rest.1.parted c other) [
            | inl answered ↦ inl answered
            | inr more ↦ inr (or_right (same_cells c x) (has_occurred rest.0 c) more)
          ]
        ];
      },
    )

-- what holds of each of a list, and of one more
pub all_push : (P : List Cell → Type 0) (xs : List (List Cell)) (x : List Cell) → All P xs → P x → (k : ℕ) (d : List Cell) → k < length (xs ++ x ∷ []) → P (get_or (xs ++ x ∷ []) k d)
all_push P [] x all px zero d low = px
all_push P [] x all px (suc k) d low = absurd (omega (arith, low))
all_push P (y ∷ ys) x all px zero d low = all 0 d (omega arith)
all_push P (y ∷ ys) x all px (suc k) d low = all_push P ys x (All-tail P y ys all) px k d (omega (arith, low))

-- one of a list passes a test
any_of : (f : List Cell → Bool) (xs : List (List Cell)) → list_any f xs ≡ true → (w : List Cell) × (has_occurred xs w ≡ true) × (f w ≡ true)
any_of f [] e = absurd (cc e)
any_of f (x ∷ xs) e = elim (or_cases (f x) (list_any f xs) e) [
  | inl is ↦ (x, or_left (same_cells x x) (has_occurred xs x) (same_cells_refl x), is)
  | inr rest ↦ let found = any_of f xs rest in (found.0, or_right (same_cells found.0 x) (has_occurred xs found.0) found.1, found.2)
]

of_any : (f : List Cell → Bool) (xs : List (List Cell)) (w : List Cell) → has_occurred xs w ≡ true → f w ≡ true → list_any f xs ≡ true
of_any f [] w e h = absurd (cc e)
of_any f (x ∷ xs) w e h = elim (or_cases (same_cells w x) (has_occurred xs w) e) [
  | inl is ↦ or_left (f x) (list_any f xs) (ap f (sym (same_cells_eq w x is)) ∙ h)
  | inr rest ↦ or_right (f x) (list_any f xs) (of_any f xs w rest h)
]

module _ (g : Ground) (states some : List (List Cell)) (given : (p : ℕ) → IsTrue ((area_of g).gives p) → IsTrue ((area_of g).kept p)) (are : AreStates g states) (parted : Parted g states some states) where
  abbrev a : Area
  a = area_of g

  abbrev closed : List Cell → Bool
  closed c = has_occurred states c || list_any (λ w. is_like (area_of g) w c) some

  -- a state of the set is answered, or is like one in which nothing is to be answered
  Told : List Cell → Type 0
  Told c = (IsSettled g c × IsStateAnswered (area_of g) (states_of states) c) ⊎ ((w : List Cell) × (has_occurred some w ≡ true) × IsLike (area_of g) w c)

  told : (c : List Cell) → closed c ≡ true → Told c
  unfolding Told
  told c e = elim (or_cases (has_occurred states c) (list_any (λ w. is_like (area_of g) w c) some) e) [
    | inl listed ↦ elim (parted.parted c listed) [
      | inl answered ↦ inl (of_listed (IsSettled g) states c are listed, answered)
      | inr more ↦ inr (c, more, like_self (area_of g) c (parted.resting c more))
    ]
    | inr any ↦
        let found = any_of (λ w. is_like (area_of g) w c) some any in
        inr (found.0, found.1, like_told (area_of g) found.0 (parted.resting found.0 found.1).walled c found.2)
  ]

  in_closed : (c : List Cell) → has_occurred states c ≡ true → closed c ≡ true
  in_closed c e = or_left (has_occurred states c) (list_any (λ w. is_like (area_of g) w c) some) e

  like_closed : (w c : List Cell) → has_occurred some w ≡ true → IsLike (area_of g) w c → closed c ≡ true
  like_closed w c e like = or_right (has_occurred states c) (list_any (λ v. is_like (area_of g) v c) some) (of_any (λ v. is_like (area_of g) v c) some w e (like_tells (area_of g) w (parted.resting w e).walled c like))

  -- what is known of the listed states is known of the set
  answered_on : (d : List Cell) → IsAnswered (area_of g) (states_of states) d → IsAnswered (area_of g) closed d
  answered_on d (inl known) = inl (known.0, in_closed known.0 known.1, known.2)
  answered_on d (inr found) =
      let answer = found.1 in
      inr (found.0, record { on_board = answer.on_board; allowed = answer.allowed; empty = answer.empty; known = (answer.known.0, in_closed answer.known.0 answer.known.1, answer.known.2) })

  walled_by : (c : List Cell) → Told c → IsWalled (area_of g) c
  unfolding Told
  walled_by c (inl one) = one.0.state.walled
  walled_by c (inr like) = like.2.walled

  rest_by : (c : List Cell) → Told c → IsAtRest (area_of g) c
  unfolding Told
  rest_by c (inl one) = one.0.at_rest
  rest_by c (inr like) = rests (area_of g) like.0 (parted.resting like.0 like.1) c like.2 given

  untaken_by : (c : List Cell) → Told c → (x : ℕ) → x < (area_of g).size * (area_of g).size → cell_at c x ≡ Empty → (p : ℕ) → cell_at c p ≡ own (area_of g) → Leans (area_of g) (area_of g).held (set c x (theirs (area_of g))) p
  unfolding Told
  untaken_by c (inl one) x on free = (one.1 x on free).untaken
  untaken_by c (inr like) x on free = rest_untaken (area_of g) like.0 (parted.resting like.0 like.1) c like.2 x on free

  answered_by : (c : List Cell) → Told c → (x : ℕ) → x < (area_of g).size * (area_of g).size → cell_at c x ≡ Empty → IsAnswered (area_of g) closed (after_other (area_of g) c x)
  unfolding Told
  answered_by c (inl one) x on free = answered_on (after_other (area_of g) c x) (one.1 x on free).answered
  answered_by c (inr like) x on free = inl (after_other (area_of g) c x, like_closed like.0 (after_other (area_of g) c x) like.1 (like_after (area_of g) like.0 (parted.resting like.0 like.1) c like.2 x on free), fits_self (area_of g) (after_other (area_of g) c x))

  closed_replies : Replies (area_of g) closed
  closed_replies = record {
    inside = answers_inside g;
    walled = λ c e. walled_by c (told c e);
    at_rest = λ c e. rest_by c (told c e);
    untaken = λ c e. untaken_by c (told c e);
    answered = λ c e. answered_by c (told c e);
  }

  pub has_replies : (c : List Cell) → has_occurred states c ≡ true → HasReplies g c
  has_replies c e = record { states = closed; replies = closed_replies; listed = in_closed c e }

pub judged_replies : (g : Ground) (states : List (List Cell)) → ((p : ℕ) → IsTrue ((area_of g).gives p) → IsTrue ((area_of g).kept p)) → AreStates g states → AreJudged g states → (c : List Cell) → 0 < length states → get_or states 0 [] ≡ c → HasReplies g c
judged_replies g states given are judged c some first =
    let parts = part g states states judged in
    has_replies g states parts.0 given are parts.1 c (listed_at states 0 c some (sym first ∙ default_same states 0 [] c some))
