-- Play ends: no colouring comes back, there are only so many, and two passes in a row end it. So every state has a winner.
use Rattle.target_game.proofs.Common.{eq-eqb, ◌≡◌, ℕ, zero, suc, ◌+◌, ◌*◌, ◌<◌, ◌≤◌, Bool, true, false, not, ◌||◌, ◌⊎◌, inl, inr, List, [], ◌∷◌, ◌++◌, map, length, nat_eq, Some, None, refl, ◌∙◌, ap, subst, arith, if◌then◌else◌, list_any, list_any-append, Colour, Black, White, Cell, Empty, Stone, opponent_of, same_colour, same_cells, after_move, Ply, pass, move, Member, and_right, not_true, true_or_false, any_to, map_member, has_occurred, GameState, legal, legal_turns, next, over, targets_stand, some_or_each, wins, Wins}
use Rattle.go_points.proofs.Lists.{count, count_length, same_or_more}
use Rattle.go_points.proofs.Cells.{same_colour_refl}
use Rattle.target_game.proofs.Winning.{over_cases, wins_over, wins_next, wins_by_replies, same_colour_other, append_member, legal_member}
use Rattle.target_game.proofs.States.{length-after_move, occurred_last}

-- ---- the colourings that are left

-- all colourings of so many points
abbrev pub colourings : ℕ → List (List Cell)
colourings zero = [] ∷ []
colourings (suc m) = map (λ c. Empty ∷ c) (colourings m) ++ (map (λ c. Stone Black ∷ c) (colourings m) ++ map (λ c. Stone White ∷ c) (colourings m))

-- one point more
with_one : (x : Cell) (c : List Cell) (cs : List (List Cell)) → Member c cs → Member (x ∷ c) (map (λ d. Empty ∷ d) cs ++ (map (λ d. Stone Black ∷ d) cs ++ map (λ d. Stone White ∷ d) cs))
with_one Empty c cs m = append_member (Empty ∷ c) (map (λ d. Empty ∷ d) cs) (map (λ d. Stone Black ∷ d) cs ++ map (λ d. Stone White ∷ d) cs) (inl (map_member (λ d. Empty ∷ d) c cs m))
with_one (Stone Black) c cs m =
    append_member (Stone Black ∷ c) (map (λ d. Empty ∷ d) cs) (map (λ d. Stone Black ∷ d) cs ++ map (λ d. Stone White ∷ d) cs)
    (inr (append_member (Stone Black ∷ c) (map (λ d. Stone Black ∷ d) cs) (map (λ d. Stone White ∷ d) cs) (inl (map_member (λ d. Stone Black ∷ d) c cs m))))
with_one (Stone White) c cs m =
    append_member (Stone White ∷ c) (map (λ d. Empty ∷ d) cs) (map (λ d. Stone Black ∷ d) cs ++ map (λ d. Stone White ∷ d) cs)
    (inr (append_member (Stone White ∷ c) (map (λ d. Stone Black ∷ d) cs) (map (λ d. Stone White ∷ d) cs) (inr (map_member (λ d. Stone White ∷ d) c cs m))))

pub each_is_one : (c : List Cell) → Member c (colourings (length c))
each_is_one [] = inl refl
each_is_one (x ∷ c) = with_one x c (colourings (length c)) (each_is_one c)

abbrev is_new : List (List Cell) → List Cell → Bool
is_new h d = not (has_occurred h d)

-- how many of m points have not occurred
pub unseen : ℕ → List (List Cell) → ℕ
unseen m h = count (is_new h) (colourings m)

pub unseen_most : (m : ℕ) (h : List (List Cell)) → unseen m h ≤ length (colourings m)
unfolding unseen
unseen_most m h = count_length (is_new h) (colourings m)

new_before : (h : List (List Cell)) (c d : List Cell) → is_new (h ++ c ∷ []) d ≡ true → is_new h d ≡ true
new_before h c d is = go (has_occurred h d) refl
  where
    more : has_occurred (h ++ c ∷ []) d ≡ (has_occurred h d || (same_cells d c || false))
    more = list_any-append (same_cells d) h (c ∷ [])

    go : (b : Bool) → has_occurred h d ≡ b → not (has_occurred h d) ≡ true
    go false e = ap not e
    go true e =
        let there : has_occurred (h ++ c ∷ []) d ≡ true = more ∙ ap (λ b. b || (same_cells d c || false)) e in
        absurd (cc (there, not_true (has_occurred (h ++ c ∷ []) d) is))

-- a new one leaves fewer
fewer : (m : ℕ) (h : List (List Cell)) (c : List Cell) → length c ≡ m → has_occurred h c ≡ false → unseen m (h ++ c ∷ []) < unseen m h
unfolding unseen
fewer m h c size new = elim (same_or_more (is_new (h ++ c ∷ [])) (is_new h) (colourings m) (λ d here is. new_before h c d is)) [
  | inl all ↦
      let here : Member c (colourings m) = subst (λ k. Member c (colourings k)) size (each_is_one c) in
      absurd (cc (not_true (has_occurred (h ++ c ∷ []) c) (all c here (ap not new)), occurred_last h c))
  | inr less ↦ less
]

-- ---- who wins

-- One of the two sides wins within k turns.
abbrev pub Decided : GameState → ℕ → Type 0
Decided s k = (wins Black s k ≡ true) ⊎ (wins White s k ≡ true)

abbrev OneOf : Colour → GameState → ℕ → Type 0
OneOf x s k = (wins x s k ≡ true) ⊎ (wins (opponent_of x) s k ≡ true)

from_one : (x : Colour) (s : GameState) (k : ℕ) → OneOf x s k → Decided s k
from_one Black s k d = d
from_one White s k (inl h) = inr h
from_one White s k (inr h) = inl h

to_one : (x : Colour) (s : GameState) (k : ℕ) → Decided s k → OneOf x s k
to_one Black s k d = d
to_one White s k (inl h) = inr h
to_one White s k (inr h) = inl h

-- does the mover win by this turn?
abbrev wins_by : GameState → ℕ → Ply → Bool
wins_by s k t = wins s.mover (next s t) k

-- where each turn decides, the mover has a turn that wins, or each loses
by_turns : (s : GameState) (k : ℕ) → over s ≡ None → ((t : Ply) → legal s t ≡ true → Decided (next s t) k) → Decided s (suc k)
by_turns s k open_ below = go (true_or_false (list_any (wins_by s k) (legal_turns s)))
  where
    theirs : same_colour s.mover (opponent_of s.mover) ≡ false
    theirs = same_colour_other s.mover s.mover ∙ ap not (same_colour_refl s.mover)

    go : (list_any (wins_by s k) (legal_turns s) ≡ true) ⊎ (list_any (wins_by s k) (legal_turns s) ≡ false) → Decided s (suc k)
    go (inl some) =
        let won : wins s.mover s (suc k) ≡ true = wins_next s.mover s k open_ ∙ ap (λ b. some_or_each b (wins_by s k) (legal_turns s)) (same_colour_refl s.mover) ∙ some in
        from_one s.mover s (suc k) (inl won)
    go (inr none) =
        from_one s.mover s (suc k) (inr (wins_by_replies (opponent_of s.mover) s k open_ theirs (λ t is. elim (to_one s.mover (next s t) k (below t is)) [
          | inl h ↦ absurd (cc (any_to (wins_by s k) t (legal_turns s) (legal_member s t is) h, none))
          | inr h ↦ h
        ])))

-- nobody has won: two passes do not stand
not_two : (s : GameState) → over s ≡ None → nat_eq s.passes 2 ≡ false
not_two s open_ = go (targets_stand s) (nat_eq s.passes 2) open_
  where
    go : (a b : Bool) → (if a then (if b then Some s.game.defender else None) else Some (opponent_of s.game.defender)) ≡ None → b ≡ false
    go true true h = absurd (cc h)
    go true false h = refl
    go false b h = absurd (cc h)

one_at_most : (s : GameState) → s.passes ≤ 2 → over s ≡ None → s.passes < 2
one_at_most s low open_ =
    let split : (s.passes ≡ 2) ⊎ (s.passes < 2) = grind (arith, low) in
    elim split [ inl two ↦ absurd (cc (eq-eqb s.passes 2 two, not_two s open_)) | inr less ↦ less ]

-- So many turns are enough: three for each colouring that is left, and two.
abbrev Room : GameState → ℕ → Type 0
Room s k = 3 * unseen (s.game.size * s.game.size) s.history + 2 ≤ k + s.passes

after : (k : ℕ) (s : GameState) (t : Ply) → s.passes < 2 → Room s (suc k) → legal s t ≡ true → ((next s t).passes ≤ 2) × Room (next s t) k
after k s pass one room is = (omega (arith, one), omega (arith, room))
after k s (move p) one room is =
    let n = s.game.size in
    let c = after_move n s.colouring s.mover p in
    let new : has_occurred s.history c ≡ false = not_true (has_occurred s.history c) (and_right _ (not (has_occurred s.history c)) is) in
    let less : unseen (n * n) (s.history ++ c ∷ []) < unseen (n * n) s.history = fewer (n * n) s.history c (length-after_move n s.colouring s.mover p) new in
    (omega arith, omega (arith, one, room, less))

ended : (s : GameState) (k : ℕ) (y : Colour) → over s ≡ Some y → Decided s k
ended s k y e = from_one y s k (inl (wins_over y y s k e ∙ same_colour_refl y))

pub decided : (k : ℕ) (s : GameState) → s.passes ≤ 2 → Room s k → Decided s k
decided zero s low room = elim (over_cases s) [
  | inl e ↦ absurd (omega (arith, one_at_most s low e, room))
  | inr (y, e) ↦ ended s 0 y e
]
decided (suc k) s low room = elim (over_cases s) [
  | inl e ↦ by_turns s k e (λ t is. let n = after k s t (one_at_most s low e) room is in decided k (next s t) n.0 n.1)
  | inr (y, e) ↦ ended s (suc k) y e
]

pub winner_exists : (s : GameState) → s.passes ≤ 2 → Wins Black s ⊎ Wins White s
winner_exists s low =
    let k : ℕ = 3 * unseen (s.game.size * s.game.size) s.history + 2 in
    elim (decided k s low (omega arith)) [ inl h ↦ inl (k, h) | inr h ↦ inr (k, h) ]
