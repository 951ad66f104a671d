-- The pass over the tree of all legal play, state by state and turn by turn.
use Rattle.target_game.proofs.Common.{◌≡◌, ℕ, zero, suc, ◌+◌, ◌-◌, ◌<◌, ◌≤◌, Bool, true, false, cond, not, nat_lt, ltb-true, ltb-false, lt-ltb, List, [], ◌∷◌, Option, Some, None, is_some, option_map, Result, Ok, Err, ◌⊎◌, inl, inr, if◌then◌else◌, refl, sym, ◌∙◌, ap, ap₂, arith, Colour, Black, White, same_colour, Ply, GameState, legal_turns, next, over, some_or_each, is_winner, wins, nodes, tally_of, before_turns, with_below, with_turns}
use Rattle.std.proofs.Common.{sum_by, IfOk}
use Rattle.std.proofs.lemmas.Bool.{le-ltb}
use Rattle.std.proofs.lemmas.List.Sums.{sum_by-cons}
use Rattle.target_game.specs.declared.tally.Tally.{Tally}
use Rattle.target_game.specs.declared.within.Within.TheVariants.{Wins, Neither, Limit}
use Rattle.target_game.specs.Private.Tally.{either_or_both}
use Rattle.target_game.specs.Within.{decision}
use Rattle.target_game.proofs.Winning.{over_cases, wins_over, wins_next}

less_left : (n m k : ℕ) → m ≤ n → nat_lt n (m + k) ≡ nat_lt (n - m) k
less_left n m k low = go (nat_lt (n - m) k) refl
  where
    go : (b : Bool) → nat_lt (n - m) k ≡ b → nat_lt n (m + k) ≡ b
    go true e = let high : n - m < k = ltb-true (n - m) k e in lt-ltb n (m + k) (omega arith)
    go false e = let fits : k ≤ n - m = ltb-false (n - m) k e in le-ltb n (m + k) (omega arith)

-- every tree has a state
pub nodes_over : (s : GameState) (k : ℕ) (y : Colour) → over s ≡ Some y → nodes s k ≡ 1
unfolding nodes
nodes_over s zero y e = refl
nodes_over s (suc k) y e = rw (e, nodes)

pub nodes_next : (s : GameState) (k : ℕ) → over s ≡ None → nodes s (suc k) ≡ 1 + sum_by (λ t. nodes (next s t) k) (legal_turns s)
unfolding nodes
nodes_next s k e = rw (e, nodes)

nodes_last : (s : GameState) (k : ℕ) → is_some (over s) ≡ true ⊎ k ≡ 0 → nodes s k ≡ 1
unfolding nodes
nodes_last s zero h = refl
nodes_last s (suc k) h = go (over_cases s)
  where
    go : (over s ≡ None) ⊎ ((y : Colour) × (over s ≡ Some y)) → nodes s (suc k) ≡ 1
    go (inl e) = elim h [ inl some ↦ absurd (cc (sym some ∙ ap is_some e)) | inr k_0 ↦ absurd (omega (arith, k_0)) ]
    go (inr (y, e)) = nodes_over s (suc k) y e

wins_last : (x : Colour) (s : GameState) (k : ℕ) → is_some (over s) ≡ true ⊎ k ≡ 0 → wins x s k ≡ is_winner x (over s)
unfolding wins
wins_last x s zero h = refl
wins_last x s (suc k) h = go (over_cases s)
  where
    go : (over s ≡ None) ⊎ ((y : Colour) × (over s ≡ Some y)) → wins x s (suc k) ≡ is_winner x (over s)
    go (inl e) = elim h [ inl some ↦ absurd (cc (sym some ∙ ap is_some e)) | inr k_0 ↦ absurd (omega (arith, k_0)) ]
    go (inr (y, e)) = wins_over x y s (suc k) e ∙ sym (ap (is_winner x) e)

pub nodes_some : (s : GameState) (k : ℕ) → 0 < nodes s k
nodes_some s zero = let one : nodes s 0 ≡ 1 = nodes_last s 0 (inr refl) in omega arith
nodes_some s (suc k) = go (over_cases s)
  where
    go : (over s ≡ None) ⊎ ((y : Colour) × (over s ≡ Some y)) → 0 < nodes s (suc k)
    go (inl e) = let more : nodes s (suc k) ≡ 1 + sum_by (λ t. nodes (next s t) k) (legal_turns s) = nodes_next s k e in omega arith
    go (inr (y, e)) = let one : nodes s (suc k) ≡ 1 = nodes_over s (suc k) y e in omega arith

-- the tally of a tree, with its test
abbrev tally : ℕ → ℕ → Bool → Bool → Tally
tally allowed states black white = record { left = allowed - states; black = black; white = white }

abbrev unless_past : ℕ → ℕ → Bool → Bool → Option Tally
unless_past allowed states black white = cond (nat_lt allowed states) None (Some (tally allowed states black white))

-- a state where no more are allowed, one that is the last of its line, and one with turns to come
pub tally_none : (s : GameState) (k : ℕ) → tally_of s k 0 ≡ None
unfolding tally_of
tally_none s k = ap (λ b. cond b None (Some (tally 0 (nodes s k) (wins Black s k) (wins White s k)))) (lt-ltb 0 (nodes s k) (nodes_some s k))

pub tally_last : (s : GameState) (k allowed : ℕ) (t : Tally) → is_some (over s) ≡ true ⊎ k ≡ 0 → 0 < allowed
    → t.left ≡ allowed - 1 → t.black ≡ is_winner Black (over s) → t.white ≡ is_winner White (over s) → Some t ≡ tally_of s k allowed
unfolding tally_of
tally_last s k allowed t h some left black white =
    let one : nodes s k ≡ 1 = nodes_last s k h in
    let within : nat_lt allowed 1 ≡ false = le-ltb allowed 1 (omega arith) in
    let same : t ≡ tally allowed 1 (wins Black s k) (wins White s k) = λ i. record { left = left i; black = (black ∙ sym (wins_last Black s k h)) i; white = (white ∙ sym (wins_last White s k h)) i } in
    ap Some same ∙ sym (ap (λ b. cond b None (Some (tally allowed 1 (wins Black s k) (wins White s k)))) within) ∙ sym (ap (λ m. unless_past allowed m (wins Black s k) (wins White s k)) one)

-- one turn more
either_assoc : (own a b c : Bool) → either_or_both own (either_or_both own a b) c ≡ either_or_both own a (either_or_both own b c)
either_assoc true true b c = refl
either_assoc true false b c = refl
either_assoc false true b c = refl
either_assoc false false b c = refl

either_before : (own c : Bool) → either_or_both own (not own) c ≡ c
either_before true c = refl
either_before false c = refl

either_more : (own : Bool) (f : Ply → Bool) (t : Ply) (ts : List Ply) → some_or_each own f (t ∷ ts) ≡ either_or_both own (f t) (some_or_each own f ts)
either_more true f t ts = refl
either_more false f t ts = refl

either_none : (own : Bool) (f : Ply → Bool) (a : Bool) → either_or_both own a (some_or_each own f []) ≡ a
either_none true f true = refl
either_none true f false = refl
either_none false f true = refl
either_none false f false = refl

pub tally_next : (s : GameState) (k allowed : ℕ) → over s ≡ None → 0 < allowed → with_turns s k (legal_turns s) (before_turns s.mover (allowed - 1)) ≡ tally_of s (suc k) allowed
unfolding tally_of with_turns
tally_next s k allowed e some =
    let sum : ℕ = sum_by (λ t. nodes (next s t) k) (legal_turns s) in
    let states : nodes s (suc k) ≡ 1 + sum = nodes_next s k e in
    let test : nat_lt (allowed - 1) sum ≡ nat_lt allowed (1 + sum) = sym (less_left allowed 1 sum (omega arith)) in
    let left : allowed - 1 - sum ≡ allowed - (1 + sum) = omega arith in
    let black : either_or_both (same_colour s.mover Black) (not (same_colour s.mover Black)) (some_or_each (same_colour s.mover Black) (λ t. wins Black (next s t) k) (legal_turns s)) ≡ wins Black s (suc k) =
    either_before (same_colour s.mover Black) _ ∙ sym (wins_next Black s k e) in
    let white : either_or_both (same_colour s.mover White) (not (same_colour s.mover White)) (some_or_each (same_colour s.mover White) (λ t. wins White (next s t) k) (legal_turns s)) ≡ wins White s (suc k) =
    either_before (same_colour s.mover White) _ ∙ sym (wins_next White s k e) in
    ap₂ (λ b (t : Tally). cond b None (Some t)) test (λ i. record { left = left i; black = black i; white = white i })
    ∙ sym (ap (λ m. unless_past allowed m (wins Black s (suc k)) (wins White s (suc k))) states)

pub turn_more : (s : GameState) (k : ℕ) (t : Ply) (ts : List Ply) (a b : Tally) → Some b ≡ option_map (with_below s.mover a) (tally_of (next s t) k a.left) → with_turns s k (t ∷ ts) a ≡ with_turns s k ts b
unfolding tally_of with_turns
turn_more s k t ts a b h = go (nat_lt a.left (nodes (next s t) k)) refl
  where
    go : (past : Bool) → nat_lt a.left (nodes (next s t) k) ≡ past → with_turns s k (t ∷ ts) a ≡ with_turns s k ts b
    go true e = absurd (cc (h ∙ ap (λ p. option_map (with_below s.mover a) (cond p None (Some (tally a.left (nodes (next s t) k) (wins Black (next s t) k) (wins White (next s t) k))))) e))
    go false e =
        let m : ℕ = nodes (next s t) k in
        let rest : ℕ = sum_by (λ u. nodes (next s u) k) ts in
        let fits : m ≤ a.left = ltb-false a.left m e in
        let made : b ≡ with_below s.mover a (tally a.left m (wins Black (next s t) k) (wins White (next s t) k)) =
        cc (h ∙ ap (λ p. option_map (with_below s.mover a) (cond p None (Some (tally a.left m (wins Black (next s t) k) (wins White (next s t) k))))) e) in
        let all : sum_by (λ u. nodes (next s u) k) (t ∷ ts) ≡ m + rest = sum_by-cons (λ u. nodes (next s u) k) t ts in
        let left : a.left - (m + rest) ≡ a.left - m - rest = omega arith in
        ap (λ n. unless_past a.left n
        (either_or_both (same_colour s.mover Black) a.black (some_or_each (same_colour s.mover Black) (λ u. wins Black (next s u) k) (t ∷ ts)))
        (either_or_both (same_colour s.mover White) a.white (some_or_each (same_colour s.mover White) (λ u. wins White (next s u) k) (t ∷ ts)))) all
        ∙ ap₂ (λ p (c : Tally). cond p None (Some c)) (less_left a.left m rest fits) (λ i. record {
          left = left i;
          black = (ap (either_or_both (same_colour s.mover Black) a.black) (either_more (same_colour s.mover Black) (λ u. wins Black (next s u) k) t ts) ∙ sym (either_assoc (same_colour s.mover Black) a.black (wins Black (next s t) k) _)) i;
          white = (ap (either_or_both (same_colour s.mover White) a.white) (either_more (same_colour s.mover White) (λ u. wins White (next s u) k) t ts) ∙ sym (either_assoc (same_colour s.mover White) a.white (wins White (next s t) k) _)) i;
        })
        ∙ sym (ap (with_turns s k ts) made)

abbrev all_seen : GameState → ℕ → List Ply → Tally → Tally
all_seen s k ts a = tally a.left (sum_by (λ u. nodes (next s u) k) ts)
    (either_or_both (same_colour s.mover Black) a.black (some_or_each (same_colour s.mover Black) (λ u. wins Black (next s u) k) ts))
    (either_or_both (same_colour s.mover White) a.white (some_or_each (same_colour s.mover White) (λ u. wins White (next s u) k) ts))

pub turn_past : (s : GameState) (k : ℕ) (t : Ply) (ts : List Ply) (a : Tally) → None ≡ option_map (with_below s.mover a) (tally_of (next s t) k a.left) → with_turns s k (t ∷ ts) a ≡ None
unfolding tally_of with_turns
turn_past s k t ts a h = go (nat_lt a.left (nodes (next s t) k)) refl
  where
    go : (past : Bool) → nat_lt a.left (nodes (next s t) k) ≡ past → with_turns s k (t ∷ ts) a ≡ None
    go false e = absurd (cc (h ∙ ap (λ p. option_map (with_below s.mover a) (cond p None (Some (tally a.left (nodes (next s t) k) (wins Black (next s t) k) (wins White (next s t) k))))) e))
    go true e =
        let high : a.left < nodes (next s t) k = ltb-true a.left (nodes (next s t) k) e in
        let all : sum_by (λ u. nodes (next s u) k) (t ∷ ts) ≡ nodes (next s t) k + sum_by (λ u. nodes (next s u) k) ts = sum_by-cons (λ u. nodes (next s u) k) t ts in
        ap (λ p. cond p None (Some (all_seen s k (t ∷ ts) a))) (lt-ltb a.left (sum_by (λ u. nodes (next s u) k) (t ∷ ts)) (omega arith))

pub turns_done : (s : GameState) (k : ℕ) (a : Tally) → with_turns s k [] a ≡ Some a
unfolding with_turns
turns_done s k a =
    let left : a.left - 0 ≡ a.left = omega arith in
    ap (λ p. cond p None (Some (all_seen s k [] a))) (le-ltb a.left 0 (omega arith))
    ∙ ap Some (λ i. record {
      left = left i;
      black = either_none (same_colour s.mover Black) (λ u. wins Black (next s u) k) a.black i;
      white = either_none (same_colour s.mover White) (λ u. wins White (next s u) k) a.white i;
    })

-- what a tally decides
pub decided : (s : GameState) (k allowed : ℕ) (t : Tally) → Some t ≡ tally_of s k allowed → (if t.black then Wins Black else (if t.white then Wins White else Neither)) ≡ decision s k allowed
unfolding tally_of
decided s k allowed t h = go (nat_lt allowed (nodes s k)) refl
  where
    go : (past : Bool) → nat_lt allowed (nodes s k) ≡ past → (if t.black then Wins Black else (if t.white then Wins White else Neither)) ≡ decision s k allowed
    go true e = absurd (cc (h ∙ ap (λ p. cond p None (Some (tally allowed (nodes s k) (wins Black s k) (wins White s k)))) e))
    go false e =
        let made : t ≡ tally allowed (nodes s k) (wins Black s k) (wins White s k) = cc (h ∙ ap (λ p. cond p None (Some (tally allowed (nodes s k) (wins Black s k) (wins White s k)))) e) in
        ap (λ (u : Tally). if u.black then Wins Black else (if u.white then Wins White else Neither)) made
        ∙ sym (ap (λ p. if p then Limit else (if wins Black s k then Wins Black else (if wins White s k then Wins White else Neither))) e)

pub past_decided : (s : GameState) (k allowed : ℕ) → None ≡ tally_of s k allowed → Limit ≡ decision s k allowed
unfolding tally_of
past_decided s k allowed h = go (nat_lt allowed (nodes s k)) refl
  where
    go : (past : Bool) → nat_lt allowed (nodes s k) ≡ past → Limit ≡ decision s k allowed
    go true e = sym (ap (λ p. if p then Limit else (if wins Black s k then Wins Black else (if wins White s k then Wins White else Neither))) e)
    go false e = absurd (cc (h ∙ ap (λ p. cond p None (Some (tally allowed (nodes s k) (wins Black s k) (wins White s k)))) e))

-- nobody has won, by the test of it
pub open_state : (s : GameState) (o : Option Colour) (b : Bool) → o ≡ over s → b ≡ is_some o → b ≡ false → over s ≡ None
open_state s None b is test failed = sym is
open_state s (Some x) b is test failed = absurd (cc)

-- what holds of an answer, turned into something else
pub if_ok_map : {A E : Type 0} (r : Result A E) (P Q : A → Type 0) → ((a : A) → P a → Q a) → IfOk r P → IfOk r Q
if_ok_map (Ok a) P Q f h = f a h
if_ok_map (Err e) P Q f h = tt
