-- What full search finds, turn by turn and depth by depth.
use Rattle.full_search.proofs.Common.{◌≡◌, ℕ, ◌+◌, ◌<◌, ◌≤◌, ◌⊎◌, inl, inr, false, IsTrue, [], ◌∷◌, None, refl, sym, ◌∙◌, ap, subst, arith, OnOk, Colour, opponent_of, ply_of, GameState, legal_turns, next, over, wins, nodes, Node, node_count, node_of, node_of_won, same_colour-eq, Tried, Shows, nodes_behind, NeitherWins, IsFound, IsTurnSeen}
use Rattle.std.proofs.Common.{zero, suc, Bool, true, ◌&&◌, ◌||◌, List, ◌++◌, Some, is_none, sum_by, add-one, zero-le, append_assoc, nat_eq, Result, Ok, Err}
use Rattle.std.specs.List.{list_any, list_all}
use Rattle.std.proofs.lemmas.List.Sums.{sum_by-cons, sum_by-append, sum_by-le-sum_by}
use Rattle.std.proofs.lemmas.List.Folds.{list_any-append, list_all-append}
use Rattle.go_points.specs.declared.Colour.TheVariants.{Black, White}
use Rattle.go_points.specs.declared.Turn.{Turn}
use Rattle.go_points.specs.declared.Turn.TheVariants.{Pass}
use Rattle.go_points.specs.Grid.{same_colour}
use Rattle.go_points.specs.Ply.{Ply, pass}
use Rattle.go_points.proofs.Lists.{Member}
use Rattle.target_game.specs.State.{Game}
use Rattle.target_game.specs.Legal.{legal}
use Rattle.target_game.specs.Wins.{is_winner, some_or_each}
use Rattle.target_game.proofs.Winning.{over_cases, wins_over, wins_none, wins_next, wins_by_turn, not_both, legal_member}
use Rattle.proof_cert.specs.Claim.{won, play, all, Branches, no_branch, branch, branch_turns, node_count_below, depth_of, depth_below}
use Rattle.proof_cert.specs.Certificate.{replies_of}
use Rattle.proof_cert.specs.declared.certificate.Node as code
use Rattle.proof_cert.specs.declared.certificate.Node.TheVariants.{Won}
use Rattle.proof_cert.proofs.ReadTrees.{joined, replies_pushed}
use Rattle.cert_check.specs.Body.{main_body, is_to_move}
use Rattle.cert_check.specs.Validity.{FitsNode, FitsBranches}
use Rattle.cert_check.proofs.Game.{same_colour-refl, winner_is}
use Rattle.cert_check.proofs.Members.{and_both, and_second}
use Rattle.cert_check.proofs.Soundness.{game-next}
use Rattle.full_search.specs.declared.search.Found.{Found}
use Rattle.full_search.specs.declared.search.Found.TheVariants.{Wins, Open, OutOfSteps}
use Rattle.full_search.specs.Private.Shown.{AllShow, AreSeen, IsWonBy}
use Rattle.go_points.proofs.Cells.{opponent_twice}
use Rattle.target_game.proofs.Moving.{colour_other}
use Rattle.target_game.proofs.Tallies.{nodes_over, nodes_next, nodes_some}
use Rattle.cert_check.proofs.Claiming.{legal-may}
use Rattle.std.proofs.lemmas.Bool.{false_from_ne_true}

-- THE NUMBER OF STATES

pub nodes_first : (s : GameState) → nodes s 0 ≡ 1
unfolding nodes
nodes_first s = refl

sum_least : {A : Type 0} (f : A → ℕ) (x : A) (xs : List A) → Member x xs → f x ≤ sum_by f xs
sum_least f x [] m = absurd m
sum_least f x (y ∷ ys) (inl e) = let sum = sum_by-cons f y ys in let at : f x ≡ f y = ap f e in omega arith
sum_least f x (y ∷ ys) (inr m) = let sum = sum_by-cons f y ys in let rest = sum_least f x ys m in omega arith

-- where nobody has won
pub nodes_then : (s : GameState) (k : ℕ) → over s ≡ None → nodes s (k + 1) ≡ 1 + nodes_behind s k (legal_turns s)
nodes_then s k e = ap (nodes s) (add-one k) ∙ nodes_next s k e

pub nodes_least : (s : GameState) (k : ℕ) (t : Ply) → over s ≡ None → IsTrue (legal s t) → nodes (next s t) k < nodes s (k + 1)
nodes_least s k t e l = let all = nodes_then s k e in let one = sum_least (λ u. nodes (next s u) k) t (legal_turns s) (legal_member s t l) in omega arith

nodes_more : (s : GameState) (k : ℕ) → nodes s k ≤ nodes s (suc k)
nodes_more s zero = let one : nodes s 0 ≡ 1 = nodes_first s in let some = nodes_some s 1 in omega arith
nodes_more s (suc k) = go (over_cases s) (λ t. nodes_more (next s t) k)
  where
    go : (over s ≡ None) ⊎ ((y : Colour) × (over s ≡ Some y)) → ((t : Ply) → nodes (next s t) k ≤ nodes (next s t) (suc k)) → nodes s (suc k) ≤ nodes s (suc (suc k))
    go (inl e) below =
        let a = nodes_next s k e in
        let b = nodes_next s (suc k) e in
        let sum = sum_by-le-sum_by (λ t. nodes (next s t) k) (λ t. nodes (next s t) (suc k)) (legal_turns s) below in
        omega arith
    go (inr (y, e)) below = let a = nodes_over s (suc k) y e in let b = nodes_over s (suc (suc k)) y e in omega arith

pub nodes_within : (s : GameState) (i j : ℕ) → i ≤ j → nodes s i ≤ nodes s j
nodes_within s i zero le = let e : i ≡ 0 = omega arith in rw e (omega arith)
nodes_within s i (suc j) le =
    let split : (i ≡ suc j) ⊎ (i ≤ j) = grind arith in
    elim split [ inl e ↦ rw e (omega arith) | inr less ↦ let a = nodes_within s i j less in let b = nodes_more s j in omega arith ]

-- COLOURS

pub other_side : (x m : Colour) → same_colour x m ≡ false → x ≡ opponent_of m
other_side Black Black h = absurd (cc)
other_side Black White h = refl
other_side White Black h = refl
other_side White White h = absurd (cc)

to_move : (x : Colour) (s : GameState) → over s ≡ None → s.mover ≡ x → IsTrue (is_to_move x s)
to_move x s e m = and_both (is_none (over s)) (same_colour s.mover x) (rw e refl) (rw m (same_colour-refl x))

-- ONE TREE

-- somebody has won
pub shows_won : (x : Colour) (s : GameState) (k : ℕ) → over s ≡ Some x → Shows x s k won
shows_won x s k e = record {
  fits = e;
  count = let some = nodes_some s k in omega arith;
  depth = omega arith;
  wins = wins_over x x s k e ∙ same_colour-refl x;
}

-- the mover wins after a legal turn
pub shows_play : (x : Colour) (s : GameState) (k : ℕ) (t : Ply) (n : Node) → s.mover ≡ x → over s ≡ None → IsTrue (legal s t) → Shows x (next s t) k n → Shows x s (k + 1) (play t n)
shows_play x s k t n m e l below = record {
  fits = (legal-may x s t (to_move x s e m) l, below.fits);
  count = let a = nodes_least s k t e l in let b = below.count in omega arith;
  depth = let d = below.depth in omega arith;
  wins = ap (wins x s) (add-one k) ∙ wins_by_turn x s k t e (rw m (same_colour-refl x)) l below.wins;
}

-- neither side has won, and no turn is left
pub open_last : (s : GameState) → over s ≡ None → NeitherWins s 0
open_last s e x = wins_none x s e

-- ALL TURNS

pub nothing_seen : (s : GameState) (k : ℕ) (seen : Tried) → seen.is_open ≡ false → seen.replies.items ≡ [] → AreSeen s k [] seen
nothing_seen s k seen closed none = record {
  mover = refl;
  some = λ e. absurd (cc);
  all = λ e. subst (λ rs. AllShow (opponent_of s.mover) s k [] (replies_of s.game.size rs)) (sym none) (record { turns = refl; fits = tt; count = zero-le; depth = zero-le; wins = refl });
}

not_any : (f : Ply → Bool) (ts : List Ply) (t : Ply) → list_any f ts ≡ false → f t ≡ false → list_any f (ts ++ t ∷ []) ≡ false
not_any f ts t a b = list_any-append f ts (t ∷ []) ∙ ap (λ c. c || (f t || false)) a ∙ ap (λ c. c || false) b

not_all_before : (f : Ply → Bool) (ts us : List Ply) → list_all f ts ≡ false → list_all f (ts ++ us) ≡ false
not_all_before f ts us a = list_all-append f ts us ∙ ap (λ c. c && list_all f us) a

all_more : (f : Ply → Bool) (ts : List Ply) (t : Ply) → list_all f ts ≡ true → f t ≡ true → list_all f (ts ++ t ∷ []) ≡ true
all_more f ts t a b = list_all-append f ts (t ∷ []) ∙ ap (λ c. c && (f t && true)) a ∙ ap (λ c. c && true) b

-- the other side wins after it
mover_loses : (s r : GameState) (k : ℕ) → wins (opponent_of s.mover) r k ≡ true → wins s.mover r k ≡ false
mover_loses s r k h = false_from_ne_true (wins s.mover r k) (λ e. not_both s.mover r k k e h)

pub seen_late : (s : GameState) (k : ℕ) (ts : List Ply) (t : Ply) (seen : Tried) (n : Node) → seen.is_open ≡ true → Shows (opponent_of s.mover) (next s t) k n → AreSeen s k ts seen → AreSeen s k (ts ++ t ∷ []) seen
seen_late s k ts t seen n now h before = record {
  mover = not_any (λ u. wins s.mover (next s u) k) ts t before.mover (mover_loses s (next s t) k h.wins);
  some = λ e. not_all_before (λ u. wins (opponent_of s.mover) (next s u) k) ts (t ∷ []) (before.some e);
  all = λ e. absurd (cc);
}

-- a branch more, after the others
module _ (t : Ply) (n : Node) where
  joined_turns : (bs : Branches) → branch_turns (joined bs (branch t n no_branch)) ≡ branch_turns bs ++ t ∷ []
  joined_turns no_branch = refl
  joined_turns (branch u m bs) = ap (λ us. u ∷ us) (joined_turns bs)

  joined_count : (bs : Branches) → node_count_below (joined bs (branch t n no_branch)) ≡ node_count_below bs + node_count n
  joined_count no_branch = omega arith
  joined_count (branch u m bs) = let rest = joined_count bs in omega arith

  joined_depth : (d : ℕ) (bs : Branches) → depth_below bs ≤ d → depth_of n ≤ d → depth_below (joined bs (branch t n no_branch)) ≤ d
  joined_depth d no_branch a b = omega arith
  joined_depth d (branch u m bs) a b = let rest = joined_depth d bs (omega arith) b in omega arith

  joined_fits : (x : Colour) (s : GameState) (bs : Branches) → FitsBranches (main_body x []) s bs → FitsNode (main_body x []) (next s t) n → FitsBranches (main_body x []) s (joined bs (branch t n no_branch))
  joined_fits x s no_branch a b = (b, tt)
  joined_fits x s (branch u m bs) a b = (a.0, joined_fits x s bs a.1 b)

all_show_more : (x : Colour) (s : GameState) (k : ℕ) (ts : List Ply) (bs : Branches) (t : Ply) (n : Node) → AllShow x s k ts bs → Shows x (next s t) k n → AllShow x s k (ts ++ t ∷ []) (joined bs (branch t n no_branch))
all_show_more x s k ts bs t n before h = record {
  turns = joined_turns t n bs ∙ ap (λ us. us ++ t ∷ []) before.turns;
  fits = joined_fits t n x s bs before.fits h.fits;
  count = let a = joined_count t n bs in
      let b = sum_by-append (λ u. nodes (next s u) k) ts (t ∷ []) in
      let c = sum_by-cons (λ u. nodes (next s u) k) t [] in
      let d = before.count in
      let e = h.count in
      omega arith;
  depth = joined_depth t n (k + 1) bs before.depth h.depth;
  wins = all_more (λ u. wins x (next s u) k) ts t before.wins h.wins;
}

pub seen_reply : (s : GameState) (k : ℕ) (ts : List Ply) (turn : Turn) (old new : Tried) (tree : code.Node) → old.is_open ≡ false → new.is_open ≡ false → new.replies.items ≡ old.replies.items ++ (turn, tree) ∷ [] → Shows (opponent_of s.mover) (next s (ply_of s.game.size turn)) k (node_of s.game.size tree) → AreSeen s k ts old → AreSeen s k (ts ++ ply_of s.game.size turn ∷ []) new
seen_reply s k ts turn old new tree was is items h before = record {
  mover = not_any (λ u. wins s.mover (next s u) k) ts (ply_of s.game.size turn) before.mover (mover_loses s (next s (ply_of s.game.size turn)) k h.wins);
  some = λ e. absurd (cc);
  all = λ e. subst (λ bs. AllShow (opponent_of s.mover) s k (ts ++ ply_of s.game.size turn ∷ []) bs) (sym (ap (replies_of s.game.size) items ∙ replies_pushed s.game.size old.replies.items (turn, tree)))
      (all_show_more (opponent_of s.mover) s k ts (replies_of s.game.size old.replies.items) (ply_of s.game.size turn) (node_of s.game.size tree) (before.all was) h);
}

-- all turns were seen
turned : (a b : Colour) → same_colour a b ≡ false → same_colour b a ≡ false
turned Black Black h = h
turned Black White h = refl
turned White Black h = refl
turned White White h = h

pub decided_open : (s : GameState) (k : ℕ) (seen : Tried) → over s ≡ None → seen.is_open ≡ true → AreSeen s k (legal_turns s) seen → NeitherWins s (k + 1)
decided_open s k seen e now known x = ap (wins x s) (add-one k) ∙ wins_next x s k e ∙ at (same_colour s.mover x) refl
  where
    at : (b : Bool) → same_colour s.mover x ≡ b → some_or_each b (λ t. wins x (next s t) k) (legal_turns s) ≡ false
    at true m = subst (λ y. list_any (λ t. wins y (next s t) k) (legal_turns s) ≡ false) (same_colour-eq s.mover x m) known.mover
    at false m = subst (λ y. list_all (λ t. wins y (next s t) k) (legal_turns s) ≡ false) (sym (other_side x s.mover (turned s.mover x m))) (known.some now)

pub decided_lost : (s : GameState) (k : ℕ) (seen : Tried) → over s ≡ None → seen.is_open ≡ false → AreSeen s k (legal_turns s) seen → Shows (opponent_of s.mover) s (k + 1) (all (replies_of s.game.size seen.replies.items))
decided_lost s k seen e now known =
    let h = known.all now in
    record {
      fits = (to_move (opponent_of (opponent_of s.mover)) s e (sym (opponent_twice s.mover)), h.turns, h.fits);
      count = let a = nodes_then s k e in let b = h.count in omega arith;
      depth = let d = h.depth in omega arith;
      wins = ap (wins (opponent_of s.mover) s) (add-one k) ∙ wins_next (opponent_of s.mover) s k e ∙ ap (λ b. some_or_each b (λ t. wins (opponent_of s.mover) (next s t) k) (legal_turns s)) (colour_other s.mover) ∙ h.wins;
    }

-- WHAT IS FOUND BEHIND A TURN

pub found_won : (s : GameState) (k left : ℕ) (t : Ply) (below : Found) (x : Colour) (tree : code.Node) → below ≡ Wins x tree → IsFound (next s t) k left below → Shows x (next s t) k (node_of s.game.size tree)
found_won s k left t below x tree is f =
    let shown : Shows x (next s t) k (node_of (next s t).game.size tree) = subst (λ b. IsFound (next s t) k left b) is f in
    subst (λ (g : Game). Shows x (next s t) k (node_of g.size tree)) (game-next s t) shown

pub turn_won : (s : GameState) (k left : ℕ) (turn : Turn) (x : Colour) (old new : Tried) (tree : code.Node) (found : Found) → s.mover ≡ x → over s ≡ None → IsTrue (legal s (ply_of s.game.size turn)) → Shows x (next s (ply_of s.game.size turn)) k (node_of s.game.size tree) → IsWonBy x turn tree found → IsTurnSeen s k (ply_of s.game.size turn) left old new (Some found)
turn_won s k left turn x old new tree (Wins y above) m e l h by =
    let shown = shows_play x s k (ply_of s.game.size turn) (node_of s.game.size tree) m e l h in
    subst (λ (z : Colour). Shows z s (k + 1) (node_of s.game.size above)) (sym by.0) (subst (λ (n : Node). Shows x s (k + 1) n) (sym (by.1 s.game.size)) shown)
turn_won s k left turn x old new tree Open m e l h by = absurd by
turn_won s k left turn x old new tree OutOfSteps m e l h by = absurd by

-- TURN BY TURN

-- the turns at points below i were seen, with these steps left before and after
pub record TurnsSeen (s : GameState) (k : ℕ) (due : List Ply) (before left : ℕ) (seen : Tried) : Type 0 where
  pub turns : List Ply
  pub all_turns : turns ++ due ≡ legal_turns s
  pub known : AreSeen s k turns seen
  pub fewer : left ≤ before
  pub steps : before ≤ left + nodes_behind s k turns

pub turns_begun : (s : GameState) (k before : ℕ) (due : List Ply) (seen : Tried) → due ≡ legal_turns s → seen.is_open ≡ false → seen.replies.items ≡ [] → TurnsSeen s k due before before seen
turns_begun s k before due seen whole closed none = record { turns = []; all_turns = whole; known = nothing_seen s k seen closed none; fewer = omega arith; steps = omega arith }

-- a turn more
behind_more : (s : GameState) (k : ℕ) (ts : List Ply) (t : Ply) → nodes_behind s k (ts ++ t ∷ []) ≡ nodes_behind s k ts + nodes (next s t) k
behind_more s k ts t = let a = sum_by-append (λ u. nodes (next s u) k) ts (t ∷ []) in let b = sum_by-cons (λ u. nodes (next s u) k) t [] in omega arith

-- the turns seen and this one are among all
behind_all : (s : GameState) (k : ℕ) (ts us : List Ply) (t : Ply) → ts ++ t ∷ us ≡ legal_turns s → nodes_behind s k ts + nodes (next s t) k ≤ nodes_behind s k (legal_turns s)
behind_all s k ts us t e =
    let a = sum_by-append (λ u. nodes (next s u) k) ts (t ∷ us) in
    let b = sum_by-cons (λ u. nodes (next s u) k) t us in
    let c : nodes_behind s k (ts ++ t ∷ us) ≡ nodes_behind s k (legal_turns s) = ap (nodes_behind s k) e in
    omega arith

pub turns_more : (s : GameState) (k before left now : ℕ) (t : Ply) (ds us : List Ply) (old new : Tried) → ds ≡ t ∷ us → TurnsSeen s k ds before left old → now ≤ left → left ≤ now + nodes (next s t) k → IsTurnSeen s k t left old new None → TurnsSeen s k us before now new
turns_more s k before left now t ds us old new here h fewer steps seen = record {
  turns = h.turns ++ t ∷ [];
  all_turns = append_assoc h.turns (t ∷ []) us ∙ ap (λ us. h.turns ++ us) (sym here) ∙ h.all_turns;
  known = seen h.turns h.known;
  fewer = let a = h.fewer in omega arith;
  steps = let a = h.steps in let b = behind_more s k h.turns t in omega arith;
}

-- the steps after some of the turns are no more than those after all
pub turns_steps : (s : GameState) (k before left now : ℕ) (t : Ply) (ds us : List Ply) (old : Tried) → ds ≡ t ∷ us → TurnsSeen s k ds before left old → left ≤ now + nodes (next s t) k → before ≤ now + nodes_behind s k (legal_turns s)
turns_steps s k before left now t ds us old here h steps =
    let a = behind_all s k h.turns us t (ap (λ vs. h.turns ++ vs) (sym here) ∙ h.all_turns) in
    let b = h.steps in
    omega arith

-- what decides the search after a turn decides it
pub turns_found : (s : GameState) (k before left : ℕ) (t : Ply) (ds us : List Ply) (old new : Tried) (found : Found) → over s ≡ None → ds ≡ t ∷ us → TurnsSeen s k ds before left old → IsTurnSeen s k t left old new (Some found) → IsFound s (k + 1) (before + 1) found
turns_found s k before left t ds us old new (Wins x tree) e here h seen = seen
turns_found s k before left t ds us old new Open e here h seen = absurd seen
turns_found s k before left t ds us old new OutOfSteps e here h seen =
    let a = behind_all s k h.turns us t (ap (λ vs. h.turns ++ vs) (sym here) ∙ h.all_turns) in
    let b = h.steps in
    let c = nodes_then s k e in
    omega arith

-- WHAT HOLDS OF AN ANSWER

pub on_ok_any : {A E : Type 0} (r : Result A E) (P : Type 0) → P → OnOk r P
on_ok_any (Ok a) P h = h
on_ok_any (Err e) P h = tt

pub on_ok_map : {A E : Type 0} (r : Result A E) (P Q : Type 0) → (P → Q) → OnOk r P → OnOk r Q
on_ok_map (Ok a) P Q f h = f h
on_ok_map (Err e) P Q f h = tt

-- a second pass in a row that wins for the mover
pub pass_won : (s : GameState) (k left : ℕ) (x : Colour) (found : Found) → over s ≡ None → (nat_eq s.passes 1 && is_winner s.mover (over (next s pass))) ≡ true → s.mover ≡ x → IsWonBy x Pass Won found → IsFound s (k + 1) left found
pass_won s k left x found e h m by =
    let mine : over (next s pass) ≡ Some s.mover = winner_is s.mover (over (next s pass)) (and_second (nat_eq s.passes 1) (is_winner s.mover (over (next s pass))) h) in
    let shown : Shows x (next s pass) k (node_of s.game.size Won) = subst (λ (n : Node). Shows x (next s pass) k n) (sym (node_of_won s.game.size)) (shows_won x (next s pass) k (mine ∙ ap Some m)) in
    at found by (shows_play x s k pass (node_of s.game.size Won) m e refl shown)
  where
    at : (found : Found) → IsWonBy x Pass Won found → Shows x s (k + 1) (play pass (node_of s.game.size Won)) → IsFound s (k + 1) left found
    at (Wins y tree) w shown = subst (λ (z : Colour). Shows z s (k + 1) (node_of s.game.size tree)) (sym w.0) (subst (λ (n : Node). Shows x s (k + 1) n) (sym (w.1 s.game.size)) shown)
    at Open w shown = absurd w
    at OutOfSteps w shown = absurd w
