-- A line has no fault exactly where what it says is right at its state.
use Rattle.cert_check.proofs.Common.{◌≡◌, ℕ, zero, suc, Bool, true, false, not, nat_eq, length, Option, Some, None, IsTrue, refl, ap, ◌∙◌, eqb-true, slice_get, list_all, opponent_of, Ply, pass, move, same_ply, GameState, over, is_winner, Head, Body, Why, ask, won_fault, play_fault, use_fault, head_fault, all_fault, reply_fault, due_replies, is_to_move, is_open, result_of, is_known, is_listed, same_state, lives, MayPlay, Serves, eq-eqb, not_won, not_listed, state_differs, needed_not_occurred, listed_occurred, listed_not_passed_on, lemma_not_lower, replies_differ}
use Rattle.cert_check.specs.Body.{wrong_side, turn_barred, repeats_known}
use Rattle.target_game.proofs.Winning.{same_ply_refl}
use Rattle.cert_check.proofs.Game.{same_colour-refl, winner_is}
use Rattle.cert_check.proofs.ShortTrees.{FitsLemma}

-- WHAT IS RIGHT WHERE THERE IS NO FAULT

pub ask_yes : (t : Bool) (w : Why) (o : Option Why) → ask t w o ≡ None → IsTrue t × (o ≡ None)
ask_yes true w o h = (refl, h)
ask_yes false w o h = absurd (cc)

pub won_asked : (b : Body) (s : GameState) → won_fault b s ≡ None → over s ≡ Some b.winner
won_asked b s h = winner_is b.winner (over s) (ask_yes (is_winner b.winner (over s)) _ None h).0

pub play_asked : (b : Body) (s : GameState) (t : Ply) → play_fault b s t ≡ None → MayPlay b s t
play_asked b s pass h = (ask_yes (is_to_move b.winner s) _ None h).0
play_asked b s (move p) h =
    let one = ask_yes (is_to_move b.winner s) _ _ h in
    let two = ask_yes (is_open s p) _ _ one.1 in
    let three = ask_yes (not (is_known s (result_of s p))) _ _ two.1 in
    let four = ask_yes (is_listed b.listed (result_of s p)) _ _ three.1 in
    (one.0, two.0, three.0, four.0)

head_asked : (b : Body) (s : GameState) (h : Head) → head_fault b s (Some h) ≡ None → Serves b s h
head_asked b s h e =
    let one = ask_yes (same_state h s) _ _ e in
    let two = ask_yes (list_all (is_known s) h.had) _ _ one.1 in
    let three = ask_yes (list_all (λ c. not (is_known s c)) h.absent) _ _ two.1 in
    let four = ask_yes (list_all (is_listed b.listed) h.absent) _ _ three.1 in
    record { state = one.0; had = two.0; absent = three.0; listed = four.0 }

pub use_asked : (b : Body) (s : GameState) (j : ℕ) → use_fault b s j ≡ None → FitsLemma b s j
use_asked b s zero e = (ask_yes (lives b s) _ None e).0
use_asked b s (suc i) e = at (slice_get b.earlier i) refl e
  where
    at : (o : Option Head) → slice_get b.earlier i ≡ o → head_fault b s o ≡ None → (h : Head) × (slice_get b.earlier i ≡ Some h) × Serves b s h
    at None e' h = absurd (cc)
    at (Some d) e' h = (d, e', head_asked b s d h)

pub all_asked : (b : Body) (s : GameState) (m : ℕ) → all_fault b s m ≡ None → IsTrue (is_to_move (opponent_of b.winner) s) × (m ≡ length (due_replies s))
all_asked b s m h =
    let one = ask_yes (is_to_move (opponent_of b.winner) s) _ _ h in
    let two = ask_yes (nat_eq m (length (due_replies s))) _ _ one.1 in
    (one.0, eqb-true m (length (due_replies s)) two.0)

-- THERE IS NO FAULT WHERE IT IS RIGHT

pub ask_on : (t : Bool) (w : Why) (o : Option Why) → IsTrue t → o ≡ None → ask t w o ≡ None
ask_on true w o h e = e
ask_on false w o h e = cc

pub won_yes : (b : Body) (s : GameState) → over s ≡ Some b.winner → won_fault b s ≡ None
won_yes b s e = ask_on (is_winner b.winner (over s)) not_won None (rw e (same_colour-refl b.winner)) refl

pub play_yes : (b : Body) (s : GameState) (t : Ply) → MayPlay b s t → play_fault b s t ≡ None
play_yes b s pass h = ask_on (is_to_move b.winner s) wrong_side None h refl
play_yes b s (move p) h = ask_on (is_to_move b.winner s) wrong_side _ h.0 (ask_on (is_open s p) turn_barred _ h.1 (ask_on (not (is_known s (result_of s p))) repeats_known _ h.2 (ask_on (is_listed b.listed (result_of s p)) not_listed None h.3 refl)))

head_yes : (b : Body) (s : GameState) (h : Head) → Serves b s h → head_fault b s (Some h) ≡ None
head_yes b s h f = ask_on (same_state h s) state_differs _ f.state (ask_on (list_all (is_known s) h.had) needed_not_occurred _ f.had (ask_on (list_all (λ c. not (is_known s c)) h.absent) listed_occurred _ f.absent (ask_on (list_all (is_listed b.listed) h.absent) listed_not_passed_on None f.listed refl)))

pub use_yes : (b : Body) (s : GameState) (j : ℕ) → FitsLemma b s j → use_fault b s j ≡ None
use_yes b s zero f = ask_on (lives b s) lemma_not_lower None f refl
use_yes b s (suc i) f = ap (head_fault b s) f.1 ∙ head_yes b s f.0 f.2

pub all_yes : (b : Body) (s : GameState) (m : ℕ) → IsTrue (is_to_move (opponent_of b.winner) s) → m ≡ length (due_replies s) → all_fault b s m ≡ None
all_yes b s m h e = ask_on (is_to_move (opponent_of b.winner) s) wrong_side _ h (ask_on (nat_eq m (length (due_replies s))) (replies_differ pass) None (eq-eqb m (length (due_replies s)) e) refl)

pub reply_yes : (t : Ply) → reply_fault t t ≡ None
reply_yes t = ask_on (same_ply t t) (replies_differ t) None (same_ply_refl t) refl
