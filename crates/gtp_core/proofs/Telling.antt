-- What a search found, told.
use Rattle.gtp_core.proofs.Common.{◌≡◌, ℕ, false, nat_eq, List, [], ◌∷◌, length, codes, Option, None, Some, is_some, Result, Ok, Err, inl, inr, refl, sym, ap, subst, IfOk, Colour, Turn, Place, Ply, pass, ply_of, TurnFault, GameRecord, Did, play_of, GameProblem, NoProblem, Win, IsFoundAt, GtpSession, size_of, stones_at, Meets, MayPlay, IsPlayed, answers, due_or_refusal, refuses, target_due, tells, reply, failure, success, turn_text}
use Rattle.gtp_core.specs.declared.refusal.Refusal.TheVariants.{BadTargets}
use Rattle.gtp_core.specs.declared.search.Found.{Found}
use Rattle.gtp_core.specs.declared.search.Found.TheVariants.{Loss, Unknown}
use Rattle.gtp_core.specs.Serving.{IsWinning, with_targets, with_turns}

module _ (s : GtpSession) (id : List ℕ) (n : ℕ) (k : Colour) where
  pub loss_told : {B E : Type 0} (items : B → List ℕ) (r : Result B E) (o : Option GameProblem) (f : Option Found) → IsFoundAt n k o f → f ≡ Some Loss
      → IfOk r (λ b. items b ≡ success id (codes "loss")) → IfOk r (λ b. Meets s id (due_or_refusal NoProblem o (tells k)) (reply (items b)) s)
  loss_told items (Err e) o f found is told = tt
  loss_told items (Ok b) None f found is told = absurd (subst (IsFoundAt n k None) is found)
  loss_told items (Ok b) (Some q) f found is told =
      let won = subst (IsFoundAt n k (Some q)) is found in
      (codes "loss", inr (inl (won.1, refl)), ap reply told, refl)

  pub unknown_told : {B E : Type 0} (items : B → List ℕ) (r : Result B E) (o : Option GameProblem) (f : Option Found) → IsFoundAt n k o f → f ≡ Some Unknown
      → IfOk r (λ b. items b ≡ success id (codes "unknown")) → IfOk r (λ b. Meets s id (due_or_refusal NoProblem o (tells k)) (reply (items b)) s)
  unknown_told items (Err e) o f found is told = tt
  unknown_told items (Ok b) None f found is told = absurd (subst (IsFoundAt n k None) is found)
  unknown_told items (Ok b) (Some q) f found is told = (codes "unknown", inr (inr refl), ap reply told, refl)

-- What a search plays: a turn that it found, or a pass.
pub win_may : (n : ℕ) (k : Colour) (o : Option GameProblem) (t : Turn) → IsFoundAt n k o (Some (Win t)) → MayPlay k o (ply_of n t)
win_may n k None t found = absurd found
win_may n k (Some q) t (size, found, on) = inl (subst (λ m. IsWinning k q (ply_of m t)) size found)

pub pass_may : (k : Colour) (o : Option GameProblem) → MayPlay k o pass
pass_may k None = refl
pass_may k (Some q) = inr refl

pub did_play : (due : Result GameRecord TurnFault) (old new : GameRecord) (u : Unit {0}) → Did due old (Ok u) new → due ≡ Ok new
did_play (Ok r) old new u is = ap Ok (sym is)
did_play (Err fault) old new u is = absurd is

pub turn_played : (s : GtpSession) (id bytes : List ℕ) (k : Colour) (q : Option GameProblem) (t : Ply) (after : GameRecord)
    → MayPlay k q t → bytes ≡ success id (turn_text (size_of s) t) → play_of s.turns k t ≡ Ok after → IsPlayed s id k q (reply bytes) (with_turns s after)
turn_played s id bytes k q t after may written played = record { turn = t; may = may; written = ap reply written; after = after; played = played; kept = refl }

-- targets that are not all stones of one colour
pub targets_refused : {B E : Type 0} (s : GtpSession) (id : List ℕ) (set : List Place) (items : B → List ℕ) (r : Result B E) → nat_eq (length set) 0 ≡ false → is_some (stones_at s set) ≡ false
    → IfOk r (λ b. items b ≡ failure id (codes "bad targets")) → IfOk r (λ b. Meets s id (target_due s set) (reply (items b)) s)
targets_refused s id [] items r some none told = absurd (cc some)
targets_refused s id (p ∷ ps) items (Err e) some none told = tt
targets_refused s id (p ∷ ps) items (Ok b) some none told = go (stones_at s (p ∷ ps)) none
  where
    go : (o : Option Colour) → is_some o ≡ false → Meets s id (elim o [ None ↦ refuses BadTargets | Some k ↦ answers [] (with_targets s (p ∷ ps)) ]) (reply (items b)) s
    go None e = (ap reply told, refl)
    go (Some k) e = absurd (cc e)
