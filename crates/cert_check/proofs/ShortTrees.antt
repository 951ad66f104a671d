-- Trees of short claims: what is right at a state, as `Validity` says it of ordinary claims, where lemma 0 rests on shape.
use Rattle.cert_check.proofs.Common.{◌≡◌, ℕ, zero, suc, ◌&&◌, Bool, false, List, [], ◌∷◌, ◌++◌, Some, IsTrue, refl, is_none, slice_get, all_reach_empty, Colour, Cell, same_colour, opponent_of, Game, GameState, next, over, Node, won, by_lemma, play, all, Branches, no_branch, branch, branch_turns, Head, Lemma, is_ascending, Body, nowhere, lemma_body_by, lemma_body, lemma_start, is_to_move, due_replies, lives, MayPlay, Serves, FitsNode, FitsBranches, AreValidLemmas}
use Rattle.std.specs.Prelude.{nat_lt}
use Rattle.cert_check.proofs.Members.{and_second}

abbrev pub FitsLemma : Body → GameState → ℕ → Type 0
FitsLemma b s zero = IsTrue (lives b s)
FitsLemma b s (suc i) = (h : Head) × (slice_get b.earlier i ≡ Some h) × Serves b s h

abbrev mutual
  pub FitsShort : Body → GameState → Node → Type 0
  FitsShort b s won = over s ≡ Some b.winner
  FitsShort b s (by_lemma j) = FitsLemma b s j
  FitsShort b s (play t n) = MayPlay b s t × FitsShort b (next s t) n
  FitsShort b s (all bs) = IsTrue (is_to_move (opponent_of b.winner) s) × (branch_turns bs ≡ due_replies s) × FitBelow b s bs

  pub FitBelow : Body → GameState → Branches → Type 0
  FitBelow b s no_branch = Unit {0}
  FitBelow b s (branch t n bs) = FitsShort b (next s t) n × FitBelow b s bs

pub record IsShortLemma (shape : List Cell → Bool) (g : Game) (x : Colour) (earlier : List Head) (l : Lemma) : Type 0 where
  pub had : IsTrue (is_ascending l.head.had)
  pub absent : IsTrue (is_ascending l.head.absent)
  pub root : IsTrue (all_reach_empty g.size l.head.root)
  pub body : FitsShort (lemma_body_by shape x earlier l.head) (lemma_start g l.head) l.body

abbrev pub AreShortLemmas : (List Cell → Bool) → Game → Colour → List Head → List Lemma → Type 0
AreShortLemmas shape g x earlier [] = Unit {0}
AreShortLemmas shape g x earlier (l ∷ ls) = IsShortLemma shape g x earlier l × AreShortLemmas shape g x (earlier ++ l.head ∷ []) ls

-- WHERE NO SHAPE IS RESTED ON, IT IS THE SAME

pub lives_nowhere : (b : Body) (s : GameState) → b.shape s.colouring ≡ false → IsTrue (lives b s) → ⊥
lives_nowhere b s none h =
    let told = and_second (same_colour s.game.defender b.winner) (b.shape s.colouring) (and_second (is_none (over s) && nat_lt s.passes 2) (same_colour s.game.defender b.winner && b.shape s.colouring) h) in
    cc (told, none)

mutual
  pub to_short : (n : Node) (b : Body) (s : GameState) → FitsNode b s n → FitsShort b s n
  to_short won b s f = f
  to_short (by_lemma zero) b s f = let none = f.1 in absurd (cc none)
  to_short (by_lemma (suc i)) b s f = f
  to_short (play t n) b s f = (f.0, to_short n b (next s t) f.1)
  to_short (all bs) b s f = (f.0, f.1, to_short_below bs b s f.2)

  to_short_below : (bs : Branches) (b : Body) (s : GameState) → FitsBranches b s bs → FitBelow b s bs
  to_short_below no_branch b s f = tt
  to_short_below (branch t n bs) b s f = (to_short n b (next s t) f.0, to_short_below bs b s f.1)

mutual
  pub from_short : (n : Node) (b : Body) (s : GameState) → ((c : List Cell) → b.shape c ≡ false) → FitsShort b s n → FitsNode b s n
  from_short won b s none f = f
  from_short (by_lemma zero) b s none f = absurd (lives_nowhere b s (none s.colouring) f)
  from_short (by_lemma (suc i)) b s none f = f
  from_short (play t n) b s none f = (f.0, from_short n b (next s t) none f.1)
  from_short (all bs) b s none f = (f.0, f.1, from_short_below bs b s none f.2)

  from_short_below : (bs : Branches) (b : Body) (s : GameState) → ((c : List Cell) → b.shape c ≡ false) → FitBelow b s bs → FitsBranches b s bs
  from_short_below no_branch b s none f = tt
  from_short_below (branch t n bs) b s none f = (from_short n b (next s t) none f.0, from_short_below bs b s none f.1)

pub to_short_lemmas : (g : Game) (x : Colour) (earlier : List Head) (ls : List Lemma) → AreValidLemmas g x earlier ls → AreShortLemmas nowhere g x earlier ls
to_short_lemmas g x earlier [] v = tt
to_short_lemmas g x earlier (l ∷ ls) v =
    (record { had = v.0.had; absent = v.0.absent; root = v.0.root; body = to_short l.body (lemma_body x earlier l.head) (lemma_start g l.head) v.0.body }, to_short_lemmas g x (earlier ++ l.head ∷ []) ls v.1)

pub from_short_lemmas : (g : Game) (x : Colour) (earlier : List Head) (ls : List Lemma) → AreShortLemmas nowhere g x earlier ls → AreValidLemmas g x earlier ls
from_short_lemmas g x earlier [] v = tt
from_short_lemmas g x earlier (l ∷ ls) v =
    (record { had = v.0.had; absent = v.0.absent; root = v.0.root; body = from_short l.body (lemma_body x earlier l.head) (lemma_start g l.head) (λ c. refl) v.0.body }, from_short_lemmas g x (earlier ++ l.head ∷ []) ls v.1)
