-- A line asks about shape at one colouring at most: the present one.
use Rattle.cert_check.proofs.Common.{◌≡◌, ℕ, zero, suc, ◌&&◌, nat_lt, Bool, true, false, List, Option, Some, None, IsTrue, refl, sym, ap, ◌∙◌, if◌then◌else◌, is_none, Cell, same_colour, Ply, pass, move, ply_of, GameState, over, Head, Line, use_line, play_line, line_fits, had_of, not_of, Judge, NodeLine, Won, Play, All, Body, lemma_not_lower, ask, nowhere, lemma_start, lives, use_fault, head_fault, lemma_at, node_value, Machine, Heading, Owed, reply_due, body_of, counted, node_taken, not_taken, had_taken, phase_taken, taken, node_fault, IsReady, IsReadyFor, machine_of, heading_of, phase_held, answering, []}
use Rattle.std.proofs.Common.{◌↔◌}
use Rattle.target_game.specs.State as State
use Rattle.cert_check.specs.declared.judge.Phase.{Phase}
use Rattle.cert_check.specs.declared.judge.Phase.TheVariants as phases
use Rattle.cert_check.specs.declared.open_nodes.Due.TheVariants as dues
use Rattle.cert_check.specs.declared.lines.NodeLine.TheVariants.{Use}
use Rattle.cert_check.specs.Private.Judging.{lemma_of}
use Rattle.cert_check.proofs.ShortTrees.{lives_nowhere}

module _ (shape : List Cell → Bool) (b : Bool) (m : Machine) (f : Heading) where
  node_asks : (inside : Option Head) (d : ℕ) (s : GameState) (os : List Owed) (l : Line) → (l ≡ use_line 0 → shape s.colouring ≡ b) → node_taken shape m f inside d s os l ≡ node_taken (answering b) m f inside d s os l
  node_asks None d s os (use_line zero) h = ap (λ t. counted m d (ask ((is_none (over s) && nat_lt s.passes 2) && (same_colour s.game.defender f.winner && t)) lemma_not_lower None) (reply_due f None os)) (h refl)
  node_asks (Some g) d s os (use_line zero) h = ap (λ t. counted m d (ask ((is_none (over s) && nat_lt s.passes 2) && (same_colour s.game.defender f.winner && t)) lemma_not_lower None) (reply_due f (Some g) os)) (h refl)
  node_asks None d s os (play_line (move p)) h = refl
  node_asks (Some g) d s os (play_line (move p)) h = refl
  node_asks _ d s os _ h = refl

module _ (shape : List Cell → Bool) (b : Bool) (j : Judge) (l : Line) (same : l ≡ use_line 0 → shape j.state.state.colouring ≡ b) where
  not_asks : j.state.state.colouring ≡ j.root → (o : Option (List Cell))
      → not_taken shape j.problem.now (machine_of j) (heading_of j) (lemma_of j) (Some l) o ≡ not_taken (answering b) j.problem.now (machine_of j) (heading_of j) (lemma_of j) (Some l) o
  not_asks root None = node_asks shape b (machine_of j) (heading_of j) (Some (lemma_of j)) 1 (lemma_start j.problem.now.game (lemma_of j)) [] l (λ is. ap shape (sym root) ∙ same is)
  not_asks root (Some c) = refl

  had_asks : j.state.state.colouring ≡ j.root → (o : Option (List Cell))
      → had_taken shape j.problem.now (machine_of j) (heading_of j) (lemma_of j) (Some l) o ≡ had_taken (answering b) j.problem.now (machine_of j) (heading_of j) (lemma_of j) (Some l) o
  had_asks root None = not_asks root (not_of (Some l))
  had_asks root (Some c) = refl

  phase_asks : (p : Phase) → IsReadyFor j p → phase_taken shape j.problem.now (machine_of j) (phase_held j p) (Some l) ≡ phase_taken (answering b) j.problem.now (machine_of j) (phase_held j p) (Some l)
  phase_asks phases.ListingHad ready = had_asks (ap (λ (st : State.Line). st.state.colouring) ready.state) (had_of (Some l))
  phase_asks phases.Listing ready = not_asks (ap (λ (st : State.Line). st.state.colouring) ready.state) (not_of (Some l))
  phase_asks (phases.Body w dues.Node) ready = node_asks shape b (machine_of j) (heading_of j) _ _ j.state.state _ l same
  phase_asks _ ready = refl

  none_asks : (p : Phase) → phase_taken shape j.problem.now (machine_of j) (phase_held j p) None ≡ phase_taken (answering b) j.problem.now (machine_of j) (phase_held j p) None
  none_asks (phases.Body w dues.Node) = refl
  none_asks _ = refl

  pub asks_once : IsReady j → taken shape j.problem.now (machine_of j) (Some l) ≡ taken (answering b) j.problem.now (machine_of j) (Some l)
  asks_once ready = at (line_fits j.problem.now.game.size l)
    where
      at : (fits : Bool) → phase_taken shape j.problem.now (machine_of j) (phase_held j j.phase) (if fits then Some l else None) ≡ phase_taken (answering b) j.problem.now (machine_of j) (phase_held j j.phase) (if fits then Some l else None)
      at true = phase_asks j.phase ready
      at false = none_asks j.phase

-- two tests of the same are the same
pub same_answer : {P : Type 0} (a b : Bool) → IsTrue a ↔ P → IsTrue b ↔ P → a ≡ b
same_answer true true h g = refl
same_answer false false h g = refl
same_answer true false h g = sym (g.1 (h.0 refl))
same_answer false true h g = h.1 (g.0 refl)

-- ORDINARY BODIES

pub use_ordinary : (b : Body) (s : GameState) (k : ℕ) → b.shape ≡ nowhere → use_fault b s k ≡ head_fault b s (lemma_at b.earlier k)
use_ordinary b s zero none = at (lives b s) refl
  where
    at : (t : Bool) → lives b s ≡ t → ask t lemma_not_lower None ≡ Some lemma_not_lower
    at false e = refl
    at true e = absurd (lives_nowhere b s (ap (λ (shape : List Cell → Bool). shape s.colouring) none) e)
use_ordinary b s (suc i) none = refl

-- the other nodes say nothing of shape
pub other_fault : (b : Bool) (f : Heading) (inside : Option Head) (s : GameState) (n : ℕ) (k : NodeLine) → (node_value n k ≡ use_line 0 → ⊥) → node_fault (body_of nowhere f inside) s (node_value n k) ≡ node_fault (body_of (answering b) f inside) s (node_value n k)
other_fault b f inside s n (Use zero) other = absurd (other refl)
other_fault b f inside s n (Play t) other = turns inside (ply_of n t)
  where
    turns : (o : Option Head) (u : Ply) → node_fault (body_of nowhere f o) s (play_line u) ≡ node_fault (body_of (answering b) f o) s (play_line u)
    turns None pass = refl
    turns (Some g) pass = refl
    turns None (move p) = refl
    turns (Some g) (move p) = refl
other_fault b f None s n Won other = refl
other_fault b f None s n (Use (suc i)) other = refl
other_fault b f None s n (All k) other = refl
other_fault b f _ s n _ other = refl
