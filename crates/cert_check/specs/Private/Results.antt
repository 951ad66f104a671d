-- What a walk over a tree gathers: the results of moves, in the order of the tree. No public clause rests on these definitions.
--     Gathered      what was gathered, or is still to be gathered
--     of_node past s n, of_branches past s bs      all that a tree, or the trees of replies, give from the state s on
--     node_at past line ls node, due_at past line ls rs      all that is left at a tree, or at replies, with the open replies of the states before
--     claim_with q x had absent body      the claim of one lemma that is made of them
--     IsPlayable s n      each turn of the tree is legal where it is made, and nobody has won there
use Rattle.std.specs.Prelude.{◌≡◌, ℕ, ◌+◌, Bool, not, ◌&&◌, List, [], ◌∷◌, ◌++◌, filter, Option, Some, None, IsTrue, reverse}
use Rattle.std.specs.Borrow.{Bor}
use Rattle.go_points.specs.declared.Cell.{Cell}
use Rattle.go_points.specs.declared.Turn.{Turn}
use Rattle.go_points.specs.Grid.{same_cells}
use Rattle.go_turns.specs.History.{has_occurred}
use Rattle.go_points.specs.declared.Colour.{Colour}
use Rattle.target_game.specs.State.{GameProblem, GameState, Line, start}
use Rattle.target_game.specs.Legal.{legal}
use Rattle.target_game.specs.Next.{next}
use Rattle.target_game.specs.Over.{over}
use Rattle.proof_cert.specs.Claim.{Node, won, by_lemma, play, all, Branches, no_branch, branch, Claim, node_count, node_count_below}
use Rattle.proof_cert.specs.Certificate.{node_of, replies_of}
use Rattle.proof_cert.specs.declared.certificate.Node as code
use Rattle.cert_check.specs.declared.results.Later.{Later}
use Rattle.cert_check.specs.Parts.{head_of}
use Rattle.cert_check.specs.Lift.{play_results, play_results_below, reply_results, reply_results_below}

-- the colouring has occurred, and is not the present one
abbrev pub is_past : GameState → List Cell → Bool
is_past past c = has_occurred past.history c && not (same_cells c past.colouring)

pub record Gathered : Type 0 where
  pub plays : List (List Cell)
  pub barred : List (List Cell)
  pub nodes : ℕ

abbrev pub gathered : List (List Cell) → List (List Cell) → ℕ → Gathered
gathered plays barred nodes = record { plays = plays; barred = barred; nodes = nodes }

abbrev pub nothing : Gathered
nothing = gathered [] [] 0

abbrev pub joined : Gathered → Gathered → Gathered
joined a b = gathered (a.plays ++ b.plays) (a.barred ++ b.barred) (a.nodes + b.nodes)

abbrev pub of_node : GameState → GameState → Node → Gathered
of_node past s n = gathered (play_results s n) (filter (is_past past) (reply_results s n)) (node_count n)

abbrev pub of_branches : GameState → GameState → Branches → Gathered
of_branches past s bs = gathered (play_results_below s bs) (filter (is_past past) (reply_results_below s bs)) (node_count_below bs)

-- the open replies, latest first, at the states before
abbrev pub reversed : List Later → List Later
reversed ls = reverse ls

abbrev pub of_later : GameState → List Later → List GameState → Gathered
of_later past [] ss = nothing
of_later past (l ∷ ls) [] = nothing
of_later past (l ∷ ls) (s ∷ ss) = joined (of_branches past s (replies_of s.game.size l.replies.now)) (of_later past ls ss)

abbrev pub node_at : GameState → Line → List Later → code.Node → Gathered
node_at past line ls node = joined (of_node past line.state (node_of line.state.game.size node)) (of_later past (reversed ls) line.before)

abbrev pub left_at : GameState → Line → List Later → Option (Bor code.Node) → Gathered
left_at past line ls None = nothing
left_at past line ls (Some node) = node_at past line ls node.now

abbrev pub due_at : GameState → Line → List Later → List (Turn × code.Node) → Gathered
due_at past line ls rs = joined (of_branches past line.state (replies_of line.state.game.size rs)) (of_later past (reversed ls) line.before)

-- ---- what may be played

abbrev mutual
  pub IsPlayable : GameState → Node → Type 0
  IsPlayable s won = Unit {0}
  IsPlayable s (by_lemma j) = Unit {0}
  IsPlayable s (play t n) = (over s ≡ None) × IsTrue (legal s t) × IsPlayable (next s t) n
  IsPlayable s (all bs) = ArePlayable s bs

  pub ArePlayable : GameState → Branches → Type 0
  ArePlayable s no_branch = Unit {0}
  ArePlayable s (branch t n bs) = (over s ≡ None) × IsTrue (legal s t) × IsPlayable (next s t) n × ArePlayable s bs

abbrev pub IsPlayablePart : GameState → Option (Bor code.Node) → Type 0
IsPlayablePart s None = Unit {0}
IsPlayablePart s (Some node) = IsPlayable s (node_of s.game.size node.now)

-- for each of the open replies there is an earlier state, and they may be played there
abbrev pub AreOpen : List Later → List GameState → Type 0
AreOpen [] [] = Unit {0}
AreOpen (l ∷ ls) (s ∷ ss) = ArePlayable s (replies_of s.game.size l.replies.now) × AreOpen ls ss
AreOpen _ _ = ⊥

-- ---- the claim that is made

abbrev pub version_for : List (List Cell) → ℕ
version_for [] = 1
version_for (c ∷ cs) = 2

-- the claim of one lemma at the problem's start, with these lists and this tree
abbrev pub claim_with : GameProblem → Colour → List (List Cell) → List (List Cell) → Node → Claim
claim_with q x had absent body = record {
  version = version_for had;
  size = q.game.size;
  winner = x;
  lemmas = record { head = head_of q.mover q.passes (start q).colouring had absent; body = body } ∷ [];
  main = by_lemma 1;
}
