-- The state of a walk through a claim's tree: the turns whose trees are not finished. No public clause rests on these definitions.
--     expanded k      the answer tree that a checked claim gives at its problem's start
--     whole k turns line a      the tree at the first state of the line, if a is below the last of the open turns
--     due k turns line      how many turns are still to be made below the states before
--     Goes keep k whole size part turns line      the walk has come to this part, of a whole tree of this size
--     uses_below m n      each lemma that the tree n uses has a number from 1 to m
use Rattle.std.specs.Prelude.{◌≡◌, ℕ, ◌+◌, Bool, true, false, ◌&&◌, nat_le, List, [], ◌∷◌, Option, Some, None, IsTrue, length, reverse}
use Rattle.std.specs.Borrow.{Bor}
use Rattle.go_points.specs.declared.Turn.{Turn}
use Rattle.go_points.specs.Ply.{ply_of}
use Rattle.target_game.specs.State.{GameState, Line, start}
use Rattle.target_game.specs.Left.{line_after}
use Rattle.target_game.specs.Next.{next}
use Rattle.target_game.specs.Over.{over}
use Rattle.target_game.specs.Answers.{AnswerTree, turn, replies, ReplyTrees, none, reply, answer_size, reply_sizes, answers, all_answer}
use Rattle.proof_cert.specs.Claim.{Node, won, by_lemma, play, all, Branches, no_branch, branch, Lemma}
use Rattle.proof_cert.specs.Certificate as claim
use Rattle.proof_cert.specs.declared.certificate.Node as code
use Rattle.cert_check.specs.Checked.{CheckedClaim}
use Rattle.cert_check.specs.Expand.{expand, expand_node, expand_branches, answers_behind}
use Rattle.solution_tree.specs.Answer.{answer_of, replies_of}
use Rattle.solution_tree.specs.declared.opened.OpenTurn.{OpenTurn}
use Rattle.solution_tree.specs.declared.opened.OpenTurn.TheVariants.{Made, Reply}
use Rattle.solution_tree.specs.declared.opened.Part.{Part}
use Rattle.solution_tree.specs.declared.opened.Part.TheVariants as part

abbrev pub expanded : CheckedClaim → AnswerTree
expanded k = expand (claim.claim_of k.certificate) (start k.problem)

-- the answers of the claim's lemmas
abbrev pub lemma_answers : CheckedClaim → List (GameState → AnswerTree)
lemma_answers k = answers_behind [] (claim.claim_of k.certificate).lemmas

-- a node of the program's claim at a state
abbrev pub tree_at : CheckedClaim → Node → GameState → AnswerTree
tree_at k n s = expand_node (lemma_answers k) n s

abbrev pub branches_at : CheckedClaim → Branches → GameState → ReplyTrees
branches_at k bs s = expand_branches (lemma_answers k) bs s

-- the first replies, and then the second ones
abbrev pub replies_then : ReplyTrees → ReplyTrees → ReplyTrees
replies_then none rs = rs
replies_then (reply t a more) rs = reply t a (replies_then more rs)

-- ---- the open turns

-- what follows an open turn at its state
abbrev pub later_of : CheckedClaim → OpenTurn → Branches
later_of k (Made t) = no_branch
later_of k (Reply done t later) = claim.replies_of k.certificate.size later.now

-- the tree at the state of an open turn, if a is below that turn
abbrev pub closed : CheckedClaim → OpenTurn → GameState → AnswerTree → AnswerTree
closed k (Made t) s a = turn (ply_of k.certificate.size t) a
closed k (Reply done t later) s a =
    replies (replies_then (replies_of k.certificate.size done.items) (reply (ply_of k.certificate.size t) a (branches_at k (claim.replies_of k.certificate.size later.now) s)))

abbrev pub latest_first : List OpenTurn → List OpenTurn
latest_first os = reverse os

-- the open turns, latest first, each with the state that it was made at
abbrev pub finish : CheckedClaim → List OpenTurn → List GameState → AnswerTree → AnswerTree
finish k [] ss a = a
finish k (o ∷ os) [] a = a
finish k (o ∷ os) (s ∷ ss) a = finish k os ss (closed k o s a)

abbrev pub due_before : CheckedClaim → List OpenTurn → List GameState → ℕ
due_before k [] ss = 0
due_before k (o ∷ os) [] = 0
due_before k (o ∷ os) (s ∷ ss) = reply_sizes (branches_at k (later_of k o) s) + due_before k os ss

abbrev pub whole : CheckedClaim → List OpenTurn → Line → AnswerTree → AnswerTree
whole k os line a = finish k (latest_first os) line.before a

abbrev pub due : CheckedClaim → List OpenTurn → Line → ℕ
due k os line = due_before k (latest_first os) line.before

-- ---- the lemmas that a tree uses

abbrev mutual
  pub uses_below : ℕ → Node → Bool
  uses_below m won = true
  uses_below m (by_lemma j) = nat_le 1 j && nat_le j m
  uses_below m (play t n) = uses_below m n
  uses_below m (all bs) = all_below m bs

  pub all_below : ℕ → Branches → Bool
  all_below m no_branch = true
  all_below m (branch t n bs) = uses_below m n && all_below m bs

-- the body of each lemma uses only lower ones, if this many came before
abbrev pub lemmas_below : ℕ → List Lemma → Bool
lemmas_below m [] = true
lemmas_below m (l ∷ ls) = uses_below m l.body && lemmas_below (m + 1) ls

abbrev pub lemma_count : CheckedClaim → ℕ
lemma_count k = length k.certificate.lemmas.items

-- ---- the state of the walk

-- a node, or the replies that are left, can be played through at a state
pub record CanOpen (k : CheckedClaim) (s : GameState) (n : Node) : Type 0 where
  pub size : s.game.size ≡ k.certificate.size
  pub lemmas : IsTrue (uses_below (lemma_count k) n)
  pub answers : IsTrue (answers (claim.claim_of k.certificate).winner s (tree_at k n s))

pub record CanGoOn (k : CheckedClaim) (s : GameState) (bs : Branches) : Type 0 where
  pub size : s.game.size ≡ k.certificate.size
  pub lemmas : IsTrue (all_below (lemma_count k) bs)
  pub going : over s ≡ None
  pub answers : IsTrue (all_answer (claim.claim_of k.certificate).winner s (branches_at k bs s))

abbrev pub AllGoOn : CheckedClaim → List OpenTurn → List GameState → Type 0
AllGoOn k [] ss = Unit {0}
AllGoOn k (o ∷ os) [] = ⊥
AllGoOn k (o ∷ os) (s ∷ ss) = CanGoOn k s (later_of k o) × AllGoOn k os ss

abbrev pub AreOpen : CheckedClaim → List OpenTurn → Line → Type 0
AreOpen k os line = AllGoOn k (latest_first os) line.before

-- what a part of the claim, or a finished tree, is at a state, and how many turns it is
abbrev pub CanStand : CheckedClaim → Part → GameState → Type 0
CanStand k (part.Claimed node) s = CanOpen k s (claim.node_of k.certificate.size node.now)
CanStand k (part.Finished a) s = Unit {0}

abbrev pub part_tree : CheckedClaim → Part → GameState → AnswerTree
part_tree k (part.Claimed node) s = tree_at k (claim.node_of k.certificate.size node.now) s
part_tree k (part.Finished a) s = answer_of k.certificate.size a

-- a turn was made to come to a part of the claim
abbrev pub part_size : CheckedClaim → Part → GameState → ℕ
part_size k (part.Claimed node) s = 1 + answer_size (tree_at k (claim.node_of k.certificate.size node.now) s)
part_size k (part.Finished a) s = 0

-- The walk has come to a part, with these open turns and this line of play. With the part below them, the whole is this tree, if
-- finished trees are kept; and this many turns were still to be made.
pub record Goes (keep : Bool) (k : CheckedClaim) (tree : AnswerTree) (size : ℕ) (p : Part) (os : List OpenTurn) (line : Line) : Type 0 where
  pub turns : AreOpen k os line
  pub stands : CanStand k p line.state
  pub is : IsTrue keep → whole k os line (part_tree k p line.state) ≡ tree
  pub left : part_size k p line.state + due k os line ≡ size

-- a finished tree leaves the open turns as they were, or all are closed below it
abbrev pub IfFinished : Part → Type 0 → Type 0
IfFinished (part.Claimed node) claim = Unit {0}
IfFinished (part.Finished a) claim = claim

-- The first legal one of the replies was made, and is what they are expanded to, with those after it; or there is none.
pub record MakesReply (line : Line) (rs : List (Turn × code.Node)) (r : Turn × code.Node) (others : List (Turn × code.Node)) (after : Line) : Type 0 where
  pub made : after ≡ line_after line (ply_of line.state.game.size r.0)
  pub first : (es : List (GameState → AnswerTree)) → expand_branches es (claim.replies_of line.state.game.size rs) line.state
      ≡ reply (ply_of line.state.game.size r.0) (expand_node es (claim.node_of line.state.game.size r.1) (next line.state (ply_of line.state.game.size r.0))) (expand_branches es (claim.replies_of line.state.game.size others) line.state)
  pub below : (m : ℕ) → IsTrue (all_below m (claim.replies_of line.state.game.size rs)) → IsTrue (uses_below m (claim.node_of line.state.game.size r.1)) × IsTrue (all_below m (claim.replies_of line.state.game.size others))

abbrev pub MakesNext : Line → List (Turn × code.Node) → Option (Bor (Turn × code.Node) × Bor (List (Turn × code.Node))) → Line → Type 0
MakesNext line rs None after =
    (after ≡ line) × ((es : List (GameState → AnswerTree)) → expand_branches es (claim.replies_of line.state.game.size rs) line.state ≡ none)
MakesNext line rs (Some r) after = MakesReply line rs r.0.now r.1.now after

abbrev pub is_use : Node → Bool
is_use won = false
is_use (by_lemma j) = true
is_use (play t n) = false
is_use (all bs) = false
