-- What completes a claim: the lines that may follow in each phase of judging, so that the claim is accepted.
--     Left shape q x p k i ls      in the phase p, after k nodes and i listed colourings, the lines ls complete a claim that x wins
--     LeftAfter shape q x a ls      so it is after a line that made a of the machine
-- A limit is stated as `total ≤ max k limit`: it asks nothing of k, so no step has to know of the lines before it.
use Rattle.cert_check.proofs.Common.{◌≡◌, ℕ, suc, ◌+◌, ◌≤◌, Bool, true, ◌&&◌, ◌||◌, nat_eq, List, [], ◌∷◌, ◌++◌, map, length, Option, Some, None, IsTrue, sum_by, Colour, Cell, GameState, GameProblem, start, Head, Lemma, Claim, Node, Branches, branch_turns, heads_of, node_count, node_count_below, depth_of, depth_below, listed_count, max_lemmas, max_nodes, max_depth, max_listed, AreShallow, IsWithinLimits, Line, header_line, had_line, not_line, main_line, end_line, node_lines, branch_lines, lemmas_lines, lines_of, AllWrite, Body, lemma_start, main_body_by, is_after, Owed, Heading, Phase, header, opening, listing_had, listing_not, node_due, reply_due, done, AfterLine, goes_on, stops, body_of, last_of}
use Rattle.std.specs.Prelude.{max}
use Rattle.cert_check.proofs.ShortTrees.{FitsShort, FitBelow, AreShortLemmas}

-- THE LEMMAS AND MAIN

abbrev pub body_nodes : List Lemma → ℕ
body_nodes ls = sum_by (λ l. node_count l.body) ls

pub record LemmasLeft (shape : List Cell → Bool) (q : GameProblem) (x : Colour) (f : Heading) (k i : ℕ) (ls : List (Option Line)) : Type 0 where
  pub lemmas : List Lemma
  pub main : Node
  pub lines : ls ≡ lemmas_lines f.version lemmas ++ (Some main_line ∷ (node_lines main ++ (Some end_line ∷ [])))
  pub winner : f.winner ≡ x
  pub valid : AreShortLemmas shape q.game f.winner f.heads lemmas
  pub fits : FitsShort (main_body_by shape f.winner (f.heads ++ heads_of lemmas)) (start q) main
  pub hads : AllWrite f.version lemmas
  pub nodes : k + body_nodes lemmas + node_count main ≤ max k max_nodes
  pub shallow : AreShallow lemmas
  pub deep : depth_of main ≤ max_depth
  pub listed : i + sum_by listed_count lemmas ≤ max i max_listed
  pub number : length f.heads + length lemmas ≤ max (length f.heads) max_lemmas

-- after the body of the lemma with this head, or of main
abbrev pub LeftBehind : (List Cell → Bool) → GameProblem → Colour → Heading → Option Head → ℕ → ℕ → List (Option Line) → Type 0
LeftBehind shape q x f None k i ls = (ls ≡ []) × (f.winner ≡ x)
LeftBehind shape q x f (Some h) k i ls = LemmasLeft shape q x (record f { heads = f.heads ++ h ∷ [] }) k i ls

-- A BODY

-- the replies that the open nodes still owe, innermost first
abbrev pub open_lines : List Branches → List (Option Line)
open_lines [] = []
open_lines (bs ∷ rest) = branch_lines bs ++ open_lines rest

abbrev pub open_count : List Branches → ℕ
open_count [] = 0
open_count (bs ∷ rest) = node_count_below bs + open_count rest

abbrev pub AreAnswered : Body → List Owed → List Branches → Type 0
AreAnswered b [] [] = Unit {0}
AreAnswered b (o ∷ os) (bs ∷ rest) = (branch_turns bs ≡ o.due ∷ o.others) × FitBelow b o.state bs × (suc o.depth + depth_below bs ≤ suc max_depth) × AreAnswered b os rest
AreAnswered b _ _ = ⊥

pub record RepliesLeft (shape : List Cell → Bool) (q : GameProblem) (x : Colour) (f : Heading) (inside : Option Head) (os : List Owed) (k i : ℕ) (ls : List (Option Line)) : Type 0 where
  pub rest : List Branches
  pub after : List (Option Line)
  pub total : ℕ
  pub lines : ls ≡ open_lines rest ++ (Some end_line ∷ after)
  pub answered : AreAnswered (body_of shape f inside) os rest
  pub count : total ≡ k + open_count rest
  pub few : total ≤ max k max_nodes
  pub behind : LeftBehind shape q x f inside total i after

pub record NodeLeft (shape : List Cell → Bool) (q : GameProblem) (x : Colour) (f : Heading) (inside : Option Head) (depth : ℕ) (s : GameState) (os : List Owed) (k i : ℕ) (ls : List (Option Line)) : Type 0 where
  pub node : Node
  pub tail : List (Option Line)
  pub total : ℕ
  pub lines : ls ≡ node_lines node ++ tail
  pub fits : FitsShort (body_of shape f inside) s node
  pub deep : depth + depth_of node ≤ suc max_depth
  pub count : total ≡ k + node_count node
  pub few : total ≤ max k max_nodes
  pub left : RepliesLeft shape q x f inside os total i tail

-- LISTS

-- each after the one before it, the first after `last`
abbrev pub chain : Option (List Cell) → List (List Cell) → Bool
chain last [] = true
chain last (c ∷ cs) = is_after last c && chain (Some c) cs

-- the other colourings of a list that begins so; P says what follows the whole list
pub record ListLeft (spell : List Cell → Option Line) (before : List (List Cell)) (P : List (List Cell) → ℕ → List (Option Line) → Type 0) (i : ℕ) (ls : List (Option Line)) : Type 0 where
  pub more : List (List Cell)
  pub whole : List (List Cell)
  pub total : ℕ
  pub tail : List (Option Line)
  pub lines : ls ≡ map spell more ++ tail
  pub order : IsTrue (chain (last_of before) more)
  pub is : whole ≡ before ++ more
  pub count : total ≡ i + length more
  pub few : total ≤ max i max_listed
  pub left : P whole total tail

abbrev pub NotLeft : (List Cell → Bool) → GameProblem → Colour → Heading → Head → ℕ → ℕ → List (Option Line) → Type 0
NotLeft shape q x f h k i ls =
    ListLeft (λ c. Some (not_line c)) h.absent (λ cs n rest. NodeLeft shape q x f (Some (record h { absent = cs })) 1 (lemma_start q.game (record h { absent = cs })) [] k n rest) i ls

abbrev pub HadLeft : (List Cell → Option Line) → (List Cell → Bool) → GameProblem → Colour → Heading → Head → ℕ → ℕ → List (Option Line) → Type 0
HadLeft spell shape q x f h k i ls = ListLeft spell h.had (λ cs n rest. NotLeft shape q x f (record h { had = cs }) k n rest) i ls

-- ALL

pub record HeaderLeft (shape : List Cell → Bool) (q : GameProblem) (x : Colour) (k i : ℕ) (ls : List (Option Line)) : Type 0 where
  pub version : ℕ
  pub winner : Colour
  pub tail : List (Option Line)
  pub lines : ls ≡ Some (header_line version q.game.size winner) ∷ tail
  pub known : IsTrue (nat_eq version 1 || nat_eq version 2)
  pub left : LemmasLeft shape q x (record { version = version; winner = winner; heads = [] }) k i tail

abbrev pub Left : (List Cell → Bool) → GameProblem → Colour → Phase → ℕ → ℕ → List (Option Line) → Type 0
Left shape q x header k i ls = HeaderLeft shape q x k i ls
Left shape q x (opening f) k i ls = LemmasLeft shape q x f k i ls
Left shape q x (listing_had f h) k i ls = HadLeft (λ c. Some (had_line c)) shape q x f h k i ls
Left shape q x (listing_not f h) k i ls = NotLeft shape q x f h k i ls
Left shape q x (node_due f inside depth s os) k i ls = NodeLeft shape q x f inside depth s os k i ls
Left shape q x (reply_due f inside os) k i ls = RepliesLeft shape q x f inside os k i ls
Left shape q x (done y) k i ls = (ls ≡ []) × (y ≡ x)

abbrev pub LeftAfter : (List Cell → Bool) → GameProblem → Colour → AfterLine → List (Option Line) → Type 0
LeftAfter shape q x (goes_on m) ls = Left shape q x m.phase m.nodes m.listed ls
LeftAfter shape q x (stops place why) ls = ⊥

-- the lines ls are those of a claim that x wins, of which all is right, within the limits
pub record ClaimRead (shape : List Cell → Bool) (q : GameProblem) (x : Colour) (ls : List (Option Line)) : Type 0 where
  pub claim : Claim
  pub winner : claim.winner ≡ x
  pub version : IsTrue (nat_eq claim.version 1 || nat_eq claim.version 2)
  pub size : claim.size ≡ q.game.size
  pub lines : ls ≡ lines_of claim
  pub lemmas : AreShortLemmas shape q.game claim.winner [] claim.lemmas
  pub main : FitsShort (main_body_by shape claim.winner (heads_of claim.lemmas)) (start q) claim.main
  pub limits : IsWithinLimits claim
  pub hads : AllWrite claim.version claim.lemmas
