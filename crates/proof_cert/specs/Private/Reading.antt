-- How the program reads whole claims, line by line, within the limits. It reads each claim from its text, but also accepts other
-- texts, so what was read is written again and compared with the text. Nothing here gives a public contract its meaning.
--     Left      the lines that are left, the nodes and the listed colourings so far
--     tree_read room l s      the tree of at most `room` levels whose first line is l, and what is left after it
--     lemmas_read room s      at most `room` lemmas, up to the line `main`
--     claim_read n s      a whole claim for a board of n rows, which more may follow
--     with_rest f o t      what the program read, if anything, and what it leaves
use Rattle.std.specs.Prelude.{◌≡◌, ◌≤◌, sum_by, ℕ, zero, suc, ◌+◌, ◌-◌, Vec, nat_lt, List, [], ◌∷◌, Option, Some, None, option_map, option_and_then, if◌then◌else◌}
use Rattle.go_points.specs.declared.Colour.{Colour}
use Rattle.go_points.specs.declared.Cell.{Cell}
use Rattle.go_points.specs.Ply.{Ply, ply_of}
use Rattle.proof_cert.specs.Claim.{Node, won, by_lemma, play, all, Branches, no_branch, branch, Lemma, Claim, node_count, node_count_below, depth_of, depth_below, AreShallow, listed_count, max_nodes, max_depth, max_listed}
use Rattle.proof_cert.specs.Lines.{Line, header_line, lemma_line, had_line, not_line, main_line, won_line, use_line, play_line, all_line, reply_line}
use Rattle.std.specs.declared.alloc.Global.{Global}
use Rattle.proof_cert.specs.Private.Source.{Source}
use Rattle.proof_cert.specs.Stage.{line_value, version_number}
use Rattle.proof_cert.specs.declared.line.Line as code_line
use Rattle.proof_cert.specs.Certificate.{node_of}
use Rattle.go_points.specs.declared.Turn.{Turn}
use Rattle.proof_cert.specs.declared.certificate.Node as code
use Rattle.proof_cert.specs.declared.read.Listing.{Listing}
use Rattle.proof_cert.specs.declared.read.Listing.TheVariants as listings
use Rattle.proof_cert.specs.declared.version.Version.{Version}

pub record Left : Type 0 where
  pub lines : List (Option Line)
  pub nodes : ℕ
  pub listed : ℕ

-- what a source of the program has left; a source that has failed has a malformed line
abbrev pub left_of : Source → ℕ → ℕ → Left
left_of s nodes listed = record { lines = (if s.has_failed then None ∷ [] else s.left); nodes = nodes; listed = listed }

-- what the program read, if anything, and what it leaves
abbrev pub with_rest : {A B : Type 0} → (A → B) → Option A → Left → Option (B × Left)
with_rest f o t = option_map (λ a. (f a, t)) o

-- the first line
abbrev pub first_of : Left → List (Option Line) → Option (Line × Left)
first_of s [] = None
first_of s (None ∷ ls) = None
first_of s (Some l ∷ ls) = Some (l, record s { lines = ls })

unfoldable pub line_read : Left → Option (Line × Left)
line_read s = first_of s s.lines

-- the first line, if it is of this kind
unfoldable pub line_as : {A : Type 0} → (Line → Option A) → Left → Option (A × Left)
line_as pick s = option_and_then (λ p. option_map (λ a. (a, p.1)) (pick p.0)) (line_read s)

abbrev pub as_reply : Line → Option Ply
as_reply (reply_line t) = Some t
as_reply _ = None

-- a reply, and the tree below it
abbrev pub reply_read : (Left → Option (Node × Left)) → Left → Option ((Ply × Node) × Left)
reply_read below s = option_and_then (λ p. option_map (λ q. ((p.0, q.0), q.1)) (below p.1)) (line_as as_reply s)

-- this many replies
abbrev pub replies_read : (Left → Option (Node × Left)) → ℕ → Left → Option (Branches × Left)
replies_read below zero s = Some (no_branch, s)
replies_read below (suc m) s = option_and_then (λ p. option_map (λ q. (branch p.0.0 p.0.1 q.0, q.1)) (replies_read below m p.1)) (reply_read below s)

-- a tree whose first line is given; its node is counted first
abbrev pub opened : (Left → Option (Node × Left)) → Line → Left → Option (Node × Left)
opened below won_line s = Some (won, s)
opened below (use_line j) s = Some (by_lemma j, s)
opened below (play_line t) s = option_map (λ p. (play t p.0, p.1)) (below s)
opened below (all_line m) s = option_map (λ p. (all p.0, p.1)) (replies_read below m s)
opened below _ s = None

abbrev pub counted : Left → Left
counted s = record s { nodes = s.nodes + 1 }

abbrev pub below_read : (Line → Left → Option (Node × Left)) → Left → Option (Node × Left)
below_read tree s = option_and_then (λ p. tree p.0 p.1) (line_read s)

abbrev pub tree_read : ℕ → Line → Left → Option (Node × Left)
tree_read zero l s = None
tree_read (suc room) l s = (if nat_lt s.nodes max_nodes then opened (below_read (tree_read room)) l (counted s) else None)

abbrev pub reply_value : ℕ → Turn × code.Node → Ply × Node
reply_value n r = (ply_of n r.0, node_of n r.1)

-- the colouring of a line of one of a lemma's lists
abbrev pub as_not : Line → Option (List Cell)
as_not (not_line c) = Some c
as_not _ = None

abbrev pub as_had : Line → Option (List Cell)
as_had (had_line c) = Some c
as_had _ = None

abbrev pub picks : Listing → Line → Option (List Cell)
picks listings.Had = as_had
picks listings.Not = as_not

-- a list whose first line, or the line after it, is given: at most this many colourings, and the line after them
abbrev pub listed_more : (Line → Left → Option ((List (List Cell) × Line) × Left)) → Option (List Cell) → Line → Left → Option ((List (List Cell) × Line) × Left)
listed_more others None l s = Some (([], l), s)
listed_more others (Some c) l s = option_map (λ q. ((c ∷ q.0.0, q.0.1), q.1)) (option_and_then (λ p. others p.0 p.1) (line_read (record s { listed = s.listed + 1 })))

abbrev pub listed_read : (Line → Option (List Cell)) → ℕ → Line → Left → Option ((List (List Cell) × Line) × Left)
listed_read pick zero l s = None
listed_read pick (suc room) l s = listed_more (listed_read pick room) (pick l) l s

unfoldable pub list_read : (Line → Option (List Cell)) → Line → Left → Option ((List (List Cell) × Line) × Left)
list_read pick l s = listed_read pick (1000001 - s.listed) l s

abbrev pub listed_value : ℕ → Vec (List Cell) Global × code_line.Line → List (List Cell) × Line
listed_value n r = (r.0.items, line_value n r.1)

abbrev pub lists_value : ℕ → (Vec (List Cell) Global × Vec (List Cell) Global) × code_line.Line → (List (List Cell) × List (List Cell)) × Line
lists_value n r = ((r.0.0.items, r.0.1.items), line_value n r.1)

-- the version and the winner
abbrev pub header_value : Version × Colour → ℕ × Colour
header_value h = (version_number h.0, h.1)

-- a tree with its first line, and one line more
unfoldable pub body_read : Line → Left → Option (Node × Left)
body_read l s = option_and_then (λ p. option_map (λ q. (p.0, q.1)) (line_read p.1)) (tree_read max_depth l s)

-- a lemma after its first line
abbrev pub lemma_made : Colour → ℕ → List Cell → List (List Cell) → List (List Cell) → Node → Lemma
lemma_made k p root had absent body = record { head = record { mover = k; passes = p; root = root; had = had; absent = absent }; body = body }

-- both lists, whose first line, or the line after them, is given
unfoldable pub lists_read : Line → Left → Option (((List (List Cell) × List (List Cell)) × Line) × Left)
lists_read l s = option_and_then (λ h. option_map (λ a. (((h.0.0, a.0.0), a.0.1), a.1)) (list_read as_not h.0.1 h.1)) (list_read as_had l s)

unfoldable pub lemma_read : Colour → ℕ → List Cell → Left → Option (Lemma × Left)
lemma_read k p root s =
    option_and_then (λ f. option_and_then (λ q. option_map (λ r. (lemma_made k p root q.0.0.0 q.0.0.1 r.0, r.1)) (body_read q.0.1 q.1)) (lists_read f.0 f.1)) (line_read s)

-- the lemmas up to `main`, fewer than this many
abbrev pub lemmas_more : (Left → Option (List Lemma × Left)) → Line → Left → Option (List Lemma × Left)
lemmas_more others main_line s = Some ([], s)
lemmas_more others (lemma_line k p root) s = option_and_then (λ q. option_map (λ r. (q.0 ∷ r.0, r.1)) (others q.1)) (lemma_read k p root s)
lemmas_more others _ s = None

abbrev pub lemmas_read : ℕ → Left → Option (List Lemma × Left)
lemmas_read zero s = None
lemmas_read (suc room) s = option_and_then (λ p. lemmas_more (lemmas_read room) p.0 p.1) (line_read s)

unfoldable pub all_lemmas_read : Left → Option (List Lemma × Left)
all_lemmas_read s = lemmas_read 65536 s

-- the version and the winner of the first line
abbrev pub as_header : Line → Option (ℕ × Colour)
as_header (header_line version size winner) = Some (version, winner)
as_header _ = None

abbrev pub claim_made : ℕ → ℕ × Colour → List Lemma → Node → Claim
claim_made n head lemmas main = record { version = head.0; size = n; winner = head.1; lemmas = lemmas; main = main }

abbrev pub main_read : Left → Option (Node × Left)
main_read s = option_and_then (λ p. body_read p.0 p.1) (line_read s)

unfoldable pub claim_read : ℕ → Left → Option Claim
claim_read n s = option_and_then (λ h. option_and_then (λ ls. option_map (λ m. claim_made n h.0 ls.0 m.0) (main_read ls.1)) (all_lemmas_read h.1)) (line_as as_header s)

-- What was read keeps the limits, and the nodes n and the listed colourings k that were counted before it are n' and k' after it.
pub record CountsTree (room n k : ℕ) (z : Node) (n' k' : ℕ) : Type 0 where
  pub nodes : n' ≡ n + node_count z
  pub most : n' ≤ max_nodes
  pub deep : depth_of z ≤ room
  pub listed : k' ≡ k

pub record CountsReplies (room n k : ℕ) (bs : Branches) (n' k' : ℕ) : Type 0 where
  pub nodes : n' ≡ n + node_count_below bs
  pub most : n' ≤ max_nodes
  pub deep : depth_below bs ≤ room
  pub listed : k' ≡ k

pub record CountsListed (n k more n' k' : ℕ) : Type 0 where
  pub nodes : n' ≡ n
  pub listed : k' ≡ k + more
  pub few : k' ≤ max_listed

pub record CountsLemma (n k : ℕ) (z : Lemma) (n' k' : ℕ) : Type 0 where
  pub nodes : n' ≡ n + node_count z.body
  pub deep : depth_of z.body ≤ max_depth
  pub listed : k' ≡ k + listed_count z
  pub few : k' ≤ max_listed

pub record CountsLemmas (n k : ℕ) (zs : List Lemma) (n' k' : ℕ) : Type 0 where
  pub nodes : n' ≡ n + sum_by (λ l. node_count l.body) zs
  pub shallow : AreShallow zs
  pub listed : k' ≡ k + sum_by listed_count zs
  pub few : k' ≤ max_listed
