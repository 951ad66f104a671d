-- Each claim within the limits is read from its lines.
use Rattle.proof_cert.proofs.Common.{◌≡◌, inl, inr, ℕ, suc, zero, ◌+◌, ◌-◌, ◌<◌, ◌≤◌, true, cond, nat_lt, lt-ltb, List, [], ◌∷◌, ◌++◌, map, length, max, sum_by, Option, Some, None, refl, sym, ap, ◌∙◌, append_assoc, arith, option_and_then, sum_by-cons, Cell, Colour, Node, won, by_lemma, play, all, Branches, no_branch, branch, branch_turns, node_count, node_count_below, depth_of, depth_below, Lemma, Claim, max_nodes, listed_count, IsWithinLimits, AreShallow, Line, header_line, lemma_line, had_line, not_line, main_line, won_line, use_line, play_line, all_line, reply_line, end_line, node_lines, branch_lines, had_spelled, lemma_lines, lemmas_lines, lines_of, Left, first_of, line_read, opened, counted, replies_read, below_read, tree_read, listed_read, list_read, lemma_read, lemmas_read, all_lemmas_read, claim_read}
use Rattle.std.specs.Prelude.{option_map}
use Rattle.proof_cert.specs.Private.Reading.{line_as, as_reply, as_not, as_had, as_header, lists_read, body_read, lemma_made, claim_made, main_read}
use Rattle.proof_cert.proofs.Unique.{Writes, AllWrite}
use Rattle.proof_cert.proofs.Tasks.{lemma_left}

-- ---- lines

pub line_comes : (s : Left) (l : Line) (rest : List (Option Line)) → s.lines ≡ Some l ∷ rest → line_read s ≡ Some (l, record s { lines = rest })
unfolding line_read
line_comes s l rest e = ap (first_of s) e

pub as_comes : {A : Type 0} (pick : Line → Option A) (s : Left) (l : Line) (a : A) (rest : List (Option Line)) → s.lines ≡ Some l ∷ rest → pick l ≡ Some a → line_as pick s ≡ Some (a, record s { lines = rest })
unfolding line_as
as_comes pick s l a rest e is = rw (line_comes s l rest e, is) refl

-- ---- trees

-- what is left after so many nodes
abbrev after : Left → List (Option Line) → ℕ → Left
after s rest n = record { lines = rest; nodes = n; listed = s.listed }

pub one_node : (z : Node) → 1 ≤ node_count z
one_node won = omega arith
one_node (by_lemma j) = omega arith
one_node (play t z) = omega arith
one_node (all bs) = omega arith

abbrev Comes : ℕ → (Left → Option (Node × Left)) → Type 0
Comes room below = (s : Left) (z : Node) (rest : List (Option Line)) → s.lines ≡ node_lines z ++ rest → s.nodes + node_count z ≤ max_nodes → depth_of z ≤ room → below s ≡ Some (z, after s rest (s.nodes + node_count z))

left_le : (a b c : ℕ) → max a b ≤ c → a ≤ c
left_le a b c h = grind (arith)

right_le : (a b c : ℕ) → max a b ≤ c → b ≤ c
right_le a b c h = grind (arith)

module _ (room : ℕ) (below : Left → Option (Node × Left)) (comes : Comes room below) where
  replies_come : (bs : Branches) (s : Left) (rest : List (Option Line)) → s.lines ≡ branch_lines bs ++ rest → s.nodes + node_count_below bs ≤ max_nodes → depth_below bs ≤ room
      → replies_read below (length (branch_turns bs)) s ≡ Some (bs, after s rest (s.nodes + node_count_below bs))
  replies_come no_branch s rest e most deep =
      let none : s.nodes ≡ s.nodes + 0 = omega arith in
      rw (e, ← none) refl
  replies_come (branch t z bs) s rest e most deep =
      let others = branch_lines bs ++ rest in
      let lines : s.lines ≡ Some (reply_line t) ∷ (node_lines z ++ others) = e ∙ ap (λ x. Some (reply_line t) ∷ x) (append_assoc (node_lines z) (branch_lines bs) rest) in
      let first = as_comes as_reply s (reply_line t) t (node_lines z ++ others) lines refl in
      let s1 : Left = record s { lines = node_lines z ++ others } in
      let tree = comes s1 z others refl (omega arith) (left_le (depth_of z) (depth_below bs) room deep) in
      let s2 : Left = after s others (s.nodes + node_count z) in
      let more = replies_come bs s2 rest refl (omega arith) (right_le (depth_of z) (depth_below bs) room deep) in
      let sum : (s.nodes + node_count z) + node_count_below bs ≡ s.nodes + (node_count z + node_count_below bs) = omega arith in
      rw (first, tree, more, sum) refl

  opened_comes : (z : Node) (l : Line) (s : Left) (rest : List (Option Line)) → Some l ∷ s.lines ≡ node_lines z ++ rest → s.nodes + node_count z ≤ max_nodes → depth_of z ≤ suc room
      → opened below l (counted s) ≡ Some (z, after s rest (s.nodes + node_count z))
  opened_comes won l s rest e most deep =
      let first : l ≡ won_line = cc e in
      let left_after : s.lines ≡ rest = cc e in
      rw (first, left_after) refl
  opened_comes (by_lemma j) l s rest e most deep =
      let first : l ≡ use_line j = cc e in
      let left_after : s.lines ≡ rest = cc e in
      rw (first, left_after) refl
  opened_comes (play t z) l s rest e most deep =
      let first : l ≡ play_line t = cc e in
      let left_after : s.lines ≡ node_lines z ++ rest = cc e in
      let tree = comes (counted s) z rest left_after (omega arith) (omega arith) in
      let sum : (s.nodes + 1) + node_count z ≡ s.nodes + (node_count z + 1) = omega arith in
      rw (first, tree, sum) refl
  opened_comes (all bs) l s rest e most deep =
      let first : l ≡ all_line (length (branch_turns bs)) = cc e in
      let left_after : s.lines ≡ branch_lines bs ++ rest = cc e in
      let replies = replies_come bs (counted s) rest left_after (omega arith) (omega arith) in
      let sum : (s.nodes + 1) + node_count_below bs ≡ s.nodes + (node_count_below bs + 1) = omega arith in
      rw (first, replies, sum) refl

-- the first line of a tree is a node's
abbrev head_of : Node → Line
head_of won = won_line
head_of (by_lemma j) = use_line j
head_of (play t z) = play_line t
head_of (all bs) = all_line (length (branch_turns bs))

abbrev tail_of : Node → List (Option Line)
tail_of won = []
tail_of (by_lemma j) = []
tail_of (play t z) = node_lines z
tail_of (all bs) = branch_lines bs

heads : (z : Node) → node_lines z ≡ Some (head_of z) ∷ tail_of z
heads won = refl
heads (by_lemma j) = refl
heads (play t z) = refl
heads (all bs) = refl

no_depth : (z : Node) → depth_of z ≤ 0 → ⊥
no_depth won h = omega arith
no_depth (by_lemma j) h = omega arith
no_depth (play t z) h = omega arith
no_depth (all bs) h = omega arith

abbrev TreesCome : ℕ → Type 0
TreesCome room = (z : Node) (l : Line) (s : Left) (rest : List (Option Line)) → Some l ∷ s.lines ≡ node_lines z ++ rest → s.nodes + node_count z ≤ max_nodes → depth_of z ≤ room
    → tree_read room l s ≡ Some (z, after s rest (s.nodes + node_count z))

below_comes : (room : ℕ) → TreesCome room → Comes room (below_read (tree_read room))
below_comes room trees s z rest e most deep =
    let lines : s.lines ≡ Some (head_of z) ∷ (tail_of z ++ rest) = e ∙ ap (λ x. x ++ rest) (heads z) in
    let first = line_comes s (head_of z) (tail_of z ++ rest) lines in
    rw first (trees z (head_of z) (record s { lines = tail_of z ++ rest }) rest (ap (λ x. x ++ rest) (sym (heads z))) most deep)

pub tree_comes : (room : ℕ) → TreesCome room
tree_comes zero z l s rest e most deep = absurd (no_depth z deep)
tree_comes (suc room) z l s rest e most deep =
    let some = one_node z in
    let few : nat_lt s.nodes max_nodes ≡ true = lt-ltb s.nodes max_nodes (omega arith) in
    rw few (opened_comes room (below_read (tree_read room)) (below_comes room (tree_comes room)) z l s rest e most deep)

-- ---- bodies

body_comes : (z : Node) (l : Line) (s : Left) (rest : List (Option Line)) → Some l ∷ s.lines ≡ node_lines z ++ Some end_line ∷ rest → s.nodes + node_count z ≤ max_nodes → depth_of z ≤ 2000
    → body_read l s ≡ Some (z, after s rest (s.nodes + node_count z))
unfolding body_read
body_comes z l s rest e most deep =
    rw (tree_comes 2000 z l s (Some end_line ∷ rest) e most deep, line_comes (after s (Some end_line ∷ rest) (s.nodes + node_count z)) end_line rest refl) refl

-- ---- lemmas

-- where a list may be written in this version, these are its lines
had_lines : (v : ℕ) (cs : List (List Cell)) → Writes v cs → map (had_spelled v) cs ≡ map (λ c. Some (had_line c)) cs
had_lines v [] w = refl
had_lines v (c ∷ cs) (inl two) = ap (λ b. cond b (Some (had_line c)) None ∷ map (had_spelled v) cs) two ∙ ap (λ x. Some (had_line c) ∷ x) (had_lines v cs (inl two))
had_lines v (c ∷ cs) (inr none) = absurd (cc)

abbrev left_after : Left → List (Option Line) → ℕ → ℕ → Left
left_after s rest n k = record { lines = rest; nodes = n; listed = k }

module _ (pick : Line → Option (List Cell)) (line : List Cell → Line) (picked : (c : List Cell) → pick (line c) ≡ Some c) where
  list_comes : (room : ℕ) (cs : List (List Cell)) (first : Line) (s : Left) (l : Line) (rest : List (Option Line)) → pick l ≡ None → Some first ∷ s.lines ≡ map (λ c. Some (line c)) cs ++ Some l ∷ rest → length cs < room
      → listed_read pick room first s ≡ Some ((cs, l), left_after s rest s.nodes (s.listed + length cs))
  list_comes zero cs first s l rest other e few = absurd (omega arith)
  list_comes (suc room) [] first s l rest other e few =
      let same : first ≡ l = cc e in
      let left : s.lines ≡ rest = cc e in
      let none : s.listed ≡ s.listed + 0 = omega arith in
      rw (same, other, left, ← none) refl
  list_comes (suc room) (c ∷ cs) first s l rest other e few =
      let same : first ≡ line c = cc e in
      let left : s.lines ≡ map (λ d. Some (line d)) cs ++ Some l ∷ rest = cc e in
      let s1 : Left = record s { listed = s.listed + 1 } in
      let next = first_listed cs l rest in
      let there = line_comes s1 next.0 next.1 (left ∙ next.2) in
      let s2 : Left = left_after s next.1 s.nodes (s.listed + 1) in
      let more = list_comes room cs next.0 s2 l rest other (sym next.2) (omega arith) in
      let sum : (s.listed + 1) + length cs ≡ s.listed + suc (length cs) = omega arith in
      rw (same, picked c, there, more, sum) refl
    where
      first_listed : (ds : List (List Cell)) (j : Line) (others : List (Option Line)) → (k : Line) × (ls : List (Option Line)) × (map (λ d. Some (line d)) ds ++ Some j ∷ others ≡ Some k ∷ ls)
      first_listed [] j others = (j, others, refl)
      first_listed (d ∷ ds) j others = (line d, map (λ x. Some (line x)) ds ++ Some j ∷ others, refl)

no_not : (z : Node) → as_not (head_of z) ≡ None
no_not won = refl
no_not (by_lemma j) = refl
no_not (play t z) = refl
no_not (all bs) = refl

no_had : (z : Node) → as_had (head_of z) ≡ None
no_had won = refl
no_had (by_lemma j) = refl
no_had (play t z) = refl
no_had (all bs) = refl

-- the first line after the `had` lines
after_had : (absent : List (List Cell)) (z : Node) (others : List (Option Line))
    → (k : Line) × (ls : List (Option Line)) × (map (λ c. Some (not_line c)) absent ++ Some (head_of z) ∷ others ≡ Some k ∷ ls) × (as_had k ≡ None)
after_had [] z others = (head_of z, others, refl, no_had z)
after_had (c ∷ cs) z others = (not_line c, map (λ d. Some (not_line d)) cs ++ Some (head_of z) ∷ others, refl, refl)

lists_come : (v : ℕ) (had absent : List (List Cell)) (z : Node) (first : Line) (s : Left) (rest : List (Option Line)) → Writes v had
    → Some first ∷ s.lines ≡ map (had_spelled v) had ++ (map (λ c. Some (not_line c)) absent ++ Some (head_of z) ∷ rest) → s.listed + (length had + length absent) ≤ 1000000
    → lists_read first s ≡ Some (((had, absent), head_of z), left_after s rest s.nodes (s.listed + (length had + length absent)))
unfolding lists_read list_read
lists_come v had absent z first s rest w e few =
    let k = after_had absent z rest in
    let hads = list_comes as_had had_line (λ c. refl) (1000001 - s.listed) had first s k.0 k.1 k.3 (e ∙ ap (λ x. map (had_spelled v) had ++ x) k.2 ∙ ap (λ x. x ++ Some k.0 ∷ k.1) (had_lines v had w)) (omega arith) in
    let s1 : Left = left_after s k.1 s.nodes (s.listed + length had) in
    let nots = list_comes as_not not_line (λ c. refl) (1000001 - s1.listed) absent k.0 s1 (head_of z) rest (no_not z) (sym k.2) (omega arith) in
    let sum : (s.listed + length had) + length absent ≡ s.listed + (length had + length absent) = omega arith in
    rw (hads, nots, sum) refl

-- the first line of a lemma after `lemma`
lists_begin : (v : ℕ) (had absent : List (List Cell)) (z : Node) (others : List (Option Line)) → Writes v had
    → (k : Line) × (ls : List (Option Line)) × (map (had_spelled v) had ++ (map (λ c. Some (not_line c)) absent ++ Some (head_of z) ∷ others) ≡ Some k ∷ ls)
lists_begin v [] absent z others w = let k = after_had absent z others in (k.0, k.1, k.2)
lists_begin v (c ∷ cs) absent z others (inl two) =
    let rest = map (had_spelled v) cs ++ (map (λ d. Some (not_line d)) absent ++ Some (head_of z) ∷ others) in
    (had_line c, rest, ap (λ b. cond b (Some (had_line c)) None ∷ rest) two)
lists_begin v (c ∷ cs) absent z others (inr none) = absurd (cc)

lemma_comes : (v : ℕ) (k : Colour) (p : ℕ) (root : List Cell) (had absent : List (List Cell)) (body : Node) (s : Left) (rest : List (Option Line)) → Writes v had
    → s.lines ≡ (((map (had_spelled v) had ++ map (λ c. Some (not_line c)) absent) ++ node_lines body) ++ Some end_line ∷ []) ++ rest → s.nodes + node_count body ≤ max_nodes → depth_of body ≤ 2000 → s.listed + (length had + length absent) ≤ 1000000
    → lemma_read k p root s ≡ Some (lemma_made k p root had absent body, left_after s rest (s.nodes + node_count body) (s.listed + (length had + length absent)))
unfolding lemma_read
lemma_comes v k p root had absent body s rest w e most deep few =
    let hads = map (had_spelled v) had in
    let nots = map (λ c. Some (not_line c)) absent in
    let left = tail_of body ++ Some end_line ∷ rest in
    let lines : s.lines ≡ hads ++ (nots ++ Some (head_of body) ∷ left) = e ∙ lemma_left hads nots (node_lines body) (Some end_line) rest ∙ ap (λ x. hads ++ (nots ++ (x ++ Some end_line ∷ rest))) (heads body) in
    let begin = lists_begin v had absent body left w in
    let first = line_comes s begin.0 begin.1 (lines ∙ begin.2) in
    let s0 : Left = record s { lines = begin.1 } in
    let lists = lists_come v had absent body begin.0 s0 left w (sym begin.2) few in
    let s1 : Left = left_after s left s.nodes (s.listed + (length had + length absent)) in
    let tree = body_comes body (head_of body) s1 rest (ap (λ x. x ++ Some end_line ∷ rest) (sym (heads body))) most deep in
    rw (first, lists, tree) refl

lemmas_come : (v room : ℕ) (zs : List Lemma) (s : Left) (rest : List (Option Line)) → AllWrite v zs → s.lines ≡ lemmas_lines v zs ++ Some main_line ∷ rest → length zs < room
    → s.nodes + sum_by (λ l. node_count l.body) zs ≤ max_nodes → AreShallow zs → s.listed + sum_by listed_count zs ≤ 1000000
    → lemmas_read room s ≡ Some (zs, left_after s rest (s.nodes + sum_by (λ l. node_count l.body) zs) (s.listed + sum_by listed_count zs))
lemmas_come v zero zs s rest writes e few most shallow listed = absurd (omega arith)
lemmas_come v (suc room) [] s rest writes e few most shallow listed =
    let n : s.nodes ≡ s.nodes + 0 = omega arith in
    let k : s.listed ≡ s.listed + 0 = omega arith in
    rw (line_comes s main_line rest e, ← n, ← k) refl
lemmas_come v (suc room) (z ∷ zs) s rest writes e few most shallow listed =
    let h = z.head in
    let others = lemmas_lines v zs ++ Some main_line ∷ rest in
    let own = ((map (had_spelled v) h.had ++ map (λ c. Some (not_line c)) h.absent) ++ node_lines z.body) ++ Some end_line ∷ [] in
    let lines : s.lines ≡ Some (lemma_line h.mover h.passes h.root) ∷ (own ++ others) = e ∙ append_assoc (lemma_lines v z) (lemmas_lines v zs) (Some main_line ∷ rest) in
    let sums = sum_by-cons (λ (l : Lemma). node_count l.body) z zs in
    let lists = sum_by-cons listed_count z zs in
    let s1 : Left = record s { lines = own ++ others } in
    let lemma = lemma_comes v h.mover h.passes h.root h.had h.absent z.body s1 others writes.0 refl (omega arith) shallow.0 (omega arith) in
    let s2 : Left = left_after s others (s.nodes + node_count z.body) (s.listed + listed_count z) in
    let more = lemmas_come v room zs s2 rest writes.1 refl (omega arith) (omega arith) shallow.1 (omega arith) in
    let n : (s.nodes + node_count z.body) + sum_by (λ l. node_count l.body) zs ≡ s.nodes + sum_by (λ l. node_count l.body) (z ∷ zs) = omega arith in
    let k : (s.listed + listed_count z) + sum_by listed_count zs ≡ s.listed + sum_by listed_count (z ∷ zs) = omega arith in
    rw (line_comes s (lemma_line h.mover h.passes h.root) (own ++ others) lines, lemma, more, n, k) refl

-- ---- claims

pub claim_comes : (z : Claim) → AllWrite z.version z.lemmas → IsWithinLimits z → claim_read z.size (record { lines = lines_of z; nodes = 0; listed = 0 }) ≡ Some z
unfolding claim_read all_lemmas_read
claim_comes z writes within =
    let n = z.size in
    let v = z.version in
    let s : Left = record { lines = lines_of z; nodes = 0; listed = 0 } in
    let main = node_lines z.main ++ Some end_line ∷ [] in
    let lemmas = lemmas_lines v z.lemmas in
    let lines : lines_of z ≡ Some (header_line v n z.winner) ∷ (lemmas ++ Some main_line ∷ main) =
    ap (λ x. Some (header_line v n z.winner) ∷ x) (append_assoc lemmas (Some main_line ∷ node_lines z.main) (Some end_line ∷ [])) in
    let header = as_comes as_header s (header_line v n z.winner) (v, z.winner) (lemmas ++ Some main_line ∷ main) lines refl in
    let s1 : Left = record s { lines = lemmas ++ Some main_line ∷ main } in
    let a = within.nodes in
    let b = within.listed in
    let c = within.lemmas in
    let list = lemmas_come v 65536 z.lemmas s1 main writes refl (omega arith) (omega arith) within.shallow (omega arith) in
    let nodes = 0 + sum_by (λ l. node_count l.body) z.lemmas in
    let listed = 0 + sum_by listed_count z.lemmas in
    let s2 : Left = record { lines = main; nodes = nodes; listed = listed } in
    let s3 : Left = record { lines = tail_of z.main ++ Some end_line ∷ []; nodes = nodes; listed = listed } in
    let first = line_comes s2 (head_of z.main) (tail_of z.main ++ Some end_line ∷ []) (ap (λ x. x ++ Some end_line ∷ []) (heads z.main)) in
    let body = body_comes z.main (head_of z.main) s3 [] (ap (λ x. x ++ Some end_line ∷ []) (sym (heads z.main))) (omega arith) within.shallow_main in
    let tree : main_read s2 ≡ Some (z.main, after s3 [] (nodes + node_count z.main)) = ap (option_and_then (λ (p : Line × Left). body_read p.0 p.1)) first ∙ body in
    ap (option_and_then (λ (h : (ℕ × Colour) × Left). option_and_then (λ (m : List Lemma × Left). option_map (λ (k : Node × Left). claim_made n h.0 m.0 k.0) (main_read m.1)) (lemmas_read 65536 h.1))) header
    ∙ ap (option_and_then (λ (m : List Lemma × Left). option_map (λ (k : Node × Left). claim_made n (v, z.winner) m.0 k.0) (main_read m.1))) list
    ∙ ap (option_map (λ (k : Node × Left). claim_made n (v, z.winner) z.lemmas k.0)) tree
