-- What reading trees from lines comes to.
use Rattle.proof_cert.proofs.Common.{◌≡◌, ℕ, suc, zero, ◌+◌, ◌-◌, ◌<◌, ◌≤◌, Bool, true, false, cond, nat_lt, List, [], ◌∷◌, ◌++◌, map, Option, Some, None, Ok, Err, refl, sym, ap, ◌∙◌, append_assoc, arith, rules, option_and_then, Line, lemma_line, line_value, Cell, Colour, Turn, Ply, ply_of, node_of, replies_of, lemma_of, Node, Branches, no_branch, branch, Lemma, max_nodes, SourceFault, Source, Left, left_of, first_of, line_read, opened, counted, reply_read, replies_read, below_read, tree_read, listed_read, lemma_read, lemmas_read}
use Rattle.std.proofs.Common.{tests}
use Rattle.std.specs.Prelude.{option_map}
use Rattle.proof_cert.specs.declared.line.Line as code_line
use Rattle.proof_cert.specs.declared.line.Line.TheVariants as lines
use Rattle.proof_cert.specs.declared.certificate.Node as code
use Rattle.proof_cert.specs.declared.certificate.Lemma as code_lemma
use Rattle.proof_cert.specs.Private.Source.{answer, answer_from, later, later_from}
use Rattle.proof_cert.specs.Private.Reading.{listed_more, lemmas_more}

line_given : (s : Source) (nodes listed : ℕ) (failed : Bool) (left : List (Option Line)) (l : Line) → s.has_failed ≡ failed → Ok (Some l) ≡ answer_from failed left
    → first_of (record { lines = cond failed (None ∷ []) left; nodes = nodes; listed = listed }) (cond failed (None ∷ []) left)
    ≡ Some (l, record { lines = cond (later_from s failed left).has_failed (None ∷ []) (later_from s failed left).left; nodes = nodes; listed = listed })
line_given s nodes listed true left l f e = cc
line_given s nodes listed false [] l f e = cc
line_given s nodes listed false (None ∷ ls) l f e = cc
line_given s nodes listed false (Some k ∷ ls) l f e =
    let same : k ≡ l = cc in
    let rest : ls ≡ cond s.has_failed (None ∷ []) ls = ap (λ b. cond b (None ∷ []) ls) (sym f) in
    ap (λ x. Some (x, record { lines = ls; nodes = nodes; listed = listed })) same ∙ ap (λ x. Some (l, record { lines = x; nodes = nodes; listed = listed })) rest

pub line_there : (s t : Source) (nodes listed : ℕ) (l : Line) → Ok (Some l) ≡ answer s → t ≡ later s → line_read (left_of s nodes listed) ≡ Some (l, left_of t nodes listed)
unfolding line_read
line_there s t nodes listed l e is = line_given s nodes listed s.has_failed s.left l refl e ∙ ap (λ x. Some (l, left_of x nodes listed)) (sym is)

none_ended : (s : Left) (failed : Bool) (left : List (Option Line)) → Ok None ≡ answer_from failed left → first_of s (cond failed (None ∷ []) left) ≡ None
none_ended s true left e = refl
none_ended s false [] e = refl
none_ended s false (None ∷ ls) e = refl
none_ended s false (Some k ∷ ls) e = cc

pub line_ended : (s : Source) (nodes listed : ℕ) → Ok None ≡ answer s → line_read (left_of s nodes listed) ≡ None
unfolding line_read
line_ended s nodes listed e = none_ended (left_of s nodes listed) s.has_failed s.left e

none_bad : (s : Left) (failed : Bool) (left : List (Option Line)) (x : SourceFault) → Err x ≡ answer_from failed left → first_of s (cond failed (None ∷ []) left) ≡ None
none_bad s true left x e = refl
none_bad s false [] x e = refl
none_bad s false (None ∷ ls) x e = refl
none_bad s false (Some k ∷ ls) x e = cc

pub line_bad : (s : Source) (nodes listed : ℕ) (x : SourceFault) → Err x ≡ answer s → line_read (left_of s nodes listed) ≡ None
unfolding line_read
line_bad s nodes listed x e = none_bad (left_of s nodes listed) s.has_failed s.left x e

-- a tree of at least one level, while nodes are left
pub tree_opened : (room : ℕ) (l : Line) (s : Left) → 0 < room → s.nodes < max_nodes → tree_read room l s ≡ opened (below_read (tree_read (room - 1))) l (counted s)
tree_opened zero l s some few = absurd (omega arith)
tree_opened (suc room) l s some few =
    let one : suc room - 1 ≡ room = omega arith in
    let few' : nat_lt s.nodes max_nodes ≡ true = search (rules, tests) in
    rw (few', one) refl

-- ---- replies one by one

abbrev pub joined : Branches → Branches → Branches
joined no_branch cs = cs
joined (branch t z bs) cs = branch t z (joined bs cs)

abbrev pub prepended : Branches → Option (Branches × Left) → Option (Branches × Left)
prepended bs o = option_map (λ q. (joined bs q.0, q.1)) o

pub joined_none : (bs : Branches) → joined bs no_branch ≡ bs
joined_none no_branch = refl
joined_none (branch t z bs) = ap (branch t z) (joined_none bs)

joined_one : (bs : Branches) (t : Ply) (z : Node) (cs : Branches) → joined bs (branch t z cs) ≡ joined (joined bs (branch t z no_branch)) cs
joined_one no_branch t z cs = refl
joined_one (branch u y bs) t z cs = ap (branch u y) (joined_one bs t z cs)

pub replies_pushed : (n : ℕ) (rs : List (Turn × code.Node)) (r : Turn × code.Node) → replies_of n (rs ++ r ∷ []) ≡ joined (replies_of n rs) (branch (ply_of n r.0) (node_of n r.1) no_branch)
replies_pushed n [] r = refl
replies_pushed n (q ∷ rs) r = ap (branch (ply_of n q.0) (node_of n q.1)) (replies_pushed n rs r)

more_prepended : (bs : Branches) (t : Ply) (z : Node) (o : Option (Branches × Left)) → prepended bs (option_map (λ q. (branch t z q.0, q.1)) o) ≡ prepended (joined bs (branch t z no_branch)) o
more_prepended bs t z None = refl
more_prepended bs t z (Some q) = ap (λ x. Some (x, q.1)) (joined_one bs t z q.0)

module _ (below : Left → Option (Node × Left)) (m i : ℕ) (s : Left) (within : i < m) where
  next_read : replies_read below (m - i) s ≡ option_and_then (λ (p : (Ply × Node) × Left). option_map (λ (q : Branches × Left). (branch p.0.0 p.0.1 q.0, q.1)) (replies_read below (m - (i + 1)) p.1)) (reply_read below s)
  next_read = let one : m - i ≡ suc (m - (i + 1)) = omega arith in ap (λ k. replies_read below k s) one

  pub reply_is_read : (bs : Branches) (r : Ply × Node) (t : Left) → reply_read below s ≡ Some (r, t) → prepended bs (replies_read below (m - i) s) ≡ prepended (joined bs (branch r.0 r.1 no_branch)) (replies_read below (m - (i + 1)) t)
  reply_is_read bs r t e =
      rw (next_read, e) (more_prepended bs r.0 r.1 (replies_read below (m - (i + 1)) t))

  pub reply_is_missing : (bs : Branches) → reply_read below s ≡ None → prepended bs (replies_read below (m - i) s) ≡ None
  reply_is_missing bs e = rw (next_read, e) refl

pub replies_are_read : (below : Left → Option (Node × Left)) (m i : ℕ) (s : Left) (bs : Branches) → m ≤ i → prepended bs (replies_read below (m - i) s) ≡ Some (bs, s)
replies_are_read below m i s bs past =
    let none : m - i ≡ 0 = omega arith in
    ap (λ k. prepended bs (replies_read below k s)) none ∙ ap (λ x. Some (x, s)) (joined_none bs)

-- ---- listed colourings one by one

abbrev pub listed_front : List (List Cell) → Option ((List (List Cell) × Line) × Left) → Option ((List (List Cell) × Line) × Left)
listed_front cs o = option_map (λ q. ((cs ++ q.0.0, q.0.1), q.1)) o

pub no_front : (o : Option ((List (List Cell) × Line) × Left)) → listed_front [] o ≡ o
no_front None = refl
no_front (Some q) = refl

front_more : (cs : List (List Cell)) (c : List Cell) (o : Option ((List (List Cell) × Line) × Left)) → listed_front cs (option_map (λ q. ((c ∷ q.0.0, q.0.1), q.1)) o) ≡ listed_front (cs ++ c ∷ []) o
front_more cs c None = refl
front_more cs c (Some q) = ap (λ x. Some ((x, q.0.1), q.1)) (sym (append_assoc cs (c ∷ []) q.0.0))

module _ (pick : Line → Option (List Cell)) (s : Left) where
  abbrev later_listed : Line → Left → Option ((List (List Cell) × Line) × Left)
  later_listed = listed_read pick (1000001 - (s.listed + 1))

  next_listed : (l : Line) → s.listed ≤ 1000000 → listed_read pick (1000001 - s.listed) l s ≡ listed_more later_listed (pick l) l s
  next_listed l few = let one : 1000001 - s.listed ≡ suc (1000001 - (s.listed + 1)) = omega arith in ap (λ k. listed_read pick k l s) one

  pub listed_is_read : (cs : List (List Cell)) (l : Line) (c : List Cell) (k : Line) (t : Left) → s.listed ≤ 1000000 → pick l ≡ Some c → line_read (record s { listed = s.listed + 1 }) ≡ Some (k, t)
      → listed_front cs (listed_read pick (1000001 - s.listed) l s) ≡ listed_front (cs ++ c ∷ []) (listed_read pick (1000001 - (s.listed + 1)) k t)
  listed_is_read cs l c k t few is e =
      rw (next_listed l few, is, e) (front_more cs c (later_listed k t))

-- ---- lemmas one by one

abbrev pub lemmas_front : List Lemma → Option (List Lemma × Left) → Option (List Lemma × Left)
lemmas_front ls o = option_map (λ q. (ls ++ q.0, q.1)) o

pub no_lemmas_front : (o : Option (List Lemma × Left)) → lemmas_front [] o ≡ o
no_lemmas_front None = refl
no_lemmas_front (Some q) = refl

lemmas_front_more : (ls : List Lemma) (l : Lemma) (o : Option (List Lemma × Left)) → lemmas_front ls (option_map (λ q. (l ∷ q.0, q.1)) o) ≡ lemmas_front (ls ++ l ∷ []) o
lemmas_front_more ls l None = refl
lemmas_front_more ls l (Some q) = ap (λ x. Some (x, q.1)) (sym (append_assoc ls (l ∷ []) q.0))

pub lemmas_after : (s t : Left) (k : ℕ) (l : Line) → k ≤ 65535 → line_read s ≡ Some (l, t) → lemmas_read (65536 - k) s ≡ lemmas_more (lemmas_read (65536 - (k + 1))) l t
lemmas_after s t k l few e =
    let one : 65536 - k ≡ suc (65536 - (k + 1)) = omega arith in
    rw (one, e) refl

-- a line that begins no lemma and is not `main`
pub no_lemma : (n : ℕ) (others : Left → Option (List Lemma × Left)) (t : Left) (l : code_line.Line) → ((k : Colour) (p : ℕ) (root : List Cell) → l ≡ lines.Lemma k p root → ⊥) → (l ≡ lines.Main → ⊥) → lemmas_more others (line_value n l) t ≡ None
no_lemma n others t (lines.Lemma k p root) f g = absurd (f k p root refl)
no_lemma n others t lines.Main f g = absurd (g refl)
no_lemma n others t (lines.Header v size winner) f g = refl
no_lemma n others t (lines.Had c) f g = refl
no_lemma n others t (lines.Not c) f g = refl
no_lemma n others t lines.Won f g = refl
no_lemma n others t (lines.Use j) f g = refl
no_lemma n others t (lines.Play u) f g = refl
no_lemma n others t (lines.All m) f g = refl
no_lemma n others t (lines.Reply u) f g = refl
no_lemma n others t lines.End f g = refl

pub lemma_is_read : (s t u : Left) (k : ℕ) (ls : List Lemma) (mover : Colour) (passes : ℕ) (root : List Cell) (z : Lemma) → k ≤ 65535 → line_read s ≡ Some (lemma_line mover passes root, t) → lemma_read mover passes root t ≡ Some (z, u)
    → lemmas_front ls (lemmas_read (65536 - k) s) ≡ lemmas_front (ls ++ z ∷ []) (lemmas_read (65536 - (k + 1)) u)
lemma_is_read s t u k ls mover passes root z few e there =
    let others = lemmas_read (65536 - (k + 1)) in
    rw (lemmas_after s t k (lemma_line mover passes root) few e, there) (lemmas_front_more ls z (others u))

pub lemmas_pushed : (n : ℕ) (ls : List code_lemma.Lemma) (l : code_lemma.Lemma) → map (lemma_of n) (ls ++ l ∷ []) ≡ map (lemma_of n) ls ++ lemma_of n l ∷ []
lemmas_pushed n [] l = refl
lemmas_pushed n (k ∷ ls) l = ap (λ xs. lemma_of n k ∷ xs) (lemmas_pushed n ls l)
