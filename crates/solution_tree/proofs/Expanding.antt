-- A walk through a claim's tree: what can be made, one turn more, and one turn less.
use Rattle.solution_tree.proofs.Common.{◌≡◌, ℕ, ◌+◌, ◌<◌, Bool, true, ◌&&◌, IsTrue, List, [], ◌∷◌, ◌++◌, None, Bor, Box, Global, Vec, length, refl, sym, ap, ◌∙◌, subst, arith, is_none, same_colour, Colour, Turn, Ply, ply_of, and_left, and_right, GameState, Line, start, legal, legal_turns, next, over, AnswerTree, turn, replies, ReplyTrees, none, reply, reply_sizes, each_once, same_plies, turns_of, play, all, no_branch, claim_of, node_of, node_of_play, CheckedClaim, IsChecked, answer_of, replies_of, Answer, OpenTurn, Reply, AreOpen, CanGoOn, CanOpen, Goes, all_below, branches_at, closed, due, expanded, later_of, lemma_answers, lemma_count, replies_then, tree_at, uses_below, whole}
use Rattle.std.specs.Prelude.{not}
use Rattle.std.proofs.lemmas.List.{reverse-append}
use Rattle.target_game.specs.Answers.{answer_size, answers, all_answer}
use Rattle.target_game.specs.Left.{line_after}
use Rattle.proof_cert.specs.Certificate as claim
use Rattle.proof_cert.specs.declared.certificate.Node as code
use Rattle.proof_cert.specs.declared.certificate.Node.TheVariants as node_of_claim
use Rattle.proof_cert.specs.declared.certificate.Certificate as certificate_type
use Rattle.proof_cert.proofs.Certificates.{node_of_all}
use Rattle.solution_tree.specs.declared.answer.Answer.TheVariants as tree_code
use Rattle.solution_tree.specs.Private.Opened.{AllGoOn, MakesNext, MakesReply, due_before, finish, latest_first}
use Rattle.solution_tree.specs.declared.opened.Part.{Part}
use Rattle.solution_tree.specs.declared.opened.Part.TheVariants.{Claimed, Finished}
use Rattle.solution_tree.proofs.AnswerTrees.{answer_of_replies}
use Rattle.solution_tree.proofs.Going.{went_size}
use Rattle.solution_tree.proofs.Lower.{main_is_below}
use Rattle.go_points.proofs.Liberties.{none_is}
use Rattle.target_game.proofs.Winning.{all_reply}
use Rattle.target_game.proofs.Trees.{to_no_reply}

latest : (os : List OpenTurn) (o : OpenTurn) → latest_first (os ++ o ∷ []) ≡ o ∷ latest_first os
latest os o = reverse-append os (o ∷ [])

-- ---- what answers

open_state : (s : GameState) → is_none (over s) ≡ true → over s ≡ None
open_state s h = none_is (over s) h

module _ (x : Colour) (s : GameState) where
  turn_answers : (t : Ply) (a : AnswerTree) → answers x s (turn t a) ≡ true → (over s ≡ None) × (legal s t ≡ true) × (answers x (next s t) a ≡ true)
  unfolding answers
  turn_answers t a h =
      let three = and_left (is_none (over s) && same_colour s.mover x && legal s t) (answers x (next s t) a) h in
      let two = and_left (is_none (over s) && same_colour s.mover x) (legal s t) three in (
        open_state s (and_left (is_none (over s)) (same_colour s.mover x) two),
        and_right (is_none (over s) && same_colour s.mover x) (legal s t) three,
        and_right (is_none (over s) && same_colour s.mover x && legal s t) (answers x (next s t) a) h,
      )

  replies_answer : (rs : ReplyTrees) → answers x s (replies rs) ≡ true → (over s ≡ None) × (all_answer x s rs ≡ true)
  unfolding answers
  replies_answer rs h =
      let four = and_left (is_none (over s) && not (same_colour s.mover x) && each_once (turns_of rs) && same_plies (turns_of rs) (legal_turns s)) (all_answer x s rs) h in
      let three = and_left (is_none (over s) && not (same_colour s.mover x) && each_once (turns_of rs)) (same_plies (turns_of rs) (legal_turns s)) four in
      let two = and_left (is_none (over s) && not (same_colour s.mover x)) (each_once (turns_of rs)) three in (
        open_state s (and_left (is_none (over s)) (not (same_colour s.mover x)) two),
        and_right (is_none (over s) && not (same_colour s.mover x) && each_once (turns_of rs) && same_plies (turns_of rs) (legal_turns s)) (all_answer x s rs) h,
      )

-- ---- trees of replies

pub then_none : (rs : ReplyTrees) → replies_then rs none ≡ rs
then_none none = refl
then_none (reply t a rs) = ap (reply t a) (then_none rs)

pub reply_added : (n : ℕ) (done : List (Turn × Answer)) (t : Turn) (tree : Answer) (later : ReplyTrees) → replies_then (replies_of n (done ++ (t, tree) ∷ [])) later ≡ replies_then (replies_of n done) (reply (ply_of n t) (answer_of n tree) later)
reply_added n [] t tree later = refl
reply_added n (r ∷ done) t tree later = ap (reply (ply_of n r.0) (answer_of n r.1)) (reply_added n done t tree later)

module _ where
  pub size_of_reply : (t : Ply) (a : AnswerTree) (rs : ReplyTrees) → reply_sizes (reply t a rs) ≡ 1 + answer_size a + reply_sizes rs
  unfolding answer_size
  size_of_reply t a rs = refl

  pub size_of_turn : (t : Ply) (a : AnswerTree) → answer_size (turn t a) ≡ 1 + answer_size a
  unfolding answer_size
  size_of_turn t a = refl

  pub size_of_replies : (rs : ReplyTrees) → answer_size (replies rs) ≡ reply_sizes rs
  unfolding answer_size
  size_of_replies rs = refl

  pub size_of_none : reply_sizes none ≡ 0
  unfolding answer_size
  size_of_none = refl

-- ---- what can be made

module _ (k : CheckedClaim) (s : GameState) where
  abbrev n : ℕ
  n = k.certificate.size

  abbrev x : Colour
  x = (claim_of k.certificate).winner

  -- the winner's turn, on the board of the state, after which nothing else can be made there
  pub plays : (t : Turn) (below : Box code.Node Global) (node under : code.Node) → node ≡ node_of_claim.Play t below → under ≡ below.value → CanOpen k s (node_of n node)
      → (over s ≡ None) × (legal s (ply_of s.game.size t) ≡ true)
      × CanOpen k (next s (ply_of s.game.size t)) (node_of n under) × CanGoOn k s no_branch
      × (tree_at k (node_of n node) s ≡ turn (ply_of n t) (tree_at k (node_of n under) (next s (ply_of s.game.size t))))
  plays t below node under is same given =
      let spelled : node_of n node ≡ play (ply_of n t) (node_of n under) = ap (node_of n) is ∙ node_of_play n t below ∙ ap (λ (b : code.Node). play (ply_of n t) (node_of n b)) (sym same) in
      let it : CanOpen k s (play (ply_of n t) (node_of n under)) = subst (CanOpen k s) spelled given in
      let (going, may, on) = turn_answers x s (ply_of n t) (tree_at k (node_of n under) (next s (ply_of n t))) it.answers in
      subst (λ m. (over s ≡ None) × (legal s (ply_of m t) ≡ true)
      × CanOpen k (next s (ply_of m t)) (node_of n under) × CanGoOn k s no_branch
      × (tree_at k (node_of n node) s ≡ turn (ply_of n t) (tree_at k (node_of n under) (next s (ply_of m t))))) (sym it.size) (
        going,
        may,
        record { size = went_size s (ply_of n t) ∙ it.size; lemmas = it.lemmas; answers = on },
        record { size = it.size; lemmas = refl; going = going; answers = to_no_reply x s },
        ap (λ m. tree_at k m s) spelled,
      )

  -- the other side's turns
  pub replies_to : (rs : Vec (Turn × code.Node) Global) (node : code.Node) (items : List (Turn × code.Node)) → node ≡ node_of_claim.All rs → items ≡ rs.items → CanOpen k s (node_of n node)
      → CanGoOn k s (claim.replies_of n items) × (tree_at k (node_of n node) s ≡ replies (branches_at k (claim.replies_of n items) s))
  replies_to rs node items is same given =
      let spelled : node_of n node ≡ all (claim.replies_of n items) = ap (node_of n) is ∙ node_of_all n rs ∙ ap (λ (xs : List (Turn × code.Node)). all (claim.replies_of n xs)) (sym same) in
      let it : CanOpen k s (all (claim.replies_of n items)) = subst (CanOpen k s) spelled given in
      let (going, each) = replies_answer x s (branches_at k (claim.replies_of n items) s) it.answers in
      (record { size = it.size; lemmas = it.lemmas; going = going; answers = each }, ap (λ m. tree_at k m s) spelled)

-- ---- where the walk goes

pub goes_as : (b c : Bool) (k : CheckedClaim) (a e : AnswerTree) (i j : ℕ) (p : Part) (os : List OpenTurn) (line : Line) → (IsTrue c → IsTrue b × (a ≡ e)) → i ≡ j → Goes b k a i p os line → Goes c k e j p os line
goes_as b c k a e i j p os line same size it = record { turns = it.turns; stands = it.stands; is = λ h. it.is (same h).0 ∙ (same h).1; left = it.left ∙ size }

module _ (k : CheckedClaim) (os : List OpenTurn) (line : Line) where
  abbrev rows : ℕ
  rows = k.certificate.size

  -- a turn is made, below which the node is
  pub opened : (o : OpenTurn) (t : Ply) (node : Bor code.Node) (now : List OpenTurn) (after : Line) (a : AnswerTree) (size : ℕ) → now ≡ os ++ o ∷ [] → after ≡ line_after line t
      → AreOpen k os line → CanGoOn k line.state (later_of k o) → CanOpen k (next line.state t) (claim.node_of rows node.now)
      → a ≡ closed k o line.state (tree_at k (claim.node_of rows node.now) (next line.state t))
      → size ≡ 1 + answer_size (tree_at k (claim.node_of rows node.now) (next line.state t)) + reply_sizes (branches_at k (later_of k o) line.state)
      → Goes true k (whole k os line a) (size + due k os line) (Claimed node) now after
  opened o t node now after a size items made going later here is count =
      let under : AnswerTree = tree_at k (claim.node_of rows node.now) (next line.state t) in
      let more : due k (os ++ o ∷ []) (line_after line t) ≡ reply_sizes (branches_at k (later_of k o) line.state) + due k os line = ap (λ xs. due_before k xs (line.state ∷ line.before)) (latest os o) in
      let it : Goes true k (whole k os line a) (size + due k os line) (Claimed node) (os ++ o ∷ []) (line_after line t) = record {
        turns = subst (λ xs. AllGoOn k xs (line.state ∷ line.before)) (sym (latest os o)) (later, going);
        stands = here;
        is = λ h. ap (λ xs. finish k xs (line.state ∷ line.before) under) (latest os o) ∙ ap (whole k os line) (sym is);
        left = omega (arith, more, count);
      } in
      subst (λ (xs : List OpenTurn). Goes true k (whole k os line a) (size + due k os line) (Claimed node) xs after) (sym items)
      (subst (λ (l : Line). Goes true k (whole k os line a) (size + due k os line) (Claimed node) (os ++ o ∷ []) l) (sym made) it)

  -- no turn is made, as the tree is finished
  pub finished : (keep : Bool) (a : AnswerTree) (size : ℕ) (tree : Answer) (after : Line) → after ≡ line → AreOpen k os line → (IsTrue keep → answer_of rows tree ≡ a) → size ≡ 0
      → Goes keep k (whole k os line a) (size + due k os line) (Finished tree) os after
  finished keep a size tree after same going is nothing =
      let it : Goes keep k (whole k os line a) (size + due k os line) (Finished tree) os line = record { turns = going; stands = tt; is = λ h. ap (whole k os line) (is h); left = omega (arith, nothing) } in
      subst (λ (l : Line). Goes keep k (whole k os line a) (size + due k os line) (Finished tree) os l) (sym same) it

  -- the next reply is made, on the board of the state, and others can follow
  pub replied : (done : Vec (Turn × Answer) Global) (rs : List (Turn × code.Node)) (r : Bor (Turn × code.Node)) (node : Bor code.Node) (others : Bor (List (Turn × code.Node))) (now : List OpenTurn) (after : Line)
      → now ≡ os ++ Reply done r.now.0 others ∷ [] → node.now ≡ r.now.1 → MakesReply line rs r.now others.now after → AreOpen k os line → CanGoOn k line.state (claim.replies_of rows rs)
      → Goes true k (whole k os line (replies (replies_then (replies_of rows done.items) (branches_at k (claim.replies_of rows rs) line.state)))) (reply_sizes (branches_at k (claim.replies_of rows rs) line.state) + due k os line) (Claimed node) now after
  replied done rs r node others now after items under made going it =
      let x : Colour = (claim_of k.certificate).winner in
      let s : GameState = line.state in
      let t : Ply = ply_of s.game.size r.now.0 in
      let rest : ReplyTrees = branches_at k (claim.replies_of rows others.now) s in
      let a : AnswerTree = tree_at k (node_of rows node.now) (next s t) in
      let first : branches_at k (claim.replies_of rows rs) s ≡ reply (ply_of rows r.now.0) a rest =
      subst (λ (b : code.Node). branches_at k (claim.replies_of rows rs) s ≡ reply (ply_of rows r.now.0) (tree_at k (node_of rows b) (next s t)) rest) (sym under)
      (subst (λ m. branches_at k (claim.replies_of m rs) s ≡ reply (ply_of m r.now.0) (tree_at k (node_of m r.now.1) (next s t)) (branches_at k (claim.replies_of m others.now) s)) it.size (made.first (lemma_answers k))) in
      let (low, lower) = subst (λ m. IsTrue (all_below (lemma_count k) (claim.replies_of m rs)) → IsTrue (uses_below (lemma_count k) (node_of m r.now.1)) × IsTrue (all_below (lemma_count k) (claim.replies_of m others.now))) it.size (made.below (lemma_count k)) it.lemmas in
      let (one, each) = all_reply x s (ply_of rows r.now.0) a rest (sym (ap (all_answer x s) first) ∙ it.answers) in
      let on : answers x (next s t) a ≡ true = ap (λ m. answers x (next s (ply_of m r.now.0)) a) it.size ∙ one in
      let below : IsTrue (uses_below (lemma_count k) (node_of rows node.now)) = subst (λ (b : code.Node). IsTrue (uses_below (lemma_count k) (node_of rows b))) (sym under) low in
      opened (Reply done r.now.0 others) t node now after (replies (replies_then (replies_of rows done.items) (branches_at k (claim.replies_of rows rs) s))) (reply_sizes (branches_at k (claim.replies_of rows rs) s)) items made.made going
      (record { size = it.size; lemmas = lower; going = it.going; answers = each })
      (record { size = went_size s t ∙ it.size; lemmas = below; answers = on })
      (ap (λ us. replies (replies_then (replies_of rows done.items) us)) first)
      (ap reply_sizes first ∙ size_of_reply (ply_of rows r.now.0) a rest)

  -- no reply is left
  pub none_left : (done : Vec (Turn × Answer) Global) (rs : List (Turn × code.Node)) (after : Line) → MakesNext line rs None after → AreOpen k os line → CanGoOn k line.state (claim.replies_of rows rs)
      → Goes true k (whole k os line (replies (replies_then (replies_of rows done.items) (branches_at k (claim.replies_of rows rs) line.state)))) (reply_sizes (branches_at k (claim.replies_of rows rs) line.state) + due k os line) (Finished (tree_code.Replies done)) os after
  none_left done rs after (same, left) going it =
      let nothing : branches_at k (claim.replies_of rows rs) line.state ≡ none = subst (λ m. branches_at k (claim.replies_of m rs) line.state ≡ none) it.size (left (lemma_answers k)) in
      finished true (replies (replies_then (replies_of rows done.items) (branches_at k (claim.replies_of rows rs) line.state))) (reply_sizes (branches_at k (claim.replies_of rows rs) line.state)) (tree_code.Replies done) after same going
      (λ h. answer_of_replies rows done ∙ ap replies (sym (then_none (replies_of rows done.items))) ∙ ap (λ us. replies (replies_then (replies_of rows done.items) us)) (sym nothing))
      (ap reply_sizes nothing ∙ size_of_none)

  -- the turn that was made last is taken back
  pub taken_back : (o : OpenTurn) (these : List OpenTurn) (later : Line) → these ≡ os ++ o ∷ [] → later.before ≡ line.state ∷ line.before → AreOpen k these later
      → CanGoOn k line.state (later_of k o) × AreOpen k os line
      × ((a : AnswerTree) → whole k these later a ≡ whole k os line (closed k o line.state a))
      × (due k these later ≡ reply_sizes (branches_at k (later_of k o) line.state) + due k os line)
  taken_back o these later items back going =
      let last : latest_first these ≡ o ∷ latest_first os = ap latest_first items ∙ latest os o in
      let both = subst (AllGoOn k (o ∷ latest_first os)) back (subst (λ xs. AllGoOn k xs later.before) last going) in (
        both.0,
        both.1,
        (λ a. ap (λ xs. finish k xs later.before a) last ∙ ap (λ ss. finish k (o ∷ latest_first os) ss a) back),
        ap (λ xs. due_before k xs later.before) last ∙ ap (due_before k (o ∷ latest_first os)) back,
      )

-- a turn that is open was made at a state before
pub made_before : (k : CheckedClaim) (os these : List OpenTurn) (o : OpenTurn) (line : Line) → these ≡ os ++ o ∷ [] → AreOpen k these line → 0 < length line.before
made_before k os these o line items going = go line.before (subst (λ xs. AllGoOn k xs line.before) (ap latest_first items ∙ latest os o) going)
  where
    go : (ss : List GameState) → AllGoOn k (o ∷ latest_first os) ss → 0 < length ss
    go [] h = absurd h
    go (s ∷ ss) h = omega arith

-- a turn is taken back, and the walk goes on from there
pub closed_on : (keep : Bool) (k : CheckedClaim) (os these : List OpenTurn) (o : OpenTurn) (line now : Line) (tree : Answer) (a : AnswerTree) (size : ℕ) (p : Part) (then_open : List OpenTurn) (after : Line)
    → these ≡ os ++ o ∷ [] → line.before ≡ now.state ∷ now.before → Goes keep k a size (Finished tree) these line
    → Goes keep k (whole k os now (closed k o now.state (answer_of k.certificate.size tree))) (reply_sizes (branches_at k (later_of k o) now.state) + due k os now) p then_open after
    → Goes keep k a size p then_open after
closed_on keep k os these o line now tree a size p then_open after items back it goes =
    let (later, going, is, left) = taken_back k os now o these line items back it.turns in
    goes_as keep keep k (whole k os now (closed k o now.state (answer_of k.certificate.size tree))) a (reply_sizes (branches_at k (later_of k o) now.state) + due k os now) size p then_open after
    (λ h. (h, sym (is (answer_of k.certificate.size tree)) ∙ it.is h)) (omega (arith, left, it.left)) goes

-- it begins with the claim's main tree at the problem's start
pub begins : (keep : Bool) (k : CheckedClaim) (os : List OpenTurn) (line : Line) (certificate : certificate_type.Certificate) (limit : ℕ) → certificate ≡ k.certificate → os ≡ [] → line ≡ record { state = start k.problem; before = [] }
    → IsChecked k.problem (claim_of k.certificate) → IsTrue (answers (claim_of k.certificate).winner (start k.problem) (expanded k))
    → AreOpen k os line × CanOpen k line.state (node_of k.certificate.size certificate.main)
    × (IsTrue keep → whole k os line (tree_at k (node_of k.certificate.size certificate.main) line.state) ≡ expanded k)
    × (limit + answer_size (tree_at k (node_of k.certificate.size certificate.main) line.state) + due k os line ≡ answer_size (expanded k) + limit)
begins keep k os line certificate limit same none_open now valid answered =
    let n : ℕ = k.certificate.size in
    let begin : Line = record { state = start k.problem; before = [] } in
    let alike : answer_size (tree_at k (node_of n k.certificate.main) begin.state) ≡ answer_size (expanded k) = refl in
    let nothing : due k [] begin ≡ 0 = refl in
    subst (λ (z : certificate_type.Certificate). AreOpen k os line × CanOpen k line.state (node_of n z.main)
    × (IsTrue keep → whole k os line (tree_at k (node_of n z.main) line.state) ≡ expanded k)
    × (limit + answer_size (tree_at k (node_of n z.main) line.state) + due k os line ≡ answer_size (expanded k) + limit)) (sym same)
    (subst (λ (xs : List OpenTurn). AreOpen k xs line × CanOpen k line.state (node_of n k.certificate.main)
    × (IsTrue keep → whole k xs line (tree_at k (node_of n k.certificate.main) line.state) ≡ expanded k)
    × (limit + answer_size (tree_at k (node_of n k.certificate.main) line.state) + due k xs line ≡ answer_size (expanded k) + limit)) (sym none_open)
    (subst (λ (l : Line). AreOpen k [] l × CanOpen k l.state (node_of n k.certificate.main)
    × (IsTrue keep → whole k [] l (tree_at k (node_of n k.certificate.main) l.state) ≡ expanded k)
    × (limit + answer_size (tree_at k (node_of n k.certificate.main) l.state) + due k [] l ≡ answer_size (expanded k) + limit)) (sym now)
    (tt, record { size = sym valid.valid.size; lemmas = main_is_below k valid; answers = answered }, (λ h. refl), omega (arith, alike, nothing))))
