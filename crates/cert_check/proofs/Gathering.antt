-- A walk over a tree: what is left to be gathered after a turn, and that each turn may be made.
use Rattle.cert_check.proofs.Common.{◌≡◌, ℕ, ◌+◌, ◌*◌, ◌≤◌, ◌<◌, Bool, true, false, not, ◌&&◌, List, [], ◌∷◌, ◌++◌, map, filter, Some, None, IsTrue, Bor, Vec, Box, Global, refl, sym, ap, ◌∙◌, subst, arith, append_assoc, append-nil, cond, lt-ltb, inl, inr, range_with_len, map-append, reverse-append, Cell, Turn, Pass, At, Place, Empty, same_cell, cell_at, opponent_of, points, Ply, pass, move, ply_of, Game, GameState, holds_point, legal, next, over, Node, won, by_lemma, play, all, Branches, no_branch, branch, branch_turns, node_count, node_count_below, node_of, replies_of, node_of_play, node_of_all, Later, Body, is_open, is_known, result_of, FitsNode, FitsBranches, reply_results_below, Gathered, gathered, nothing, joined, of_node, left_at, node_at, due_at, reversed, is_past, IsPlayable, ArePlayable}
use Rattle.std.proofs.lemmas.List.Elements.{filter-append}
use Rattle.target_game.specs.State.{Line}
use Rattle.target_game.proofs.Playing.{passing_more}
use Rattle.proof_cert.specs.declared.certificate.Node as code
use Rattle.proof_cert.specs.declared.certificate.Node.TheVariants as node_of_claim
use Rattle.cert_check.specs.Private.Results.{of_branches, of_later}
use Rattle.cert_check.proofs.Members.{Member, and_both}
use Rattle.cert_check.proofs.Game.{legal_at}
use Rattle.cert_check.proofs.Soundness.{game-next, nobody}
use Rattle.proof_cert.proofs.ReadComplete.{one_node}

-- JOINING

same_parts : (p p' b b' : List (List Cell)) (k k' : ℕ) → p ≡ p' → b ≡ b' → k ≡ k' → gathered p b k ≡ gathered p' b' k'
same_parts p p' b b' k k' e f g = λ i. gathered (e i) (f i) (g i)

pub joined_first : (a : Gathered) → joined nothing a ≡ a
joined_first a = ap (gathered a.plays a.barred) (let e : 0 + a.nodes ≡ a.nodes = omega arith in e)

-- what comes first goes to what was gathered
pub taken_on : (ps bs ps' bs' : List (List Cell)) (a b : Gathered) → joined (gathered ps bs 0) (joined (joined (gathered ps' bs' 1) a) b) ≡ joined (gathered (ps ++ ps') (bs ++ bs') 1) (joined a b)
taken_on ps bs ps' bs' a b =
    same_parts (ps ++ ((ps' ++ a.plays) ++ b.plays)) ((ps ++ ps') ++ (a.plays ++ b.plays)) (bs ++ ((bs' ++ a.barred) ++ b.barred)) ((bs ++ bs') ++ (a.barred ++ b.barred)) (0 + ((1 + a.nodes) + b.nodes)) (1 + (a.nodes + b.nodes))
    (parts ps ps' a.plays b.plays) (parts bs bs' a.barred b.barred) (omega arith)
  where
    parts : (ws xs ys zs : List (List Cell)) → ws ++ ((xs ++ ys) ++ zs) ≡ (ws ++ xs) ++ (ys ++ zs)
    parts ws xs ys zs = ap (λ l. ws ++ l) (append_assoc xs ys zs) ∙ sym (append_assoc ws xs (ys ++ zs))

pub counted_on : (ps bs ps' bs' : List (List Cell)) (k : ℕ) (x y : Gathered) → joined (gathered ps' bs' 1) x ≡ joined (gathered ps bs 0) y → joined (gathered ps' bs' (k + 1)) x ≡ joined (gathered ps bs k) y
counted_on ps bs ps' bs' k x y e =
    let m : 1 + x.nodes ≡ 0 + y.nodes = ap (λ (g : Gathered). g.nodes) e in
    same_parts (ps' ++ x.plays) (ps ++ y.plays) (bs' ++ x.barred) (bs ++ y.barred) ((k + 1) + x.nodes) (k + y.nodes)
    (ap (λ (g : Gathered). g.plays) e) (ap (λ (g : Gathered). g.barred) e) (omega arith)

pub joined_last : (a : Gathered) → joined a nothing ≡ a
joined_last a = same_parts (a.plays ++ []) a.plays (a.barred ++ []) a.barred (a.nodes + 0) a.nodes (append-nil a.plays) (append-nil a.barred) (omega arith)

-- WHAT A NODE GIVES BY ITSELF

abbrev pub own_plays : GameState → Ply → List (List Cell)
own_plays s pass = []
own_plays s (move p) = result_of s p ∷ []

abbrev pub own_barred : GameState → GameState → List (List Cell)
own_barred past s = filter (is_past past) (map (result_of s) (filter (is_open s) (points s.game.size)))

module _ (past s : GameState) where
  play_left : (t : Ply) (n : Node) → of_node past s (play t n) ≡ joined (gathered (own_plays s t) [] 1) (of_node past (next s t) n)
  play_left pass n = ap (gathered (of_node past (next s pass) n).plays (of_node past (next s pass) n).barred) (let e : node_count n + 1 ≡ 1 + node_count n = omega arith in e)
  play_left (move p) n = ap (gathered (of_node past s (play (move p) n)).plays (of_node past (next s (move p)) n).barred) (let e : node_count n + 1 ≡ 1 + node_count n = omega arith in e)

  pub all_left : (bs : Branches) → of_node past s (all bs) ≡ joined (gathered [] (own_barred past s) 1) (of_branches past s bs)
  all_left bs =
      same_parts (of_branches past s bs).plays (of_branches past s bs).plays (of_node past s (all bs)).barred (own_barred past s ++ (of_branches past s bs).barred) (node_count_below bs + 1) (1 + node_count_below bs)
      refl (filter-append (is_past past) (map (result_of s) (filter (is_open s) (points s.game.size))) (reply_results_below s bs)) (omega arith)

same_board : (s : GameState) (t : Ply) (n : code.Node) → node_of (next s t).game.size n ≡ node_of s.game.size n
same_board s t n = ap (λ (g : Game). node_of g.size n) (game-next s t)

-- A TURN MORE

pub later_first : (ls : List Later) (l : Later) → reversed (ls ++ l ∷ []) ≡ l ∷ reversed ls
later_first ls l = reverse-append ls (l ∷ [])

-- the line after a turn
abbrev pub line_with : Line → Ply → Line
line_with line t = record { state = next line.state t; before = line.state ∷ line.before }

module _ (past : GameState) (line : Line) (ls : List Later) where
  abbrev n : ℕ
  n = line.state.game.size

  -- below the turn, with one more state open
  below_left : (t : Ply) (l : Later) (node : Bor code.Node) → left_at past (line_with line t) (ls ++ l ∷ []) (Some node)
      ≡ joined (of_node past (next line.state t) (node_of n node.now)) (joined (of_branches past line.state (replies_of n l.replies.now)) (of_later past (reversed ls) line.before))
  below_left t l node =
      ap (λ (m : Node). joined (of_node past (next line.state t) m) (of_later past (reversed (ls ++ l ∷ [])) (line.state ∷ line.before))) (same_board line.state t node.now)
      ∙ ap (λ (os : List Later). joined (of_node past (next line.state t) (node_of n node.now)) (of_later past os (line.state ∷ line.before))) (later_first ls l)

  -- the winner's turn
  pub play_made : (ps bs : List (List Cell)) (t : Ply) (m : Node) (l : Later) (node below : Bor code.Node) (now : List Later) (after : Line)
      → node_of n node.now ≡ play t m → node_of n below.now ≡ m → now ≡ ls ++ l ∷ [] → l.replies.now ≡ [] → after ≡ line_with line t
      → joined (gathered (ps ++ own_plays line.state t) bs 1) (left_at past after now (Some below)) ≡ joined (gathered ps bs 0) (left_at past line ls (Some node))
  play_made ps bs t m l node below now after is under pushed none made =
      let later : Gathered = of_later past (reversed ls) line.before in
      let rest : Gathered = of_node past (next line.state t) m in
      let left : left_at past after now (Some below) ≡ joined rest later =
      ap (λ (os : List Later). left_at past after os (Some below)) pushed
      ∙ ap (λ (a : Line). left_at past a (ls ++ l ∷ []) (Some below)) made
      ∙ below_left t l below
      ∙ ap (λ (k : Node). joined (of_node past (next line.state t) k) (joined (of_branches past line.state (replies_of n l.replies.now)) later)) under
      ∙ ap (λ (xs : List (Turn × code.Node)). joined rest (joined (of_branches past line.state (replies_of n xs)) later)) none
      ∙ ap (joined rest) (joined_first later) in
      let whole : left_at past line ls (Some node) ≡ joined (joined (gathered (own_plays line.state t) [] 1) rest) later =
      ap (λ (k : Node). joined (of_node past line.state k) later) is ∙ ap (λ a. joined a later) (play_left past line.state t m) in
      ap (joined (gathered (ps ++ own_plays line.state t) bs 1)) left
      ∙ ap (λ (xs : List (List Cell)). joined (gathered (ps ++ own_plays line.state t) xs 1) (joined rest later)) (sym (append-nil bs))
      ∙ sym (taken_on ps bs (own_plays line.state t) [] rest later)
      ∙ ap (joined (gathered ps bs 0)) (sym whole)

  -- a node at which nothing is played: what is left is due
  pub all_asked : (ps bs more : List (List Cell)) (ds : Branches) (rs : List (Turn × code.Node)) (node : Bor code.Node) (left : Gathered)
      → node_of n node.now ≡ all ds → replies_of n rs ≡ ds → more ≡ bs ++ own_barred past line.state → left ≡ due_at past line ls rs
      → joined (gathered ps more 1) left ≡ joined (gathered ps bs 0) (left_at past line ls (Some node))
  all_asked ps bs more ds rs node left is same asked due =
      let later : Gathered = of_later past (reversed ls) line.before in
      let whole : left_at past line ls (Some node) ≡ joined (joined (gathered [] (own_barred past line.state) 1) (of_branches past line.state ds)) later =
      ap (λ (k : Node). joined (of_node past line.state k) later) is ∙ ap (λ a. joined a later) (all_left past line.state ds) in
      ap (joined (gathered ps more 1)) due
      ∙ ap (λ (k : Branches). joined (gathered ps more 1) (joined (of_branches past line.state k) later)) same
      ∙ ap (λ (xs : List (List Cell)). joined (gathered ps xs 1) (joined (of_branches past line.state ds) later)) asked
      ∙ ap (λ (xs : List (List Cell)). joined (gathered xs (bs ++ own_barred past line.state) 1) (joined (of_branches past line.state ds) later)) (sym (append-nil ps))
      ∙ sym (taken_on ps bs [] (own_barred past line.state) (of_branches past line.state ds) later)
      ∙ ap (joined (gathered ps bs 0)) (sym whole)

  pub leaf_asked : (ps bs : List (List Cell)) (k : Node) (rs : List (Turn × code.Node)) (node : Bor code.Node) (left : Gathered)
      → node_of n node.now ≡ k → of_node past line.state k ≡ gathered [] [] 1 → rs ≡ [] → left ≡ due_at past line ls rs
      → joined (gathered ps bs 1) left ≡ joined (gathered ps bs 0) (left_at past line ls (Some node))
  leaf_asked ps bs k rs node left is leaf none due =
      let later : Gathered = of_later past (reversed ls) line.before in
      let whole : left_at past line ls (Some node) ≡ joined (joined (gathered [] [] 1) nothing) later =
      ap (λ (m : Node). joined (of_node past line.state m) later) is ∙ ap (λ a. joined a later) leaf in
      ap (joined (gathered ps bs 1)) due
      ∙ ap (λ (xs : List (Turn × code.Node)). joined (gathered ps bs 1) (due_at past line ls xs)) none
      ∙ ap (λ (xs : List (List Cell)). joined (gathered xs bs 1) (joined nothing later)) (sym (append-nil ps))
      ∙ ap (λ (xs : List (List Cell)). joined (gathered (ps ++ []) xs 1) (joined nothing later)) (sym (append-nil bs))
      ∙ sym (taken_on ps bs [] [] nothing later)
      ∙ ap (joined (gathered ps bs 0)) (sym whole)

-- WHAT A TURN GIVES

module _ (line after : Line) (turn : Turn) (made : after ≡ line_with line (ply_of line.state.game.size turn)) where
  pub pass_gives : (ps now : List (List Cell)) → turn ≡ Pass → now ≡ ps → now ≡ ps ++ own_plays line.state (ply_of line.state.game.size turn)
  pass_gives ps now is same = same ∙ sym (append-nil ps) ∙ ap (λ (t : Turn). ps ++ own_plays line.state (ply_of line.state.game.size t)) (sym is)

  pub move_gives : (ps now : List (List Cell)) (p : Place) (c : List Cell) → turn ≡ At p → c ≡ after.state.colouring → now ≡ ps ++ c ∷ [] → now ≡ ps ++ own_plays line.state (ply_of line.state.game.size turn)
  move_gives ps now p c is shown more =
      more
      ∙ ap (λ (d : List Cell). ps ++ d ∷ []) (shown ∙ ap (λ (l : Line). l.state.colouring) made ∙ ap (λ (t : Turn). (next line.state (ply_of line.state.game.size t)).colouring) is)
      ∙ ap (λ (t : Turn). ps ++ own_plays line.state (ply_of line.state.game.size t)) (sym is)

  pub playable_after : (m below : code.Node) → below ≡ m → IsPlayable (next line.state (ply_of line.state.game.size turn)) (node_of line.state.game.size m) → IsPlayable after.state (node_of after.state.game.size below)
  playable_after m below same h =
      let t : Ply = ply_of line.state.game.size turn in
      subst (λ (b : code.Node). IsPlayable after.state (node_of after.state.game.size b)) (sym same)
      (subst (λ (l : Line). IsPlayable l.state (node_of l.state.game.size m)) (sym made)
      (subst (IsPlayable (next line.state t)) (sym (same_board line.state t m)) h))

module _ (s : GameState) (node : code.Node) where
  pub playable_play : (t : Turn) (below : Box code.Node Global) → node ≡ node_of_claim.Play t below → IsPlayable s (node_of s.game.size node)
      → (over s ≡ None) × IsTrue (legal s (ply_of s.game.size t)) × IsPlayable (next s (ply_of s.game.size t)) (node_of s.game.size below.value)
  playable_play t below is h = subst (IsPlayable s) (ap (node_of s.game.size) is ∙ node_of_play s.game.size t below) h

  pub playable_all : (rs : Vec (Turn × code.Node) Global) (xs : List (Turn × code.Node)) → node ≡ node_of_claim.All rs → xs ≡ rs.items → IsPlayable s (node_of s.game.size node) → ArePlayable s (replies_of s.game.size xs)
  playable_all rs xs is same h =
      subst (λ (ys : List (Turn × code.Node)). ArePlayable s (replies_of s.game.size ys)) (sym same) (subst (IsPlayable s) (ap (node_of s.game.size) is ∙ node_of_all s.game.size rs) h)

-- EACH TURN MAY BE MADE

mutual
  pub playable_node : (b : Body) (n : Node) (s : GameState) → FitsNode b s n → IsPlayable s n
  playable_node b won s f = tt
  playable_node b (by_lemma j) s f = tt
  playable_node b (play pass n) s f = (nobody b.winner s f.0, refl, playable_node b n (next s pass) f.1)
  playable_node b (play (move p) n) s f = (nobody b.winner s f.0.0, and_both (is_open s p) (not (is_known s (result_of s p))) f.0.1 f.0.2, playable_node b n (next s (move p)) f.1)
  playable_node b (all bs) s f = playable_branches b bs s (nobody (opponent_of b.winner) s f.0) (λ t m. legal_at s t (subst (λ ts. Member t ts) f.1 m)) f.2

  playable_branches : (b : Body) (bs : Branches) (s : GameState) → over s ≡ None → ((t : Ply) → Member t (branch_turns bs) → IsTrue (legal s t)) → FitsBranches b s bs → ArePlayable s bs
  playable_branches b no_branch s o l f = tt
  playable_branches b (branch t n bs) s o l f = (o, l t (inl refl), playable_node b n (next s t) f.0, playable_branches b bs s o (λ u m. l u (inr m)) f.1)

-- THE POINTS THAT WERE ASKED

module _ (past s : GameState) where
  -- what the points below a number give
  abbrev pub asked : ℕ → List (List Cell)
  asked i = filter (is_past past) (map (result_of s) (filter (is_open s) (range_with_len 0 i)))

  asked_more : (i : ℕ) (b : Bool) → is_open s i ≡ b → asked (i + 1) ≡ asked i ++ filter (is_past past) (map (result_of s) (cond b (i ∷ []) []))
  asked_more i b e =
      ap (λ ps. filter (is_past past) (map (result_of s) ps)) (passing_more (is_open s) i)
      ∙ ap (λ (a : Bool). filter (is_past past) (map (result_of s) (filter (is_open s) (range_with_len 0 i) ++ cond a (i ∷ []) []))) e
      ∙ ap (filter (is_past past)) (map-append (result_of s) (filter (is_open s) (range_with_len 0 i)) (cond b (i ∷ []) []))
      ∙ filter-append (is_past past) (map (result_of s) (filter (is_open s) (range_with_len 0 i))) (map (result_of s) (cond b (i ∷ []) []))

  module _ (i : ℕ) (old before now : List (List Cell)) (so_far : before ≡ old ++ asked i) where
    pub closed_passed : is_open s i ≡ false → now ≡ before → now ≡ old ++ asked (i + 1)
    closed_passed e same = same ∙ so_far ∙ ap (λ l. old ++ l) (sym (append-nil (asked i)) ∙ sym (asked_more i false e))

    pub other_passed : is_open s i ≡ true → is_past past (result_of s i) ≡ false → now ≡ before → now ≡ old ++ asked (i + 1)
    other_passed e t same =
        same ∙ so_far ∙ ap (λ l. old ++ l) (sym (append-nil (asked i)) ∙ ap (λ (b : Bool). asked i ++ cond b (result_of s i ∷ []) []) (sym t) ∙ sym (asked_more i true e))

    pub past_added : is_open s i ≡ true → is_past past (result_of s i) ≡ true → now ≡ before ++ result_of s i ∷ [] → now ≡ old ++ asked (i + 1)
    past_added e t more =
        more ∙ ap (λ l. l ++ result_of s i ∷ []) so_far ∙ append_assoc old (asked i) (result_of s i ∷ [])
        ∙ ap (λ l. old ++ l) (ap (λ (b : Bool). asked i ++ cond b (result_of s i ∷ []) []) (sym t) ∙ sym (asked_more i true e))

-- an empty point of the region, by its number
pub open_by : (s : GameState) (i k : ℕ) (b : Bool) → i < s.game.size * s.game.size → k ≡ i → b ≡ (holds_point s.game.region k && same_cell (cell_at s.colouring k) Empty) → is_open s i ≡ b
open_by s i k b low e is =
    ap (λ t. (t && holds_point s.game.region i) && same_cell (cell_at s.colouring i) Empty) (lt-ltb i (s.game.size * s.game.size) low)
    ∙ ap (λ j. holds_point s.game.region j && same_cell (cell_at s.colouring j) Empty) (sym e)
    ∙ sym is

-- THE WHOLE WALK

module _ (past s : GameState) (line : Line) (ls : List Later) (node : code.Node) (ps bs ps' bs' : List (List Cell)) (x : Gathered) (same : past ≡ s)
    (left : joined (gathered ps' bs' 1) x ≡ joined (gathered ps bs 0) (node_at past line ls node)) where
  here : joined (gathered ps' bs' 1) x ≡ joined (gathered ps bs 0) (node_at s line ls node)
  here = left ∙ ap (λ (p : GameState). joined (gathered ps bs 0) (node_at p line ls node)) same

  pub walked : (k : ℕ) (whole : Gathered) → joined (gathered ps bs k) (node_at s line ls node) ≡ whole → joined (gathered ps' bs' (k + 1)) x ≡ whole
  walked k whole so_far = counted_on ps bs ps' bs' k x (node_at s line ls node) here ∙ so_far

  pub walked_all : (k : ℕ) (whole : Gathered) → x ≡ nothing → joined (gathered ps bs k) (node_at s line ls node) ≡ whole → gathered ps' bs' (k + 1) ≡ whole
  walked_all k whole done so_far = sym (joined_last (gathered ps' bs' (k + 1))) ∙ ap (joined (gathered ps' bs' (k + 1))) (sym done) ∙ walked k whole so_far

  pub walked_less : x.nodes < (node_at s line ls node).nodes
  walked_less =
      let m : 1 + x.nodes ≡ 0 + (node_at s line ls node).nodes = ap (λ (g : Gathered). g.nodes) here in
      omega (arith, m)

pub walk_begins : (s : GameState) (line : Line) (ls : List Later) (ps bs : List (List Cell)) (node : code.Node) (n : ℕ) → line ≡ record { state = s; before = [] } → ls ≡ [] → ps ≡ [] → bs ≡ [] → n ≡ s.game.size
    → joined (gathered ps bs 0) (node_at s line ls node) ≡ of_node s s (node_of n node)
walk_begins s line ls ps bs node n first none no_plays no_barred size =
    ap (λ (xs : List (List Cell)). joined (gathered xs bs 0) (node_at s line ls node)) no_plays
    ∙ ap (λ (xs : List (List Cell)). joined (gathered [] xs 0) (node_at s line ls node)) no_barred
    ∙ joined_first (node_at s line ls node)
    ∙ ap (λ (os : List Later). node_at s line os node) none
    ∙ ap (λ (l : Line). node_at s l [] node) first
    ∙ joined_last (of_node s s (node_of s.game.size node))
    ∙ ap (λ k. of_node s s (node_of k node)) (sym size)

pub begins_playable : (b : Body) (s : GameState) (line : Line) (node : code.Node) (n : ℕ) → line ≡ record { state = s; before = [] } → n ≡ s.game.size → FitsNode b s (node_of n node) → IsPlayable line.state (node_of line.state.game.size node)
begins_playable b s line node n first size fits =
    subst (λ (l : Line). IsPlayable l.state (node_of l.state.game.size node)) (sym first) (subst (λ (k : ℕ). IsPlayable s (node_of k node)) size (playable_node b (node_of n node) s fits))

pub walk_room : (s : GameState) (line : Line) (ls : List Later) (node : code.Node) (ps bs : List (List Cell)) (k most : ℕ) (whole : Gathered) → joined (gathered ps bs k) (node_at s line ls node) ≡ whole → whole.nodes ≤ most → k + 1 ≤ most
walk_room s line ls node ps bs k most whole so_far few =
    let m : k + (node_count (node_of line.state.game.size node) + (of_later s (reversed ls) line.before).nodes) ≡ whole.nodes = ap (λ (g : Gathered). g.nodes) so_far in
    let one = one_node (node_of line.state.game.size node) in
    omega (arith, m, one, few)
