-- The solution record holds the same problem, and the answer tree stands below its problem node.
use Rattle.tsumego_problem.proofs.Common.{◌≡◌, ℕ, ◌*◌, ◌≤◌, ◌<◌, refl, ap, rules, arith, not, codes, list_all, bytes_eq, append_assoc, and_parts, not-true, nat_tests, MAX_SIZE, Colour, opponent_of, Ply, move, GameState, GameProblem, start, next, AnswerTree, leaf, turn, replies, none, reply, values_at, is_named, Node, Forest, no_tree, turn_in, is_marked, main_line, line_below, children_of, below_in, below_line, point_value, property, turn_node, past_nodes, marks, verdict_text, solution}
use Rattle.std.specs.Prelude.{true, false, cond, List, [], ◌∷◌, ◌++◌, Option, Some}
use Rattle.go_points.specs.Ply.{holds_ply}
use Rattle.target_game.specs.Legal.{legal, legal_turns}
use Rattle.target_game.specs.Answers.{ReplyTrees, turns_of, answers, all_answer}
use Rattle.target_game.proofs.Winning.{answers_turn, answers_replies, all_reply, lists_the_legal}
use Rattle.tsumego_problem.specs.Walked.{StandsOn}
use Rattle.tsumego_problem.specs.Below.{Carries, Shows, ShowsEach}
use Rattle.tsumego_problem.specs.Canonical.{rest_of, rest_of_replies, forest_of_replies}
use Rattle.tsumego_problem.specs.Laws.{SolutionShows, SolutionReads}
use Rattle.tsumego_problem.proofs.Points.{trim_two, letter_white, point_reads}
use Rattle.tsumego_problem.proofs.CanonicalRecord.{SaysMarks, is_problem_node, past_is_unmarked, reads_marked}

-- ---- the comment of the problem node

-- a property at the end, where another is looked for
ends_with_other : (name other : List ℕ) (vs : List (List ℕ)) (node : Node) → bytes_eq name other ≡ false → values_at name (node ++ record { ident = other; values = vs } ∷ []) ≡ values_at name node
ends_with_other name other vs [] e = rw e refl
ends_with_other name other vs (p ∷ ps) e = ap (λ rest. cond (is_named name p) p.values rest) (ends_with_other name other vs ps e)

commented : (q : GameProblem) (x : Colour) → SaysMarks q (marks q ++ property (codes "C") (verdict_text x ∷ []))
commented q x = search rules

-- ---- what stands below the first marked node

below_past : (past : List Node) (node : Node) (nodes : List Node) (children : Forest) (deeper : Option Forest) → list_all (λ m. not (is_marked m)) past ≡ true → is_marked node ≡ true
    → below_in (past ++ node ∷ nodes) children deeper ≡ Some (children_of nodes children)
below_past [] node nodes children deeper h g = rw g refl
below_past (m ∷ ms) node nodes children deeper h g =
    let b = and_parts (not (is_marked m)) (list_all (λ m. not (is_marked m)) ms) h in
    let e : is_marked m ≡ false = not-true (is_marked m) b.0 in
    rw e (below_past ms node nodes children deeper b.1 g)

-- ---- turns and their nodes

module _ (n : ℕ) (low : 1 ≤ n) (high : n ≤ MAX_SIZE) where
  move_reads : (p : ℕ) → p < n * n → turn_in n (point_value n p) ≡ Some (move p)
  move_reads p h = grind (arith, nat_tests, trim_two, letter_white, point_reads)

  carried : (k : Colour) (t : Ply) → StandsOn n t → Carries n k (turn_node n k t) t
  carried k t h = grind (arith, nat_tests, move_reads)

  legal_stands : (s : GameState) (t : Ply) → s.game.size ≡ n → legal s t ≡ true → StandsOn n t
  legal_stands s t h g = search rules

  next_size : (s : GameState) (t : Ply) → s.game.size ≡ n → (next s t).game.size ≡ n
  next_size s t h = search rules

  next_mover : (s : GameState) (t : Ply) (k : Colour) → s.mover ≡ k → (next s t).mover ≡ opponent_of k
  next_mover s t k h = search rules

  mutual
    shown : (x k : Colour) (s : GameState) (a : AnswerTree) → s.game.size ≡ n → s.mover ≡ k → answers x s a ≡ true → Shows n k a (children_of (rest_of n k a).0 (rest_of n k a).1)
    shown x k s leaf same turn_of h = refl
    shown x k s (turn t a) same turn_of h =
        let (open_, mine, is, rest) = answers_turn x s t a h in
        let r = rest_of n (opponent_of k) a in
        (turn_node n k t, r.0, r.1, refl, carried k t (legal_stands s t same is), shown x (opponent_of k) (next s t) a (next_size s t same) (next_mover s t k turn_of) rest)
    shown x k s (replies rs) same turn_of h =
        let (open_, theirs, plies, rest) = answers_replies x s rs h in
        shown_replies x k s rs same turn_of (and_parts (list_all (holds_ply (legal_turns s)) (turns_of rs)) (list_all (holds_ply (turns_of rs)) (legal_turns s)) plies).0 rest

    shown_replies : (x k : Colour) (s : GameState) (rs : ReplyTrees) → s.game.size ≡ n → s.mover ≡ k → list_all (holds_ply (legal_turns s)) (turns_of rs) ≡ true → all_answer x s rs ≡ true
        → ShowsEach n k rs (children_of (rest_of_replies n k rs).0 (rest_of_replies n k rs).1)
    shown_replies x k s none same turn_of legal_ h = refl
    shown_replies x k s (reply t a none) same turn_of legal_ h =
        let r = rest_of n (opponent_of k) a in
        let l = and_parts (holds_ply (legal_turns s) t) true legal_ in
        (turn_node n k t, r.0, r.1, no_tree, refl, carried k t (legal_stands s t same ((lists_the_legal s t).0 l.0)), shown x (opponent_of k) (next s t) a (next_size s t same) (next_mover s t k turn_of) (all_reply x s t a none h).0, refl)
    shown_replies x k s (reply t a (reply u b rs)) same turn_of legal_ h =
        let r = rest_of n (opponent_of k) a in
        let l = and_parts (holds_ply (legal_turns s) t) (list_all (holds_ply (legal_turns s)) (turns_of (reply u b rs))) legal_ in
        let each = all_reply x s t a (reply u b rs) h in
        (turn_node n k t, r.0, r.1, forest_of_replies n k (reply u b rs), refl, carried k t (legal_stands s t same ((lists_the_legal s t).0 l.0)), shown x (opponent_of k) (next s t) a (next_size s t same) (next_mover s t k turn_of) each.0, shown_forest x k s (reply u b rs) same turn_of l.1 each.1)

    shown_forest : (x k : Colour) (s : GameState) (rs : ReplyTrees) → s.game.size ≡ n → s.mover ≡ k → list_all (holds_ply (legal_turns s)) (turns_of rs) ≡ true → all_answer x s rs ≡ true → ShowsEach n k rs (forest_of_replies n k rs)
    shown_forest x k s none same turn_of legal_ h = refl
    shown_forest x k s (reply t a rs) same turn_of legal_ h =
        let r = rest_of n (opponent_of k) a in
        let l = and_parts (holds_ply (legal_turns s) t) (list_all (holds_ply (legal_turns s)) (turns_of rs)) legal_ in
        let each = all_reply x s t a rs h in
        (turn_node n k t, r.0, r.1, forest_of_replies n k rs, refl, carried k t (legal_stands s t same ((lists_the_legal s t).0 l.0)), shown x (opponent_of k) (next s t) a (next_size s t same) (next_mover s t k turn_of) each.0, shown_forest x k s rs same turn_of l.1 each.1)

-- ---- the solution record

line_is : (q : GameProblem) (x : Colour) (a : AnswerTree) → main_line (solution q x a) ≡ past_nodes q ++ (marks q ++ property (codes "C") (verdict_text x ∷ [])) ∷ ((rest_of q.game.size q.mover a).0 ++ line_below (rest_of q.game.size q.mover a).1)
line_is q x a = let r = rest_of q.game.size q.mover a in append_assoc (past_nodes q) ((marks q ++ property (codes "C") (verdict_text x ∷ [])) ∷ r.0) (line_below r.1)

pub solution_shows : SolutionShows
solution_shows q x a P h =
    let n = q.game.size in let r = rest_of n q.mover a in let node = marks q ++ property (codes "C") (verdict_text x ∷ []) in (
      reads_marked q P (solution q x a) node (r.0 ++ line_below r.1) (commented q x) (line_is q x a),
      children_of r.0 r.1,
      below_past (past_nodes q) node r.0 r.1 (below_line r.1) (past_is_unmarked q P) (is_problem_node q P node (commented q x)),
      shown n P.small P.large x q.mover (start q) a refl refl h,
    )

pub solution_reads : SolutionReads
solution_reads q x a P h = let (same, children, below, shows) = solution_shows q x a P h in (same, (a, children, below, shows, h))
