-- Where the nodes below are an answer tree of a side, the audit names that side.
use Rattle.solution_tree.proofs.Common.{◌≡◌, ℕ, ◌+◌, refl, sym, ◌∙◌, ap, subst, inl, rules, arith, cond, find, option_map, is_none, unwrap_or, list_all, append_assoc, append-nil, list_any-append, nat_tests, Colour, same_colour, opponent_of, Ply, pass, holds_ply, or_right, and_left, and_right, and_both, not_true, all_at, all_from, GameState, GameProblem, start, legal, legal_turns, next, over, is_winner, AnswerTree, leaf, turn, replies, ReplyTrees, none, reply, turns_of, each_once, same_plies, same_ply_eq, lists_the_legal, Node, Forest, no_tree, tree_then, GameTree, is_forest, are_nodes, problem_node, children_of, Carries, Shows, ShowsEach, Nodes, no_node, node_then, sequence, nodes_of, nodes_in, nodes_below, count_nodes, carried, at_or, with_turn, turns_in, reply_missing, missing, reply_fault, has_children, has_several, rest_fault, faults_below, first_line, then_all, unless_fault, audit}
use Rattle.std.specs.Prelude.{true, false, not, ◌&&◌, ◌||◌, is_some, List, [], ◌∷◌, ◌++◌, Option, Some, None, Ok, position}
use Rattle.go_points.proofs.Lists.{Member}
use Rattle.target_game.specs.Answers.{answers, all_answer}
use Rattle.target_game.proofs.Winning.{answers_turn, answers_replies, all_reply, member_holds, holds_member, legal_member}
use Rattle.sgf_text.specs.Nodes.{is_node}
use Rattle.sgf_text.specs.Text.{is_tree}
use Rattle.tsumego_problem.specs.Walk.{is_marked, line_below}
use Rattle.tsumego_problem.specs.Below.{below_in, below_line, below_problem, Below}
use Rattle.tsumego_problem.proofs.FirstPlace.{behind, place_in_both}
use Rattle.solution_tree.specs.Laws.{AuditIsExact}
use Rattle.solution_tree.proofs.Sound.{Stands, StandsEach}
use Rattle.solution_tree.proofs.Shown.{nodes_of_children, audited_trees_stand}

-- ---- what the trees of a record show stands below, node by node

carried_is : (n : ℕ) (k : Colour) (node : Node) (t : Ply) → Carries n k node t → carried n node ≡ Some (k, t)
carried_is n k node t h = search rules

mutual
  stands : (n : ℕ) (k : Colour) (a : AnswerTree) (f : Forest) → Shows n k a f → Stands n k a (nodes_of f)
  stands n k leaf f h = ap nodes_of h
  stands n k (turn t a) f (node, nodes, inner, e, ca, sub) = (
    node,
    sequence nodes (nodes_of inner),
    ap nodes_of e,
    carried_is n k node t ca,
    subst (Stands n (opponent_of k) a) (nodes_of_children nodes inner) (stands n (opponent_of k) a (children_of nodes inner) sub),
  )
  stands n k (replies rs) f h = stands_each n k rs f h

  stands_each : (n : ℕ) (k : Colour) (rs : ReplyTrees) (f : Forest) → ShowsEach n k rs f → StandsEach n k rs (nodes_of f)
  stands_each n k none f h = ap nodes_of h
  stands_each n k (reply t a rs) f (node, nodes, inner, others, e, ca, sub, more) = (
    node,
    sequence nodes (nodes_of inner),
    nodes_of others,
    ap nodes_of e,
    carried_is n k node t ca,
    subst (Stands n (opponent_of k) a) (nodes_of_children nodes inner) (stands n (opponent_of k) a (children_of nodes inner) sub),
    stands_each n k rs others more,
  )

-- ---- a node that carries a legal turn

-- what follows a node is as it is to be
fault_free_rest : (x : Colour) (s : GameState) (children : Nodes) → (is_winner x (over s) || (has_children children && is_none (over s))) ≡ true
    → (same_colour s.mover x && has_several children) ≡ false → reply_fault (same_colour s.mover x || not (is_none (over s))) s children ≡ None → rest_fault x s children ≡ None
fault_free_rest x s children h g e = search rules

-- the first of some children, where it and the others have no fault
fault_free_child : (x : Colour) (s : GameState) (earlier : List Ply) (k : ℕ) (node : Node) (below others : Nodes) (t : Ply)
    → carried s.game.size node ≡ Some (s.mover, t) → is_none (over s) ≡ true → legal s t ≡ true → (same_colour s.mover x || not (holds_ply earlier t)) ≡ true
    → rest_fault x (next s t) below ≡ None → faults_below x (next s t) [] (k + 1) below ≡ None → faults_below x s (earlier ++ t ∷ []) (k + 1 + count_nodes below) others ≡ None
    → faults_below x s earlier k (node_then node below others) ≡ None
fault_free_child x s earlier k node below others t h g e f i j l = search rules

line_on : (s : GameState) (k : ℕ) (node : Node) (below others : Nodes) (t : Ply) (x : Colour) → carried s.game.size node ≡ Some (s.mover, t) → is_none (over s) ≡ true → legal s t ≡ true
    → first_line (k + 1) (next s t) below ≡ Ok x → first_line k s (node_then node below others) ≡ Ok x
line_on s k node below others t x h g e f = search rules

-- ---- lists of turns

turns_are : (n : ℕ) (k : Colour) (rs : ReplyTrees) (earlier : List Ply) (children : Nodes) → StandsEach n k rs children → turns_in n earlier children ≡ earlier ++ turns_of rs
turns_are n k none earlier children h = ap (turns_in n earlier) h ∙ sym (append-nil earlier)
turns_are n k (reply t a rs) earlier children (node, below, others, e, ca, sub, more) =
    ap (turns_in n earlier) e ∙ ap (λ m. turns_in n (with_turn earlier m) others) ca ∙ turns_are n k rs (earlier ++ t ∷ []) others more ∙ append_assoc earlier (t ∷ []) (turns_of rs)

nothing_missing : (given ts : List Ply) → list_all (holds_ply given) ts ≡ true → missing given ts ≡ None
nothing_missing given [] h = refl
nothing_missing given (t ∷ ts) h =
    ap (λ b. option_map reply_missing (cond (not b) (Some t) (find (λ u. not (holds_ply given u)) ts))) (and_left (holds_ply given t) (list_all (holds_ply given) ts) h)
    ∙ nothing_missing given ts (and_right (holds_ply given t) (list_all (holds_ply given) ts) h)

-- none of the turns is among the earlier ones
abbrev Apart : List Ply → List Ply → Type 0
Apart earlier ts = (u : Ply) → Member u ts → holds_ply earlier u ≡ false

apart_on : (earlier ts : List Ply) (t : Ply) → Apart earlier (t ∷ ts) → each_once (t ∷ ts) ≡ true → Apart (earlier ++ t ∷ []) ts
apart_on earlier ts t h g e f = grind (arith, nat_tests, list_any-append, same_ply_eq, member_holds, not_true, and_left)

-- ---- an answer tree has no fault

-- what the audit says of the nodes that follow a node
pub record Clean (x : Colour) (s : GameState) (children : Nodes) : Type 0 where
  pub rest : rest_fault x s children ≡ None
  pub deep : (k : ℕ) → faults_below x s [] k children ≡ None
  pub line : (k : ℕ) → first_line k s children ≡ Ok x

-- the same of some children, of which there may be earlier ones
pub record CleanEach (x : Colour) (s : GameState) (earlier : List Ply) (rs : ReplyTrees) (children : Nodes) : Type 0 where
  pub deep : (k : ℕ) → faults_below x s earlier k children ≡ None
  pub line : (t : Ply) → Member t (turns_of rs) → (k : ℕ) → first_line k s children ≡ Ok x
  pub present : (t : Ply) → Member t (turns_of rs) → has_children children ≡ true

open_is : (o : Option Colour) → o ≡ None → is_none o ≡ true
open_is o e = ap is_none e

clean_leaf : (x : Colour) (s : GameState) → is_winner x (over s) ≡ true → Clean x s no_node
clean_leaf x s h = search rules

clean_turn : (x : Colour) (s : GameState) (node : Node) (below : Nodes) (t : Ply) → carried s.game.size node ≡ Some (s.mover, t) → is_none (over s) ≡ true
    → same_colour s.mover x ≡ true → legal s t ≡ true → Clean x (next s t) below → Clean x s (node_then node below no_node)
clean_turn x s node below t h g e f i = search rules

clean_replies : (x : Colour) (s : GameState) (children : Nodes) (rs : ReplyTrees) → StandsEach s.game.size s.mover rs children → is_none (over s) ≡ true
    → same_colour s.mover x ≡ false → same_plies (turns_of rs) (legal_turns s) ≡ true → CleanEach x s [] rs children → Clean x s children
clean_replies x s children rs st on theirs same each = record {
  rest = fault_free_rest x s children
      (or_right (is_winner x (over s)) (has_children children && is_none (over s)) (and_both (has_children children) (is_none (over s)) (each.present pass given) on))
      (ap (λ b. b && has_several children) theirs)
      (ap (λ b. reply_fault (b || not (is_none (over s))) s children) theirs ∙ ap (λ b. reply_fault (not b) s children) on
      ∙ ap (λ ts. missing ts (legal_turns s)) (turns_are s.game.size s.mover rs [] children st) ∙ nothing_missing (turns_of rs) (legal_turns s) all);
  deep = each.deep;
  line = each.line pass given;
}
  where
    all : list_all (holds_ply (turns_of rs)) (legal_turns s) ≡ true
    all = and_right (list_all (holds_ply (legal_turns s)) (turns_of rs)) (list_all (holds_ply (turns_of rs)) (legal_turns s)) same

    given : Member pass (turns_of rs)
    given = holds_member (turns_of rs) pass (all_at (holds_ply (turns_of rs)) pass (legal_turns s) all (legal_member s pass refl))

listed_legal : (s : GameState) (ts : List Ply) → same_plies ts (legal_turns s) ≡ true → list_all (legal s) ts ≡ true
listed_legal s ts same = all_from (legal s) ts (λ t m. (lists_the_legal s t).0 (all_at (holds_ply (legal_turns s)) t ts (and_left (list_all (holds_ply (legal_turns s)) ts) (list_all (holds_ply ts) (legal_turns s)) same) m))

below_it : (s : GameState) (t : Ply) (a : AnswerTree) (below : Nodes) → Stands s.game.size (opponent_of s.mover) a below → Stands (next s t).game.size (next s t).mover a below
below_it s t a below h = search rules

once_of : (x : Colour) (s : GameState) (rs : ReplyTrees) → answers x s (replies rs) ≡ true → each_once (turns_of rs) ≡ true
unfolding answers all_answer
once_of x s rs h = search rules

won_leaf : (x : Colour) (s : GameState) → answers x s leaf ≡ true → is_winner x (over s) ≡ true
unfolding answers
won_leaf x s h = h

mutual
  clean : (x : Colour) (s : GameState) (a : AnswerTree) (children : Nodes) → Stands s.game.size s.mover a children → answers x s a ≡ true → Clean x s children
  clean x s leaf children st h = subst (Clean x s) (sym st) (clean_leaf x s (won_leaf x s h))
  clean x s (turn t a) children (node, below, e, ca, sub) h =
      let (on, mine, le, more) = answers_turn x s t a h in
      subst (Clean x s) (sym e) (clean_turn x s node below t ca (open_is (over s) on) mine le (clean x (next s t) a below (below_it s t a below sub) more))
  clean x s (replies rs) children st h =
      let (on, theirs, same, more) = answers_replies x s rs h in
      clean_replies x s children rs st (open_is (over s) on) theirs same
      (clean_each x s [] rs children st more (open_is (over s) on) (listed_legal s (turns_of rs) same) (once_of x s rs h) (λ u m. refl))

  clean_each : (x : Colour) (s : GameState) (earlier : List Ply) (rs : ReplyTrees) (children : Nodes) → StandsEach s.game.size s.mover rs children → all_answer x s rs ≡ true
      → is_none (over s) ≡ true → list_all (legal s) (turns_of rs) ≡ true → each_once (turns_of rs) ≡ true → Apart earlier (turns_of rs) → CleanEach x s earlier rs children
  clean_each x s earlier none children st h on le once apart = record {
    deep = λ k. ap (faults_below x s earlier k) st;
    line = λ t m k. absurd m;
    present = λ t m. absurd m;
  }
  clean_each x s earlier (reply t a rs) children (node, below, others, e, ca, sub, more) h on le once apart =
      let (first, last) = all_reply x s t a rs h in
      let legal_here = and_left (legal s t) (list_all (legal s) (turns_of rs)) le in
      let it : Clean x (next s t) below = clean x (next s t) a below (below_it s t a below sub) first in
      let each : CleanEach x s (earlier ++ t ∷ []) rs others =
      clean_each x s (earlier ++ t ∷ []) rs others more last on (and_right (legal s t) (list_all (legal s) (turns_of rs)) le) (and_right (not (holds_ply (turns_of rs) t)) (each_once (turns_of rs)) once) (apart_on earlier (turns_of rs) t apart once) in
      let new = or_right (same_colour s.mover x) (not (holds_ply earlier t)) (ap not (apart t (inl refl))) in
      record {
        deep = λ k. ap (faults_below x s earlier k) e ∙ fault_free_child x s earlier k node below others t ca on legal_here new it.rest (it.deep (k + 1)) (each.deep (k + 1 + count_nodes below));
        line = λ u m k. ap (first_line k s) e ∙ line_on s k node below others t x ca on legal_here (it.line (k + 1));
        present = λ u m. ap has_children e;
      }

answered_audit : (q : GameProblem) (tree : GameTree) (x : Colour) → Below tree x (start q) → audit q tree ≡ Ok x
answered_audit q tree x (a, children, e, shown, h) =
    let k = unwrap_or (problem_node tree) 0 in
    let nodes = nodes_below tree in
    let st : Stands q.game.size q.mover a nodes = subst (Stands q.game.size q.mover a) (sym (ap nodes_in e)) (stands q.game.size q.mover a children shown) in
    let it : Clean x (start q) nodes = clean x (start q) a nodes st h in
    ap (then_all (start q) k nodes) (it.line k)
    ∙ ap (λ o. unless_fault o x) (ap (λ o. at_or k o (faults_below x (start q) [] (k + 1) nodes)) it.rest ∙ it.deep (k + 1))

-- ---- a tree with a problem node has something below it, and what is below is well formed

later_in : (nodes : List Node) (children : Forest) (deeper : Option Forest) → is_some deeper ≡ true → is_some (below_in nodes children deeper) ≡ true
later_in [] children deeper h = h
later_in (node ∷ nodes) children deeper h = let i0 = later_in nodes children deeper h in search rules

marked_in : (nodes : List Node) (children : Forest) (deeper : Option Forest) → is_some (position is_marked nodes) ≡ true → is_some (below_in nodes children deeper) ≡ true
marked_in [] children deeper h = absurd cc
marked_in (node ∷ nodes) children deeper h = let i0 = marked_in nodes children deeper in grind (arith, nat_tests)

-- where the nodes, or what is below them, have a marked one
marked_here : (nodes line : List Node) (children : Forest) (deeper : Option Forest) → (is_some (position is_marked line) ≡ true → is_some deeper ≡ true)
    → is_some (position is_marked (nodes ++ line)) ≡ true → is_some (below_in nodes children deeper) ≡ true
marked_here nodes line children deeper h g = grind (arith, nat_tests, place_in_both, behind, marked_in, later_in)

marked_line : (f : Forest) → is_some (position is_marked (line_below f)) ≡ true → is_some (below_line f) ≡ true
marked_line no_tree h = absurd cc
marked_line (tree_then nodes children others) h = marked_here nodes (line_below children) children (below_line children) (marked_line children) h

good_in : (nodes : List Node) (children : Forest) (deeper : Option Forest) (c : Forest) → list_all is_node nodes ≡ true → is_forest children ≡ true
    → ((d : Forest) → deeper ≡ Some d → is_forest d ≡ true) → below_in nodes children deeper ≡ Some c → is_forest c ≡ true
good_in [] children deeper c all good more h = more c h
good_in (node ∷ nodes) children deeper c all good more h = let i0 = good_in nodes children deeper c (and_right (is_node node) (list_all is_node nodes) all) good more in search rules

are_all : (nodes : List Node) → are_nodes nodes ≡ true → list_all is_node nodes ≡ true
are_all nodes h = search rules

good_line : (f : Forest) (c : Forest) → is_forest f ≡ true → below_line f ≡ Some c → is_forest c ≡ true
good_line no_tree c good h = absurd cc
good_line (tree_then nodes children others) c good h =
    let two = and_left (are_nodes nodes && is_forest children) (is_forest others) good in
    let inner = and_right (are_nodes nodes) (is_forest children) two in
    good_in nodes children (below_line children) c (are_all nodes (and_left (are_nodes nodes) (is_forest children) two)) inner (λ d. good_line children d inner) h

below_is_forest : (tree : GameTree) (c : Forest) → is_tree tree ≡ true → below_problem tree ≡ Some c → is_forest c ≡ true
below_is_forest tree c h g = grind (arith, nat_tests, and_right, good_in, are_all, and_left, good_line)

pub audit_is_exact : AuditIsExact
audit_is_exact q tree x good marked = (named, answered_audit q tree x)
  where
    named : audit q tree ≡ Ok x → Below tree x (start q)
    named h = go (below_problem tree) refl (marked_here tree.nodes (line_below tree.children) tree.children (below_line tree.children) (marked_line tree.children) marked)
      where
        go : (o : Option Forest) → below_problem tree ≡ o → is_some (below_problem tree) ≡ true → Below tree x (start q)
        go None e some = absurd (cc (ap is_some e, some))
        go (Some children) e some = audited_trees_stand q tree x children (below_is_forest tree children good e) e h
