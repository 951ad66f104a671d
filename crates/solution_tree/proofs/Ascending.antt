-- The replies of an expansion ascend, points first and then pass: those that are due do, and what the past bars is left out.
use Rattle.solution_tree.proofs.Common.{ℕ, zero, suc, ◌+◌, ◌*◌, ◌<◌, Bool, true, false, ◌&&◌, nat_lt, List, [], ◌∷◌, ◌++◌, IsTrue, refl, sym, subst, arith, rules, cond, list_all, nat_tests, Colour, Ply, pass, move, Game, GameState, start, legal, legal_turns, next, AnswerTree, leaf, reply, won, by_lemma, play, all, Branches, no_branch, branch, Head, Lemma, heads_of, Body, lemma_body, main_body, FitsNode, FitsBranches, AreValidLemmas, answer_at, expand_node, expand_branches, answers_behind}
use Rattle.std.proofs.Common.{map, filter, lt-ltb}
use Rattle.std.specs.Prelude.{slice_index_or}
use Rattle.std.specs.List.{range_with_len}
use Rattle.proof_cert.specs.Claim.{Node, branch_turns}
use Rattle.cert_check.specs.Body.{lemma_start}
use Rattle.cert_check.proofs.Members.{and_first, and_second, and_both}
use Rattle.tsumego_problem.specs.Canonical.{comes_before, comes_first, ascends, all_ascend}
use Rattle.solution_tree.specs.Laws.{ExpansionsAscend}

-- each turn comes before all that follow it
abbrev sorted : List Ply → Bool
sorted [] = true
sorted (t ∷ ts) = list_all (comes_before t) ts && sorted ts

-- LEGAL TURNS

is_less : (a b : ℕ) → a < b → IsTrue (nat_lt a b)
is_less a b h = lt-ltb a b h

later_numbers : (p : ℕ → Bool) (t a n : ℕ) → t < a → IsTrue (list_all (comes_before (move t)) (map move (filter p (range_with_len a n)) ++ pass ∷ []))
later_numbers p t a zero h = refl
later_numbers p t a (suc n) h = let i0 = later_numbers p t (a + 1) n (omega arith) in search rules

sorted_numbers : (p : ℕ → Bool) (a n : ℕ) → IsTrue (sorted (map move (filter p (range_with_len a n)) ++ pass ∷ []))
sorted_numbers p a zero = refl
sorted_numbers p a (suc n) = at (p a) (sorted_numbers p (a + 1) n)
  where
    others : List Ply
    others = map move (filter p (range_with_len (a + 1) n)) ++ pass ∷ []

    at : (b : Bool) → IsTrue (sorted others) → IsTrue (sorted (map move (cond b (a ∷ filter p (range_with_len (a + 1) n)) (filter p (range_with_len (a + 1) n))) ++ pass ∷ []))
    at true g = and_both (list_all (comes_before (move a)) others) (sorted others) (later_numbers p a (a + 1) n (omega arith)) g
    at false g = g

sorted_turns : (s : GameState) → IsTrue (sorted (legal_turns s))
unfolding legal_turns
sorted_turns s = sorted_numbers (λ p. legal s (move p)) 0 (s.game.size * s.game.size)

-- EXPANSIONS

-- the answers of the lemmas ascend at every state
abbrev AllAscend : List (GameState → AnswerTree) → Type 0
AllAscend [] = Unit {0}
AllAscend (f ∷ fs) = ((r : GameState) → IsTrue (ascends (f r))) × AllAscend fs

AllAscend-push : (fs : List (GameState → AnswerTree)) (f : GameState → AnswerTree) → AllAscend fs → ((r : GameState) → IsTrue (ascends (f r))) → AllAscend (fs ++ f ∷ [])
AllAscend-push [] f h g = (g, tt)
AllAscend-push (k ∷ fs) f h g = (h.0, AllAscend-push fs f h.1 g)

ascends_at : (fs : List (GameState → AnswerTree)) (i : ℕ) (r : GameState) → AllAscend fs → IsTrue (ascends ((slice_index_or fs i (λ _. leaf)) r))
ascends_at [] i r h = refl
ascends_at (f ∷ fs) zero r h = h.0 r
ascends_at (f ∷ fs) (suc i) r h = ascends_at fs i r h.1

answer_ascends : (fs : List (GameState → AnswerTree)) (j : ℕ) (r : GameState) → AllAscend fs → IsTrue (ascends (answer_at fs j r))
answer_ascends fs j r h = grind (arith, nat_tests, ascends_at)

module _ (earlier : List (GameState → AnswerTree)) (kept : AllAscend earlier) where
  first_kept : (t : Ply) (bs : Branches) (r : GameState) → IsTrue (list_all (comes_before t) (branch_turns bs)) → IsTrue (comes_first t (expand_branches earlier bs r))
  first_kept t no_branch r h = refl
  first_kept t (branch u n bs) r h = let i0 = first_kept t bs r (and_second (comes_before t u) (list_all (comes_before t) (branch_turns bs)) h) in search rules

  mutual
    node_ascends : (n : Node) (b : Body) (s r : GameState) → FitsNode b s n → IsTrue (ascends (expand_node earlier n r))
    node_ascends won b s r f = refl
    node_ascends (by_lemma j) b s r f = answer_ascends earlier j r kept
    node_ascends (play t n) b s r f = node_ascends n b (next s t) (next r t) f.1
    node_ascends (all bs) b s r f = branches_ascend bs b s r (subst (λ ts. IsTrue (sorted ts)) (sym f.1) (sorted_turns s)) f.2

    branches_ascend : (bs : Branches) (b : Body) (s r : GameState) → IsTrue (sorted (branch_turns bs)) → FitsBranches b s bs → IsTrue (all_ascend (expand_branches earlier bs r))
    branches_ascend no_branch b s r h f = refl
    branches_ascend (branch t n bs) b s r h f =
        at (legal r t) (first_kept t bs r (and_first (list_all (comes_before t) (branch_turns bs)) (sorted (branch_turns bs)) h)) (node_ascends n b (next s t) (next r t) f.0)
        (branches_ascend bs b s r (and_second (list_all (comes_before t) (branch_turns bs)) (sorted (branch_turns bs)) h) f.1)
      where
        at : (k : Bool) → IsTrue (comes_first t (expand_branches earlier bs r)) → IsTrue (ascends (expand_node earlier n (next r t))) → IsTrue (all_ascend (expand_branches earlier bs r))
            → IsTrue (all_ascend (elim k [ true ↦ reply t (expand_node earlier n (next r t)) (expand_branches earlier bs r) | false ↦ expand_branches earlier bs r ]))
        at true first below later =
            and_both (comes_first t (expand_branches earlier bs r) && ascends (expand_node earlier n (next r t))) (all_ascend (expand_branches earlier bs r))
            (and_both (comes_first t (expand_branches earlier bs r)) (ascends (expand_node earlier n (next r t))) first below) later
        at false first below later = later

lemmas_ascend : (g : Game) (x : Colour) (heads : List Head) (ls : List Lemma) (fs : List (GameState → AnswerTree)) → AllAscend fs → AreValidLemmas g x heads ls → AllAscend (answers_behind fs ls)
lemmas_ascend g x heads [] fs h v = h
lemmas_ascend g x heads (l ∷ ls) fs h v =
    lemmas_ascend g x (heads ++ l.head ∷ []) ls (fs ++ expand_node fs l.body ∷ [])
    (AllAscend-push fs (expand_node fs l.body) h (λ r. node_ascends fs h l.body (lemma_body x heads l.head) (lemma_start g l.head) r v.0.body)) v.1

pub expansions_ascend : ExpansionsAscend
expansions_ascend q z v =
    node_ascends (answers_behind [] z.lemmas) (lemmas_ascend q.game z.winner [] z.lemmas [] tt v.lemmas) z.main (main_body z.winner (heads_of z.lemmas)) (start q) (start q) v.main
