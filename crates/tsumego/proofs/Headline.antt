-- What is answered is so.
use Rattle.tsumego.proofs.Common.{None, ◌≡◌, ℕ, Bool, true, false, nat_eq, List, [], ◌∷◌, ◌++◌, length, drop, append_assoc, inl, inr, refl, sym, ◌∙◌, ap, subst, Colour, GameProblem, start, decision, Within, GameTree, Verdict, accepted, rejected, tree_text, canonical, solution, Fault, audit, Answered, line, check_answer, within_answer, audit_answer}
use Rattle.std.proofs.Common.{cond, nat_lt}
use Rattle.std.specs.Prelude.{slice_index_or, Result, Ok, Err}
use Rattle.go_points.specs.declared.Colour.TheVariants.{Black, White}
use Rattle.target_game.specs.Wins.{Wins, wins, nodes}
use Rattle.target_game.specs.declared.within.Within.TheVariants as within
use Rattle.tsumego_problem.specs.Walk.{history_limit}
use Rattle.cert_check.proofs.Reading.{accepted_sides_win}
use Rattle.sgf_text.specs.Grammar.{Reads}
use Rattle.sgf_text.proofs.Written.{trees_are_read}
use Rattle.target_game.proofs.States.{history_is_a_set}
use Rattle.tsumego_problem.specs.Below.{Below}
use Rattle.solution_tree.proofs.Sound.{below_wins}
use Rattle.solution_tree.proofs.Exact.{audit_is_exact}
use Rattle.tsumego_replies.specs.Texts.{wins_text, neither_text}
use Rattle.tsumego_replies.specs.Answers.{Answer, IsRecord}
use Rattle.tsumego.specs.Laws.{SideWins, WinnerIsTrue, CheckIsTrue, WithinIsTrue, AuditIsTrue, SolveIsTrue, ProofIsTrue}
use Rattle.tsumego_problem.proofs.Records.{placed, has_problem_node, stands_for}
use Rattle.tsumego.proofs.Answering.{has_node}

side_wins : (bytes : List ℕ) (tree : GameTree) (n : ℕ) (q : GameProblem) (x : Colour) → IsRecord bytes tree n q → Wins x (start q) → SideWins bytes q x
side_wins bytes tree n q x r w = record { tree = tree; end = n; reads = r.reads; problem = (placed history_limit tree q r.problem).free; wins = w }

pub winner_is_true : WinnerIsTrue
winner_is_true bytes q x s =
    let (u, stands, set) = stands_for None s.tree q s.problem in
    let (k, won) = s.wins in
    let same : wins x (start q) k ≡ wins x u k = history_is_a_set x (start q) set.history k set.same ∙ ap (λ v. wins x v k) set.state in
    record { tree = s.tree; end = s.end; state = u; reads = s.reads; stands = stands; wins = (k, sym same ∙ won) }

-- an answer names a side only where the verdict does
accepts : (n : ℕ) (v : Verdict) (text : List ℕ) → (Answered, text) ≡ check_answer n v → (x : Colour) × (v ≡ accepted x) × (text ≡ wins_text x)
accepts n (accepted x) text h = (x, refl, ap (λ (a : Answer). a.1) h)
accepts n (rejected place why) text h = absurd (cc (ap (λ (a : Answer). a.0) h))

pub check_is_true : CheckIsTrue
check_is_true bytes written (inr (failed, _)) = absurd cc
check_is_true bytes written (inl (inl (refusal, r, e, t))) = absurd cc
check_is_true bytes written (inl (inr (q, tree, n, r, (few, (v, (ls, are, is), said))))) =
    let (x, e, t) = accepts q.game.size v written said in
    (q, x, t, side_wins bytes tree n q x r (accepted_sides_win q ls x (placed history_limit tree q r.problem).place (is ∙ e)))

apart : true ≡ false → ⊥
apart h = absurd (cc h)

-- the text names one side
named : (x y : Colour) → wins_text x ≡ wins_text y → x ≡ y
named Black Black h = refl
named White White h = refl
named Black White h = absurd (apart (ap (λ t. nat_eq (slice_index_or t 5 0) 66) h))
named White Black h = absurd (apart (ap (λ t. nat_eq (slice_index_or t 5 0) 87) h))

decides : (q : GameProblem) (turns nodes_most : ℕ) (x : Colour) → decision (start q) turns nodes_most ≡ within.Wins x → wins x (start q) turns ≡ true
decides q turns most x h = go (nat_lt most (nodes (start q) turns)) (wins Black (start q) turns) refl (wins White (start q) turns) refl h
  where
    go : (l b : Bool) → wins Black (start q) turns ≡ b → (w : Bool) → wins White (start q) turns ≡ w
        → cond l within.Limit (cond b (within.Wins Black) (cond w (within.Wins White) within.Neither)) ≡ within.Wins x → wins x (start q) turns ≡ true
    go true b e w f h = absurd (cc h)
    go false true e w f h = let same : Black ≡ x = cc h in subst (λ k. wins k (start q) turns ≡ true) same e
    go false false e true f h = let same : White ≡ x = cc h in subst (λ k. wins k (start q) turns ≡ true) same f
    go false false e false f h = absurd (cc h)

pub within_is_true : WithinIsTrue
within_is_true turns most bytes x (inr (failed, _)) = absurd cc
within_is_true turns most bytes x (inl (inl (refusal, r, e, t))) = absurd cc
within_is_true turns most bytes x (inl (inr (q, tree, n, r, h))) =
    let forced = by (decision (start q) turns most) refl h in
    (q, side_wins bytes tree n q x r (turns, forced), forced)
  where
    by : (d : Within) → decision (start q) turns most ≡ d → (Answered, wins_text x) ≡ within_answer d → wins x (start q) turns ≡ true
    by (within.Wins y) e h = decides q turns most x (e ∙ ap (λ k. within.Wins k) (sym (named x y (ap (λ (a : Answer). a.1) h))))
    by within.Neither e h = absurd (other x (ap (λ (a : Answer). a.1) h))
      where
        other : (x : Colour) → wins_text x ≡ neither_text → ⊥
        other Black h = absurd (apart (ap (λ t. nat_eq (slice_index_or t 0 0) 119) h))
        other White h = absurd (apart (ap (λ t. nat_eq (slice_index_or t 0 0) 119) h))
    by within.Limit e h = absurd (cc (ap (λ (a : Answer). a.0) h))

-- an answer names a side only where the audit does
audited : (n : ℕ) (r : Result Colour Fault) (text : List ℕ) → (Answered, text) ≡ audit_answer n r → (x : Colour) × (r ≡ Ok x) × (text ≡ wins_text x)
audited n (Ok x) text h = (x, refl, ap (λ (a : Answer). a.1) h)
audited n (Err fault) text h = absurd (cc (ap (λ (a : Answer). a.0) h))

pub audit_is_true : AuditIsTrue
audit_is_true bytes written (inr (failed, _)) = absurd cc
audit_is_true bytes written (inl (inl (refusal, r, e, t))) = absurd cc
audit_is_true bytes written (inl (inr (q, tree, n, r, h))) =
    let (x, e, t) = audited q.game.size (audit q tree) written h in
    let below : Below tree x (start q) = (audit_is_exact q tree x (trees_are_read bytes tree n r.reads) (has_problem_node history_limit tree q r.problem)).0 e in (
      q,
      x,
      t,
      side_wins bytes tree n q x r (below_wins tree x (start q) below),
      record { tree = tree; end = n; reads = r.reads; problem = (placed history_limit tree q r.problem).free; below = below },
    )

-- what the search has written, as the outcome has it
pub solve_is_true : SolveIsTrue
solve_is_true steps table lift bytes written (inr (failed, _)) = absurd cc
solve_is_true steps table lift bytes written (inl (inl (refusal, r, e, t))) = absurd cc
solve_is_true steps table lift bytes written (inl (inr (q, tree, n, r, inr (e, unsolved)))) = absurd cc
solve_is_true steps table lift bytes written (inl (inr (q, tree, n, r, inl (e, (x, a, (ascend, is, audited, text)))))) =
    let s = solution q x a in
    let read = is.reads (10 ∷ []) in
    let below : Below s x (start q) = (audit_is_exact q s x (trees_are_read (line (tree_text s)) s (length (tree_text s)) read) (has_node s q is.problem)).0 audited in (
      q,
      x,
      (a, text),
      side_wins bytes tree n q x r (below_wins s x (start q) below),
      record { tree = s; end = length (tree_text s); reads = subst (λ w. Reads w s (length (tree_text s))) (sym text) read; problem = is.problem; below = below },
    )

-- what is after the first of two texts
behind_front : (front rest : List ℕ) → drop (length front) (front ++ rest) ≡ rest
behind_front [] rest = refl
behind_front (b ∷ front) rest = behind_front front rest

pub proof_is_true : ProofIsTrue
proof_is_true steps table lift bytes written (inr (failed, _)) = absurd cc
proof_is_true steps table lift bytes written (inl (inl (refusal, r, e, t))) = absurd cc
proof_is_true steps table lift bytes written (inl (inr (q, tree, n, r, inr (e, unsolved)))) = absurd cc
proof_is_true steps table lift bytes written (inl (inr (q, tree, n, r, inl (e, (z, by_claim))))) =
    let front = tree_text (canonical q) in
    let claim = by_claim.spelling in
    let x = by_claim.claim.winner in
    let (ls, are, is) = by_claim.judged.1 in
    let whole : written ≡ front ++ 10 ∷ claim = by_claim.whole ∙ append_assoc front (10 ∷ []) claim in (
      q,
      x,
      side_wins bytes tree n q x r (accepted_sides_win q ls x (placed history_limit tree q r.problem).place is),
      record {
        tree = canonical q;
        end = length front;
        claim = claim;
        reads = subst (λ w. Reads w (canonical q) (length front)) (sym whole) (by_claim.kept.reads (10 ∷ claim));
        problem = by_claim.kept.problem;
        behind = ap (drop (length front)) whole ∙ behind_front front (10 ∷ claim);
        judged = by_claim.judged.1;
      },
    )
