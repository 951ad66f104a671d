-- The record with which a walk begins.
use Rattle.tsumego_problem.proofs.Common.{◌≡◌, ℕ, zero, suc, ◌+◌, ◌*◌, ◌<◌, ◌≤◌, Bool, true, false, cond, ◌&&◌, ◌||◌, List, [], ◌∷◌, map, length, Option, None, Ok, Err, is_none, refl, sym, ◌∙◌, ap, ap₂, arith, rules, codes, range_with_len, fill_by_all, or_parts, nat_tests, Black, White, Cell, Empty, Stone, points, cell_at, first_without_liberty, Place, GameRecord, opened, Opens, holds_point, Node, has, has_turn, has_setup, points_at, assigned, opening, turn_at, node_fault, first_fault, when, changed, changed_by, set_to, unless, late_fault, walk_node, ◌>>=◌, walk_of, IsHistory, ProblemFault}
use Rattle.std.proofs.Common.{not, replicate}
use Rattle.std.proofs.lemmas.List.{get_or-replicate, length-replicate}
use Rattle.std.proofs.lemmas.List.FromFn.{get_or-map-range_with_len}
use Rattle.go_turns.specs.declared.fault.TurnFault.TheVariants as turns
use Rattle.tsumego_problem.specs.declared.fault.ProblemFault.TheVariants as faults
use Rattle.tsumego_problem.proofs.Assigning.{left_at}
use Rattle.tsumego_problem.proofs.Sharing.{lacks}

-- the board without stones, as a map
pub no_stones : (n : ℕ) → replicate (n * n) Empty ≡ map (λ p. Empty) (points n)
no_stones n = fill_by_all (λ p. Empty) (replicate (n * n) Empty) (n * n) Empty (length-replicate (n * n) Empty) (λ k low. get_or-replicate (n * n) k Empty Empty low)

-- the record that was opened
pub opened_walk : (n : ℕ) (c : List Cell) (r : GameRecord) → Opens n (opened n (c ∷ []) 0 0) (Ok r) → (walk_of r Black ≡ record { history = c ∷ []; present = c; mover = Black; passes = 0 }) × (r.size ≡ n)
opened_walk n c r h = search rules

pub opened_history : (n : ℕ) (c : List Cell) (r : GameRecord) → length c ≡ n * n → Opens n (opened n (c ∷ []) 0 0) (Ok r) → IsHistory n r.present.history
opened_history n c r h g = search rules

pub opened_refused : (n : ℕ) (c : List Cell) (p : Place) → Opens n (opened n (c ∷ []) 0 0) (Err (turns.NoLiberty p)) → is_none (first_without_liberty n c) ≡ false
opened_refused n c p h = search rules

-- a node without setup assigns nothing
pub idle : (n : ℕ) (node : Node) → has_setup node ≡ false → assigned n node (map (λ p. Empty) (points n)) ≡ map (λ p. Empty) (points n)
idle n node h =
    let last = or_parts (has (codes "AB") node || has (codes "AW") node) (has (codes "AE") node) h in
    let front = or_parts (has (codes "AB") node) (has (codes "AW") node) last.0 in
    sym (fill_by_all (left_at n node base) base (n * n) Empty len (λ k low. rw (lacks n (codes "AB") node front.0, lacks n (codes "AW") node front.1, lacks n (codes "AE") node last.1) refl))
  where
    base : List Cell
    base = map (λ p. Empty) (points n)

    len : length base ≡ n * n
    len = ap length (sym (no_stones n)) ∙ length-replicate (n * n) Empty

-- assigning once more changes nothing
pub again : (n : ℕ) (node : Node) (c : List Cell) → assigned n node (assigned n node c) ≡ assigned n node c
again n node c = same 0 (n * n) (omega arith)
  where
    twice : (p : ℕ) → p < n * n → left_at n node (assigned n node c) p ≡ left_at n node c p
    twice p low =
        ap (λ x. cond (holds_point (points_at n (codes "AB") node) p) (Stone Black) (cond (holds_point (points_at n (codes "AW") node) p) (Stone White) (cond (holds_point (points_at n (codes "AE") node) p) Empty x)))
        (get_or-map-range_with_len (left_at n node c) 0 (n * n) p p Empty low (omega arith))
        ∙ settle (holds_point (points_at n (codes "AB") node) p) (holds_point (points_at n (codes "AW") node) p) (holds_point (points_at n (codes "AE") node) p) (cell_at c p)
      where
        settle : (a b d : Bool) (x : Cell) → cond a (Stone Black) (cond b (Stone White) (cond d Empty (cond a (Stone Black) (cond b (Stone White) (cond d Empty x))))) ≡ cond a (Stone Black) (cond b (Stone White) (cond d Empty x))
        settle true b d x = refl
        settle false true d x = refl
        settle false false true x = refl
        settle false false false x = refl

    same : (i k : ℕ) → i + k ≤ n * n → map (left_at n node (assigned n node c)) (range_with_len i k) ≡ map (left_at n node c) (range_with_len i k)
    same i zero low = refl
    same i (suc k) low = ap₂ (λ x xs. x ∷ xs) (twice i (omega arith)) (same (i + 1) k (omega arith))

-- ---- the first node is refused

-- the seventh of eight tests
seventh : (a b d e f g t u : Bool) (x1 x2 x3 x4 x5 x6 x7 x8 : ProblemFault)
    → first_fault (when a x1 ∷ when b x2 ∷ when d x3 ∷ when e x4 ∷ when f x5 ∷ when g x6 ∷ when t x7 ∷ when u x8 ∷ []) ≡ None → t ≡ false
seventh a b d e f g t u x1 x2 x3 x4 x5 x6 x7 x8 h = search rules

no_mix : (n k : ℕ) (node : Node) → node_fault n k node ≡ None → (has_turn node && has_setup node) ≡ false
no_mix n k node h = grind (arith, nat_tests, seventh)

no_turn_at : (n : ℕ) (node : Node) → has_turn node ≡ false → turn_at n node ≡ None
no_turn_at n node h = search rules

pub first_refused : (limit : Option ℕ) (n : ℕ) (root : Node) (c : List Cell) → c ≡ assigned n root (map (λ p. Empty) (points n))
    → first_without_liberty n (map (λ p. Empty) (points n)) ≡ None → is_none (first_without_liberty n c) ≡ false → node_fault n 0 root ≡ None
    → walk_node limit n 0 root (opening n root) ≡ Err (faults.NoLiberty 0)
first_refused limit n root c is free stuck fine = go (has_setup root) refl (has_turn root) refl
  where
    base : List Cell
    base = map (λ p. Empty) (points n)

    go : (s : Bool) → has_setup root ≡ s → (t : Bool) → has_turn root ≡ t → walk_node limit n 0 root (opening n root) ≡ Err (faults.NoLiberty 0)
    go false e t f = absurd (cc (ap is_none (sym free), ap (λ x. is_none (first_without_liberty n x)) (sym (is ∙ idle n root e)), stuck))
    go true e true f = let both : true ≡ false = sym (ap₂ (λ a b. a && b) f e) ∙ no_mix n 0 root fine in absurd (cc both)
    go true e false f =
        ap (λ o. unless o (opening n root) >>= changed n 0 root >>= (λ v. unless (late_fault limit n 0 root v) v)) fine
        ∙ ap (λ r. r >>= (λ v. unless (late_fault limit n 0 root v) v))
        (ap₂ (changed_by n 0 root (opening n root)) (no_turn_at n root f) e
        ∙ ap (λ b. set_to 0 root (assigned n root (assigned n root base)) (opening n root) (not b)) (ap (λ x. is_none (first_without_liberty n x)) (again n root base ∙ sym is) ∙ stuck))
