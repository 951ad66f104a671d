-- What the walk keeps of its history, and what it has asked when it comes to a marked node.
use Rattle.tsumego_problem.proofs.Common.{◌≡◌, ℕ, ◌+◌, ◌*◌, Bool, true, false, ◌&&◌, List, [], ◌∷◌, ◌++◌, length, Option, Some, None, Result, Ok, refl, ap, subst, rules, arith, list_all, not-false, nat_tests, Colour, Cell, Empty, same_cell, cell_at, all_reach_empty, after_move, Ply, pass, move, has_occurred, place_in, no_position, same_cells, Node, Walk, is_marked, ◌>>=◌, unless, late_fault, node_fault, joined_by, moved_to, turned, set_to, changed_by, changed, turn_at, has_setup, has_no_liberty, assigned, walk_node, IsHistory, HasReached, walk_to_mark, ProblemFault}
use Rattle.go_points.proofs.Clearing.{moves_leave_liberties}
use Rattle.go_turns.proofs.Repeats.{once_more}
use Rattle.target_game.proofs.States.{length-after_move}
use Rattle.tsumego_problem.proofs.Assigning.{length_assigned}
use Rattle.tsumego_problem.proofs.Records.{bind_ok, ok_is, unless_ok}
use Rattle.std.specs.Prelude.{if◌then◌else◌}

-- ---- one colouring more

pub all_more : (f : List Cell → Bool) (h : List (List Cell)) (c : List Cell) → list_all f h ≡ true → f c ≡ true → list_all f (h ++ c ∷ []) ≡ true
all_more f [] c all e = ap (λ b. b && true) e
all_more f (x ∷ xs) c all e = let i0 = all_more f xs c in search rules

grown : (n : ℕ) (h : List (List Cell)) (c : List Cell) → IsHistory n h → length c ≡ n * n → all_reach_empty n c ≡ true → place_in h c ≡ None → IsHistory n (h ++ c ∷ [])
grown n h c g e f i = grind (arith, nat_tests, all_more, once_more)

joined : (n : ℕ) (h : List (List Cell)) (c : List Cell) → IsHistory n h → length c ≡ n * n → all_reach_empty n c ≡ true → IsHistory n (joined_by h c)
joined n h c kept full free = go (has_occurred h c) refl
  where
    go : (b : Bool) → has_occurred h c ≡ b → IsHistory n (if b then h else h ++ c ∷ [])
    go true e = kept
    go false e = grown n h c kept full free (no_position (same_cells c) h e)

-- ---- one node more

moved_kept : (n k : ℕ) (colour : Colour) (c : List Cell) (w v : Walk) (b : Bool) (o : Option ℕ) → length c ≡ n * n → all_reach_empty n c ≡ true → place_in w.history c ≡ o → IsHistory n w.history → moved_to k colour c w b o ≡ Ok v → IsHistory n v.history
moved_kept n k colour c w v false o full free new kept h = absurd cc
moved_kept n k colour c w v true (Some e) full free new kept h = absurd cc
moved_kept n k colour c w v true None full free new kept h = subst (λ x. IsHistory n x.history) (ok_is _ v h) (grown n w.history c kept full free new)

turned_kept : (n k : ℕ) (colour : Colour) (t : Ply) (w v : Walk) → IsHistory n w.history → turned n k colour t w ≡ Ok v → IsHistory n v.history
turned_kept n k colour pass w v kept h = subst (λ x. IsHistory n x.history) (ok_is _ v h) kept
turned_kept n k colour (move p) w v kept h =
    let c = after_move n w.present colour p in
    moved_kept n k colour c w v (same_cell (cell_at w.present p) Empty) (place_in w.history c) (length-after_move n w.present colour p) (moves_leave_liberties n w.present colour p) refl kept h

set_kept : (n k : ℕ) (node : Node) (c : List Cell) (w v : Walk) (b : Bool) → length c ≡ n * n → has_no_liberty n c ≡ b → IsHistory n w.history → set_to k node c w b ≡ Ok v → IsHistory n v.history
set_kept n k node c w v b h g e f = grind (arith, nat_tests, ok_is, joined, not-false)

changed_kept : (n k : ℕ) (node : Node) (w v : Walk) (t : Option (Colour × Ply)) (b : Bool) → IsHistory n w.history → changed_by n k node w t b ≡ Ok v → IsHistory n v.history
changed_kept n k node w v (Some t) b kept h = turned_kept n k t.0 t.1 w v kept h
changed_kept n k node w v None true kept h = let c = assigned n node w.present in set_kept n k node c w v (has_no_liberty n c) (length_assigned n node w.present) refl kept h
changed_kept n k node w v None false kept h = subst (λ x. IsHistory n x.history) (ok_is _ v h) kept

-- what a node that was walked over leaves
record Passed (limit : Option ℕ) (n k : ℕ) (node : Node) (v : Walk) : Type 0 where
  history : IsHistory n v.history
  fine : node_fault n k node ≡ None
  late : late_fault limit n k node v ≡ None

node_passed : (limit : Option ℕ) (n k : ℕ) (node : Node) (w v : Walk) → IsHistory n w.history → walk_node limit n k node w ≡ Ok v → Passed limit n k node v
node_passed limit n k node w v kept h =
    let (u, e, g) = bind_ok (unless (node_fault n k node) w >>= changed n k node) (λ u. unless (late_fault limit n k node u) u) v h in
    let (a, d, f) = bind_ok (unless (node_fault n k node) w) (changed n k node) u e in
    let first = unless_ok (node_fault n k node) w a d in
    let last = unless_ok (late_fault limit n k node u) u v g in
    let there : IsHistory n u.history = changed_kept n k node a u (turn_at n node) (has_setup node) (subst (λ x. IsHistory n x.history) first.1 kept) f in
    subst (Passed limit n k node) last.1 (record { history = there; fine = first.0; late = last.0 })

pub has_reached : (limit : Option ℕ) (n k : ℕ) (nodes : List Node) (w v : Walk) (node : Node) → IsHistory n w.history → walk_to_mark limit n k nodes w ≡ Ok (node, v) → HasReached limit n node v
has_reached limit n k [] w v node kept h = absurd (cc h)
has_reached limit n k (x ∷ xs) w v node kept h =
    let (u, e, g) = bind_ok (walk_node limit n k x w) (λ u. if is_marked x then Ok (x, u) else walk_to_mark limit n (k + 1) xs u) (node, v) h in
    let here = node_passed limit n k x w u kept e in
    go u here (is_marked x) refl g (λ q. has_reached limit n (k + 1) xs u v node here.history q)
  where
    go : (u : Walk) → Passed limit n k x u → (b : Bool) → is_marked x ≡ b → ◌≡◌ {A = Result (Node × Walk) ProblemFault} (if b then Ok (x, u) else walk_to_mark limit n (k + 1) xs u) (Ok (node, v))
        → (walk_to_mark limit n (k + 1) xs u ≡ Ok (node, v) → HasReached limit n node v) → HasReached limit n node v
    go u here true e g ih =
        let both = ok_is (x, u) (node, v) g in
        subst (λ m. HasReached limit n m.0 m.1) both (record { number = k; history = here.history; marked = e; fine = here.fine; late = here.late })
    go u here false e g ih = ih g
