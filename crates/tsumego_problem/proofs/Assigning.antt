-- Setups: the colouring that a node assigns, and the record that it is set up in.
use Rattle.tsumego_problem.proofs.Common.{◌≡◌, ℕ, ◌+◌, ◌*◌, ◌<◌, cond, List, [], map, length, get_or, Option, Some, Result, Ok, Err, is_none, sym, ap, arith, rules, codes, unwrap_or, All, fill_by_all, position-Some, nat_tests, Colour, Black, White, Cell, Empty, Stone, same_cells_eq, points, cell_at, side_of, same_cells, first_without_liberty, Place, IsOn, number_of, holds_place, place_in, has_occurred, GameRecord, set_up as record_set_up, Did, no_position, no_element, holds_point, holds_numbered, Node, Walk, points_at, assigned, set_to, player_at, has_no_liberty, walk_of, ProblemFault}
use Rattle.std.proofs.Common.{not, set}
use Rattle.std.proofs.lemmas.List.FromFn.{length-map-range_with_len}
use Rattle.std.proofs.Math.Seq.{get_or-append_seam}
use Rattle.go_turns.specs.Record.{with_liberties, set_to as moment_set_to, stepped}
use Rattle.go_turns.specs.declared.fault.TurnFault.{TurnFault}
use Rattle.go_turns.specs.declared.fault.TurnFault.TheVariants as turns
use Rattle.tsumego_problem.specs.Walked.{IsSetupFault, IsNoLiberty}
use Rattle.tsumego_problem.specs.declared.fault.ProblemFault.TheVariants as faults

-- ---- a colouring that is filled point by point

-- what a setup leaves at a point
abbrev pub left_at : ℕ → Node → List Cell → ℕ → Cell
left_at n node c p =
    cond (holds_point (points_at n (codes "AB") node) p) (Stone Black)
    (cond (holds_point (points_at n (codes "AW") node) p) (Stone White)
    (cond (holds_point (points_at n (codes "AE") node) p) Empty (cell_at c p)))

-- the points below i are done
pub record FilledTo (n : ℕ) (f : ℕ → Cell) (new : List Cell) (i : ℕ) : Type 0 where
  pub size : side_of new ≡ n
  pub full : length new ≡ n * n
  pub done : (p : ℕ) → p < i → cell_at new p ≡ f p

pub filled_more : (n : ℕ) (f : ℕ → Cell) (old new : List Cell) (i p : ℕ) (v : Cell) → i < n * n → p ≡ i → v ≡ f i → new ≡ set old p v → side_of new ≡ n → FilledTo n f old i → FilledTo n f new (i + 1)
filled_more n f old new i p v h g e j k l = search rules

pub assigned_all : (n : ℕ) (node : Node) (c new : List Cell) → FilledTo n (left_at n node c) new (n * n) → new ≡ assigned n node c
assigned_all n node c new so_far = fill_by_all (left_at n node c) new (n * n) Empty so_far.full so_far.done

-- what a point holds, by the sets
pub left_by_sets : (n : ℕ) (node : Node) (c : List Cell) (black white empty : List Place) (p : Place) (v : Cell)
    → map (number_of n) black ≡ points_at n (codes "AB") node → All (IsOn n) black
    → map (number_of n) white ≡ points_at n (codes "AW") node → All (IsOn n) white
    → map (number_of n) empty ≡ points_at n (codes "AE") node → All (IsOn n) empty
    → IsOn n p → v ≡ cell_at c (number_of n p)
    → cond (holds_place black p) (Stone Black) (cond (holds_place white p) (Stone White) (cond (holds_place empty p) Empty v)) ≡ left_at n node c (number_of n p)
left_by_sets n node c black white empty p v h g e f i j k l = grind (arith, nat_tests, holds_numbered)

-- ---- a record that is set up

-- whether a colouring has occurred, by its place
pub occurred_by_place : (h : List (List Cell)) (d : List Cell) (o : Option ℕ) → place_in h d ≡ o → has_occurred h d ≡ not (is_none o)
occurred_by_place h d o g = grind (arith, nat_tests, no_element, no_position)

pub at_its_place : (h : List (List Cell)) (d : List Cell) (p : ℕ) → place_in h d ≡ Some p → get_or h p [] ≡ d
at_its_place h d p e = sym (same_cells_eq d (get_or h p []) (position-Some (same_cells d) h p [] e).1)

module _ (n k : ℕ) (node : Node) (r : GameRecord) (mover : Colour) (d : List Cell) (size : r.size ≡ n) where
  due : record_set_up r d ≡ stepped r (with_liberties n (first_without_liberty n d) (moment_set_to r.present d (place_in r.present.history d)))
  due = ap (λ m. stepped r (with_liberties m (first_without_liberty m d) (moment_set_to r.present d (place_in r.present.history d)))) size

  pub set_up_fine : (u : Unit {0}) (new : GameRecord) → Did (record_set_up r d) r (Ok u) new
      → (set_to k node d (walk_of r mover) (has_no_liberty n d) ≡ Ok (walk_of new (unwrap_or (player_at node) mover))) × (new.size ≡ n)
  set_up_fine u new h = grind (arith, nat_tests, due, occurred_by_place, at_its_place, get_or-append_seam)

  pub set_up_refused : (fault : TurnFault) (new : GameRecord) → Did (record_set_up r d) r (Err fault) new → IsSetupFault fault × (IsNoLiberty fault → set_to k node d (walk_of r mover) (has_no_liberty n d) ≡ Err (faults.NoLiberty k))
  set_up_refused fault new h = grind (arith, nat_tests, due)

pub length_assigned : (n : ℕ) (node : Node) (c : List Cell) → length (assigned n node c) ≡ n * n
length_assigned n node c = length-map-range_with_len (left_at n node c) 0 (n * n)

-- what the fault of a setup says
pub setup_refusal : (fault : TurnFault) (said : ProblemFault) (wanted : Result Walk ProblemFault) (k : ℕ) → IsSetupFault fault → (IsNoLiberty fault → wanted ≡ Err (faults.NoLiberty k))
    → (IsNoLiberty fault → said ≡ faults.NoLiberty k) → (fault ≡ turns.Memory → said ≡ faults.Memory) → (said ≡ faults.Memory → ⊥) → wanted ≡ Err said
setup_refusal fault said wanted k h g e f i = search rules
