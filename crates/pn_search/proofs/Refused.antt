-- What it means that the claim of a tree that full search found is refused.
use Rattle.std.proofs.Common.{◌≡◌, ℕ, ◌-◌, ◌/◌, ◌<◌, ◌≤◌, ◌⊎◌, inl, inr, Result, Ok, Err, IfErr, arith}
use Rattle.std.proofs.Math.Nat.{min-le_left, min-le_right}
use Rattle.go_points.specs.declared.Colour.{Colour}
use Rattle.target_game.specs.State.{GameProblem, start}
use Rattle.proof_cert.specs.Claim.{Node, node_count, max_nodes}
use Rattle.proof_cert.specs.Certificate.{node_of}
use Rattle.proof_cert.specs.declared.certificate.Node as code
use Rattle.pn_search.specs.Search.{full_steps, IsHard}
use Rattle.full_search.specs.Decided.{IsFirst}
use Rattle.pn_search.specs.Private.Confirmable.{IsConfirmable}
use Rattle.full_search.proofs.Deepening.{none_within_large}

-- the tree was not confirmed, though for no want of memory
pub none_within_refused : (q : GameProblem) (x : Colour) (tree : code.Node) (budget : ℕ) → IsFirst x (start q) (node_of q.game.size tree) → (IsConfirmable q x tree → ⊥) → IsHard q budget
none_within_refused q x tree budget h refused =
    let n = node_of q.game.size tree in
    let few : full_steps budget ≤ max_nodes = min-le_right (budget / 10) 10000000 in
    let split : (node_count n ≤ max_nodes) ⊎ (max_nodes < node_count n) = grind arith in
    elim split [
      | inl small ↦
          let a = h.few in
          let b = h.shows.depth in
          absurd (refused (record { fits = h.shows.fits; count = small; depth = omega arith }))
      | inr large ↦ none_within_large x (start q) n (full_steps budget) h few large
    ]

pub if_refused_map : {A E : Type 0} (r : Result A E) (P Q : E → Type 0) → ((e : E) → P e → Q e) → IfErr r P → IfErr r Q
if_refused_map (Ok a) P Q f h = tt
if_refused_map (Err e) P Q f h = f e h

-- what is above the floor that leaves full search its steps
pub steps_above_floor : (budget : ℕ) → budget - (budget - full_steps budget) ≡ full_steps budget
steps_above_floor budget =
    let a : full_steps budget ≤ budget / 10 = min-le_left (budget / 10) 10000000 in
    omega (arith, a)

-- full search has two steps or more if the budget has twenty
pub begun_above_floor : (left full budget : ℕ) → left ≡ budget → full ≡ full_steps budget → 20 ≤ budget → 2 ≤ left - (left - full)
begun_above_floor left full budget all is many =
    let tenth : 2 ≤ full_steps budget = grind (arith, many) in
    let most : full_steps budget ≤ budget / 10 = min-le_left (budget / 10) 10000000 in
    omega (arith, all, is, tenth, most)
