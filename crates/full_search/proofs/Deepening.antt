-- Full search depth by depth.
use Rattle.full_search.proofs.Common.{◌≡◌, ℕ, ◌+◌, ◌-◌, ◌*◌, ◌/◌, ◌<◌, ◌≤◌, ◌⊎◌, inl, inr, false, None, IsTrue, ap, ◌∙◌, arith, opponent_of, Colour, GameState, start, over, wins, nodes, Node, node_count, rest, NeitherWins}
use Rattle.std.proofs.Common.{Some, nat_eq, ne_eqb, ap₂, if◌then◌else◌}
use Rattle.std.proofs.Math.Nat.{mul-le-mul, mul-le-mul_left, lt-mul-div-succ}
use Rattle.target_game.specs.State.{GameProblem}
use Rattle.target_game.specs.Laws.{IsProblem}
use Rattle.proof_cert.specs.Claim.{max_nodes}
use Rattle.full_search.specs.Decided.{NoneWithin, IsFirst}
use Rattle.full_search.proofs.Showing.{nodes_within, nodes_first, open_last}

-- neither side wins within less than k turns, and each depth had no more steps than its tree has states
pub record Undecided (s : GameState) (k steps left : ℕ) : Type 0 where
  pub before : (x : Colour) (j : ℕ) → j < k → wins x s j ≡ false
  pub fewer : left ≤ steps
  pub made : steps ≤ left + k * nodes s k

pub undecided_more : (s : GameState) (k steps left now : ℕ) → Undecided s k steps left → NeitherWins s k → now ≤ left → left ≤ now + nodes s k → Undecided s (k + 1) steps now
undecided_more s k steps left now h neither fewer made = record {
  before = λ x j low.
      let split : (j ≡ k) ⊎ (j < k) = grind arith in
      elim split [ inl e ↦ rw e (neither x) | inr less ↦ h.before x j less ];
  fewer = let a = h.fewer in omega arith;
  made =
      let a = h.made in
      let b : (k + 1) * nodes s k ≤ (k + 1) * nodes s (k + 1) = mul-le-mul_left (k + 1) (nodes_within s k (k + 1) (omega arith)) in
      let c : (k + 1) * nodes s k ≡ k * nodes s k + nodes s k = omega arith in
      omega arith;
}

-- a win within j turns is no win within less than k
later : (s : GameState) (k steps left : ℕ) → Undecided s k steps left → (x : Colour) (j : ℕ) → IsTrue (wins x s j) → k ≤ j
later s k steps left h x j w =
    let split : (j < k) ⊎ (k ≤ j) = grind arith in
    elim split [ inl less ↦ absurd (cc (h.before x j less, w)) | inr le ↦ le ]

pub undecided_out : (s : GameState) (k steps left : ℕ) → Undecided s k steps left → left < nodes s k → NoneWithin s steps
undecided_out s k steps left h out x j low w =
    let le = later s k steps left h x j w in
    let a = h.made in
    let b : (k + 1) * nodes s k ≤ (j + 1) * nodes s j = mul-le-mul (omega arith) (nodes_within s k j le) in
    let c : (k + 1) * nodes s k ≡ k * nodes s k + nodes s k = omega arith in
    omega arith

-- so many states were met within k turns that k + 1 times as many are more than the steps
pub undecided_wide : (s : GameState) (k steps left room : ℕ) → Undecided s k steps left → room ≡ steps / (k + 1) → room < nodes s k → NoneWithin s steps
undecided_wide s k steps left room h is out x j low w =
    let le = later s k steps left h x j w in
    let b : (k + 1) * nodes s k ≤ (j + 1) * nodes s j = mul-le-mul (omega arith) (nodes_within s k j le) in
    let c : steps < (k + 1) * (steps / (k + 1) + 1) = lt-mul-div-succ steps (omega arith) in
    let d : (k + 1) * (steps / (k + 1) + 1) ≤ (k + 1) * nodes s k = mul-le-mul_left (k + 1) (omega (arith, is, out)) in
    omega arith

-- either the steps or the room end the search
pub undecided_end : (s : GameState) (k steps left room : ℕ) → Undecided s k steps left → room ≡ steps / (k + 1) → rest left room < nodes s k → NoneWithin s steps
undecided_end s k steps left room h is out =
    let split : (left < nodes s k) ⊎ (room < nodes s k) = grind (arith, out) in
    elim split [ inl few ↦ undecided_out s k steps left h few | inr wide ↦ undecided_wide s k steps left room h is wide ]

-- a tree that is larger than a claim may be
pub none_within_large : (x : Colour) (s : GameState) (n : Node) (steps : ℕ) → IsFirst x s n → steps ≤ max_nodes → max_nodes < node_count n → NoneWithin s steps
none_within_large x s n steps h few large y j low w =
    let le : h.turns ≤ j = later s h.turns 0 0 (record { before = h.before; fewer = omega arith; made = omega arith }) y j w in
    let a = h.shows.count in
    let b = nodes_within s h.turns j le in
    let c : 1 * nodes s j ≤ (j + 1) * nodes s j = mul-le-mul (omega arith) (omega arith) in
    omega arith

-- with two steps or more, none is made within 0 turns, and one is within 1
pub record Begun (k steps left : ℕ) : Type 0 where
  pub first : k ≤ 1 → steps ≤ left + k
  pub later : 2 ≤ k → 2 ≤ steps → left < steps

pub begun_after : (k steps left now room : ℕ) → Begun k steps left → left ≤ steps → now ≤ left → room ≡ steps / (k + 1) → (1 ≤ k → 1 ≤ rest left room → now < left) → 1 ≤ k → 2 ≤ steps → now < steps
begun_after k steps left now room h fewer less is made some two =
    let split : (k ≡ 1) ⊎ (2 ≤ k) = grind (arith, some) in
    elim split [
      | inl one ↦
          let first = h.first (omega (arith, one)) in
          let at : room ≡ steps / (1 + 1) = is ∙ ap (λ (j : ℕ). steps / (j + 1)) one in
          let half : 1 ≤ room = omega (arith, at, two) in
          let low : 1 ≤ rest left room = omega (arith, first, one, two, half) in
          let a = made some low in
          omega (arith, a, fewer)
      | inr more ↦ let a = h.later more two in omega (arith, a, less)
    ]

pub begun_more : (s : GameState) (k steps left now room : ℕ) → Begun k steps left → left ≤ steps → now ≤ left → left ≤ now + nodes s k → room ≡ steps / (k + 1) → (1 ≤ k → 1 ≤ rest left room → now < left) → Begun (k + 1) steps now
begun_more s k steps left now room h fewer less steps_made is made = record {
  first = λ low.
      let zero_turns : k ≡ 0 = omega (arith, low) in
      let a = h.first (omega (arith, zero_turns)) in
      let b : nodes s k ≡ 1 = ap (nodes s) zero_turns ∙ nodes_first s in
      omega (arith, a, b, steps_made, zero_turns);
  later = λ high two. begun_after k steps left now room h fewer less is made (omega (arith, high)) two;
}

-- nobody has won where a problem starts
pub starts_open : (q : GameProblem) → IsProblem q → over (start q) ≡ None
starts_open q h =
    let few : nat_eq q.passes 2 ≡ false = ne_eqb q.passes 2 (λ e. omega (arith, e, h.passes)) in
    ap₂ (λ b c. if b then (if c then Some q.game.defender else None) else Some (opponent_of q.game.defender)) h.stones few

-- a win is not found within 0 turns, nor are steps or room missed there
pub won_later : (x : Colour) (s : GameState) (k : ℕ) → over s ≡ None → IsTrue (wins x s k) → 1 ≤ k
won_later x s k nobody w =
    let split : (k ≡ 0) ⊎ (1 ≤ k) = grind arith in
    elim split [ inl e ↦ absurd (cc (open_last s nobody x, ap (wins x s) e, w)) | inr some ↦ some ]

pub out_later : (s : GameState) (k steps left room : ℕ) → Begun k steps left → room ≡ steps / (k + 1) → rest left room < nodes s k → 2 ≤ steps → 1 ≤ k
out_later s k steps left room h is out two =
    let split : (k ≡ 0) ⊎ (1 ≤ k) = grind arith in
    elim split [
      | inl e ↦
          let one : nodes s k ≡ 1 = ap (nodes s) e ∙ nodes_first s in
          let first = h.first (omega (arith, e)) in
          let at : room ≡ steps / (0 + 1) = is ∙ ap (λ (j : ℕ). steps / (j + 1)) e in
          absurd (omega (arith, one, first, at, out, two, e))
      | inr some ↦ some
    ]
