use Rattle.full_search.proofs.Common.{◌≡◌, ◌≤◌, ◌<◌, ◌+◌, ◌-◌, ℕ, false, None, OnOk, refl, ◌∷◌, sym, ap, ◌∙◌, subst, arith, ply_of, Line, legal_turns, next, over, nodes, turns_due, node_of_won, Node, Tried, Shows, rest, IsFound, IsTurnSeen, nodes_behind}
use Rattle.std.proofs.Common.{IfOk}
use Rattle.go_points.specs.Ply.{Ply}
use Rattle.target_game.proofs.Due.{turns_begun as due_begun}
use Rattle.target_game.proofs.Tallies.{if_ok_map, nodes_some}
use Rattle.full_search.proofs.Showing.{nodes_then, open_last, shows_won, pass_won, on_ok_any, on_ok_map, turns_begun, turns_more, turns_steps, turns_found}
use Rattle.full_search.proofs.search.+full.Goals as goal
use Rattle.full_search.proofs.search.+full.Goals.{search_turns-In_ok-found, search_state-After-pass_wins}

pub search_state-returns-in-Some-clause-found : goal.search_state-returns-in-Some-clause-found
search_state-returns-in-Some-clause-found t c =
    let s = c.args.state.now.state in
    subst (λ (n : Node). Shows c.in-Some.winner s c.args.turns n) (sym (node_of_won s.game.size))
    (shows_won c.in-Some.winner s c.args.turns (sym c.over.ensures ∙ c.in-Some.is))

pub search_state-returns-then-turns-eq0-clause-found : goal.search_state-returns-then-turns-eq0-clause-found
search_state-returns-then-turns-eq0-clause-found t c =
    let s = c.args.state.now.state in
    let nobody : over s ≡ None = sym c.over.ensures ∙ c.in_default.is in
    rw c.if-turns-eq0.true (open_last s nobody)

pub search_state-returns-then-left-eq0-clause-found : goal.search_state-returns-then-left-eq0-clause-found
search_state-returns-then-left-eq0-clause-found t c =
    let s = c.args.state.now.state in
    let some = nodes_some s c.args.turns in
    let none = c.if-left-eq0.true in
    omega arith

pub search_state-returns-then-room-eq0-clause-found : goal.search_state-returns-then-room-eq0-clause-found
search_state-returns-then-room-eq0-clause-found t c =
    let s = c.args.state.now.state in
    let some = nodes_some s c.args.turns in
    let none = c.if-room-eq0.true in
    omega arith

pub search_state-returns-then-branch-clause-met : goal.search_state-returns-then-branch-clause-met
search_state-returns-then-branch-clause-met t c =
    let s = c.args.state.now.state in
    let some = nodes_some s c.args.turns in
    on_ok_any c.won_by.result (rest c.args.left.now c.args.room.now ≤ rest (c.args.left.now - 1) (c.args.room.now - 1) + nodes s c.args.turns) (omega (arith, c.if-left-eq0.false, c.if-room-eq0.false))

pub search_state-returns-then-branch-clause-steps : goal.search_state-returns-then-branch-clause-steps
search_state-returns-then-branch-clause-steps t c =
    let s = c.args.state.now.state in
    let some = nodes_some s c.args.turns in
    on_ok_any c.won_by.result (c.args.left.now ≤ c.args.left.now - 1 + nodes s c.args.turns) (omega (arith, c.if-left-eq0.false))

pub search_state-returns-then-branch-clause-found : goal.search_state-returns-then-branch-clause-found
search_state-returns-then-branch-clause-found t c =
    let s = c.args.state.now.state in
    let nobody : over s ≡ None = sym c.over.ensures ∙ c.in_default.is in
    let k : c.args.turns - 1 + 1 ≡ c.args.turns = omega (arith, c.if-turns-eq0.false) in
    let passing = sym c.in_ok-pass_wins.ensures.wins ∙ c.if-branch.true in
    let mover : s.mover ≡ c.mover.result = ap (λ (v : Line). v.state.mover) (sym c.in_ok-pass_wins.ensures.state) ∙ sym c.mover.ensures in
    if_ok_map c.won_by.result _ _
    (λ f h. subst (λ (j : ℕ). IsFound s j (rest c.args.left.now c.args.room.now) f) k (pass_won s (c.args.turns - 1) (rest c.args.left.now c.args.room.now) c.mover.result f nobody passing mover h))
    c.won_by.ensures

-- the states behind one that is not settled
all_nodes : (t : ℕ) (c : search_state-After-pass_wins t) → nodes c.args.state.now.state c.args.turns ≡ 1 + nodes_behind c.args.state.now.state (c.args.turns - 1) (legal_turns c.args.state.now.state)
all_nodes t c =
    let s = c.args.state.now.state in
    let k : c.args.turns - 1 + 1 ≡ c.args.turns = omega (arith, c.if-turns-eq0.false) in
    sym (ap (nodes s) k) ∙ nodes_then s (c.args.turns - 1) (sym c.over.ensures ∙ c.in_default.is)

pub search_state-returns-clause-steps : goal.search_state-returns-clause-steps
search_state-returns-clause-steps t c =
    let all = all_nodes t (goal.at.search_state-returns-clause-steps t c).After-pass_wins in
    on_ok_map c.search_turns.result _ _ (λ h. omega (arith, h, all, c.if-left-eq0.false))
    (subst (λ (v : Line). OnOk c.search_turns.result (c.args.left.now - 1 ≤ c.search_turns.new.left + nodes_behind v.state (c.args.turns - 1) (legal_turns v.state))) c.in_ok-pass_wins.ensures.state c.search_turns.ensures.steps)

pub search_state-returns-clause-met : goal.search_state-returns-clause-met
search_state-returns-clause-met t c =
    let all = all_nodes t (goal.at.search_state-returns-clause-met t c).After-pass_wins in
    let one : rest c.args.left.now c.args.room.now ≡ rest (c.args.left.now - 1) (c.args.room.now - 1) + 1 = omega (arith, c.if-left-eq0.false, c.if-room-eq0.false) in
    on_ok_map c.search_turns.result _ _ (λ h. omega (arith, h, all, one))
    (subst (λ (v : Line). OnOk c.search_turns.result (rest (c.args.left.now - 1) (c.args.room.now - 1) ≤ rest c.search_turns.new.left c.search_turns.new.room + nodes_behind v.state (c.args.turns - 1) (legal_turns v.state))) c.in_ok-pass_wins.ensures.state c.search_turns.ensures.met)

pub search_state-returns-in-Some-clause-begun : goal.search_state-returns-in-Some-clause-begun
search_state-returns-in-Some-clause-begun t c = λ nobody. absurd (cc (c.over.ensures, c.in-Some.is, nobody))

pub search_state-returns-then-branch-clause-begun : goal.search_state-returns-then-branch-clause-begun
search_state-returns-then-branch-clause-begun t c =
    let s = c.args.state.now.state in
    on_ok_any c.won_by.result (over s ≡ None → 1 ≤ c.args.turns → 1 ≤ rest c.args.left.now c.args.room.now → c.args.left.now - 1 < c.args.left.now)
    (λ nobody some low. omega (arith, c.if-left-eq0.false))

pub search_state-returns-clause-begun : goal.search_state-returns-clause-begun
search_state-returns-clause-begun t c =
    let s = c.args.state.now.state in
    on_ok_any c.search_turns.result (over s ≡ None → 1 ≤ c.args.turns → 1 ≤ rest c.args.left.now c.args.room.now → c.search_turns.new.left < c.args.left.now)
    (λ nobody some low. omega (arith, c.if-left-eq0.false, c.search_turns.ensures.fewer))

pub search_state-returns-clause-found : goal.search_state-returns-clause-found
search_state-returns-clause-found t c =
    let s = c.args.state.now.state in
    let nobody : over s ≡ None = sym c.over.ensures ∙ c.in_default.is in
    let k : c.args.turns - 1 + 1 ≡ c.args.turns = omega (arith, c.if-turns-eq0.false) in
    let left : rest (c.args.left.now - 1) (c.args.room.now - 1) + 1 ≡ rest c.args.left.now c.args.room.now = omega (arith, c.if-left-eq0.false, c.if-room-eq0.false) in
    if_ok_map c.search_turns.result _ _
    (λ f h. subst (λ (j : ℕ). IsFound s j (rest c.args.left.now c.args.room.now) f) k (subst (λ (j : ℕ). IsFound s (c.args.turns - 1 + 1) j f) left h))
    (subst (λ (v : Line). IfOk c.search_turns.result (λ f. IsFound v.state (c.args.turns - 1 + 1) (rest (c.args.left.now - 1) (c.args.room.now - 1) + 1) f)) c.in_ok-pass_wins.ensures.state c.search_turns.ensures.found)

pub search_turns-loop-next-init : goal.search_turns-loop-next-init
search_turns-loop-next-init t c =
    let s = c.args.state.now.state in
    let due = ap (turns_due s) c.all-turns_left.ensures ∙ due_begun s in
    let seen : Tried = record { is_open = false; replies = c.new.result } in
    (refl, (turns_begun s c.args.turns c.args.left.now (turns_due s c.all-turns_left.result.next) seen due refl c.new.ensures.items, (omega arith, turns_begun s c.args.turns (rest c.args.left.now c.args.room.now) (turns_due s c.all-turns_left.result.next) seen due refl c.new.ensures.items)))

-- what a turn more shows, of the state that the loop began with
module _ (t : ℕ) (c : search_turns-In_ok-found t) where
  abbrev ply : Ply
  ply = ply_of c.args.state.now.state.game.size c.in-Some.next.0

  due : turns_due c.args.state.now.state c.loop-next.turns_left.next ≡ ply ∷ turns_due c.args.state.now.state c.next_child.new.left.next
  due = subst (λ (v : Line). turns_due v.state c.loop-next.turns_left.next ≡ ply_of v.state.game.size c.in-Some.next.0 ∷ turns_due v.state c.next_child.new.left.next) c.loop-next.invariant.0 c.in-Some.ensures.takes.0

  steps : c.loop-next.left ≤ c.search_turn.new.left + nodes (next c.args.state.now.state ply) c.args.turns
  steps = subst (λ (v : Line). c.loop-next.left ≤ c.search_turn.new.left + nodes (next v.state (ply_of v.state.game.size c.in-Some.next.0)) c.args.turns) c.loop-next.invariant.0 c.in_ok-found.ensures.steps

  met : rest c.loop-next.left c.loop-next.room ≤ rest c.search_turn.new.left c.search_turn.new.room + nodes (next c.args.state.now.state ply) c.args.turns
  met = subst (λ (v : Line). rest c.loop-next.left c.loop-next.room ≤ rest c.search_turn.new.left c.search_turn.new.room + nodes (next v.state (ply_of v.state.game.size c.in-Some.next.0)) c.args.turns) c.loop-next.invariant.0 c.in_ok-found.ensures.met

  seen : IsTurnSeen c.args.state.now.state c.args.turns ply (rest c.loop-next.left c.loop-next.room) c.loop-next.seen c.search_turn.new.seen c.in_ok-found.field-0
  seen = subst (λ (v : Line). IsTurnSeen v.state c.args.turns (ply_of v.state.game.size c.in-Some.next.0) (rest c.loop-next.left c.loop-next.room) c.loop-next.seen c.search_turn.new.seen c.in_ok-found.field-0) c.loop-next.invariant.0 c.in_ok-found.ensures.seen

pub search_turns-loop-next-preserved : goal.search_turns-loop-next-preserved
search_turns-loop-next-preserved t c =
    let s = c.args.state.now.state in
    let k = c.args.turns in
    let at = (goal.at.search_turns-loop-next-preserved t c).In_ok-found in
    let also = subst (λ r. IsTurnSeen s k (ply t at) (rest c.loop-next.left c.loop-next.room) c.loop-next.seen c.search_turn.new.seen r) c.in_default-2.is (seen t at) in (
      c.in_ok-found.ensures.state ∙ c.loop-next.invariant.0,
      (
        turns_more s k c.args.left.now c.loop-next.left c.search_turn.new.left (ply t at) (turns_due s c.loop-next.turns_left.next) (turns_due s c.next_child.new.left.next) c.loop-next.seen c.search_turn.new.seen (due t at) c.loop-next.invariant.1.0 c.in_ok-found.ensures.fewer (steps t at) also,
        (
          omega (arith, c.in_ok-found.ensures.less, c.loop-next.invariant.1.1.0),
          turns_more s k (rest c.args.left.now c.args.room.now) (rest c.loop-next.left c.loop-next.room) (rest c.search_turn.new.left c.search_turn.new.room) (ply t at) (turns_due s c.loop-next.turns_left.next) (turns_due s c.next_child.new.left.next) c.loop-next.seen c.search_turn.new.seen (due t at) c.loop-next.invariant.1.1.1 (omega (arith, c.in_ok-found.ensures.fewer, c.in_ok-found.ensures.less)) (met t at) also,
        ),
      ),
    )

pub search_turns-returns-in-Some-2-clause-steps : goal.search_turns-returns-in-Some-2-clause-steps
search_turns-returns-in-Some-2-clause-steps t c =
    let s = c.args.state.now.state in
    let at = (goal.at.search_turns-returns-in-Some-2-clause-steps t c).In_ok-found in
    turns_steps s c.args.turns c.args.left.now c.loop-next.left c.search_turn.new.left (ply t at) (turns_due s c.loop-next.turns_left.next) (turns_due s c.next_child.new.left.next) c.loop-next.seen (due t at) c.loop-next.invariant.1.0 (steps t at)

pub search_turns-returns-in-Some-2-clause-met : goal.search_turns-returns-in-Some-2-clause-met
search_turns-returns-in-Some-2-clause-met t c =
    let s = c.args.state.now.state in
    let at = (goal.at.search_turns-returns-in-Some-2-clause-met t c).In_ok-found in
    turns_steps s c.args.turns (rest c.args.left.now c.args.room.now) (rest c.loop-next.left c.loop-next.room) (rest c.search_turn.new.left c.search_turn.new.room) (ply t at) (turns_due s c.loop-next.turns_left.next) (turns_due s c.next_child.new.left.next) c.loop-next.seen (due t at) c.loop-next.invariant.1.1.1 (met t at)

pub search_turns-returns-in-Some-2-clause-found : goal.search_turns-returns-in-Some-2-clause-found
search_turns-returns-in-Some-2-clause-found t c =
    let s = c.args.state.now.state in
    let k = c.args.turns in
    let at = (goal.at.search_turns-returns-in-Some-2-clause-found t c).In_ok-found in
    turns_found s k (rest c.args.left.now c.args.room.now) (rest c.loop-next.left c.loop-next.room) (ply t at) (turns_due s c.loop-next.turns_left.next) (turns_due s c.next_child.new.left.next) c.loop-next.seen c.search_turn.new.seen c.in-Some-2.found c.requires.nobody (due t at) c.loop-next.invariant.1.1.1
    (subst (λ r. IsTurnSeen s k (ply t at) (rest c.loop-next.left c.loop-next.room) c.loop-next.seen c.search_turn.new.seen r) c.in-Some-2.is (seen t at))

pub search_turns-returns-clause-found : goal.search_turns-returns-clause-found
search_turns-returns-clause-found t c =
    let kept : c.loop-next.state ≡ c.args.state.now = c.loop-next.invariant.0 in
    subst (λ (v : Line). IsFound v.state (c.args.turns + 1) (rest c.args.left.now c.args.room.now + 1) c.decided.result) kept (c.decided.ensures (rest c.args.left.now c.args.room.now + 1))

pub search_turn-returns-then-is_settled-clause-seen : goal.search_turn-returns-then-is_settled-clause-seen
search_turn-returns-then-is_settled-clause-seen t c =
    let s = c.args.state.now.state in
    let n = s.game.size in
    if_ok_map c.with_turn.result _ _
    (λ r h. h s c.args.turns (rest c.args.left.now c.args.room.now) (sym c.mover-mover.ensures) c.requires.nobody c.requires.legal
    (c.found_at_once.ensures (next s (ply_of n c.args.turn)) c.args.turns (rest c.args.left.now c.args.room.now) (sym c.requires.winner) (c.is_settled.ensures c.if-is_settled.true)))
    c.with_turn.ensures

pub search_turn-returns-then-room-eq0-clause-seen : goal.search_turn-returns-then-room-eq0-clause-seen
search_turn-returns-then-room-eq0-clause-seen t c =
    let s = c.args.state.now.state in
    let some = nodes_some (next s (ply_of s.game.size c.args.turn)) c.args.turns in
    omega (arith, c.if-room-eq0.true, some)

pub search_turn-returns-then-is_settled-clause-met : goal.search_turn-returns-then-is_settled-clause-met
search_turn-returns-then-is_settled-clause-met t c =
    let s = c.args.state.now.state in
    let some = nodes_some (next s (ply_of s.game.size c.args.turn)) c.args.turns in
    on_ok_any c.with_turn.result (rest c.args.left.now c.args.room.now ≤ rest c.args.left.now (c.args.room.now - 1) + nodes (next s (ply_of s.game.size c.args.turn)) c.args.turns) (omega (arith, c.if-room-eq0.false, some))
