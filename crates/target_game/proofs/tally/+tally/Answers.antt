use Rattle.target_game.proofs.Common.{◌≡◌, ◌-◌, suc, is_some, Some, None, option_map, inl, inr, refl, sym, ap, ◌∙◌, arith, Black, White, ply_of, Line, legal_turns, next, over, is_winner, tally_of, before_turns, with_below, with_turns, turns_due}
use Rattle.target_game.proofs.Due.{turns_begun, went_on, at_end, back_again}
use Rattle.target_game.proofs.Tallies.{tally_none, tally_last, tally_next, turn_more, turn_past, turns_done, open_state, if_ok_map}
use Rattle.target_game.proofs.tally.+tally.Goals as goal
use Rattle.target_game.proofs.tally.+tally.Goals.{tally_state-then-is_some-via-then-is_some, tally_state-then-is_some-via-else-is_some+then-turns-eq0}

pub tally_state-returns-then-left-eq0-clause-tally : goal.tally_state-returns-then-left-eq0-clause-tally
tally_state-returns-then-left-eq0-clause-tally t c =
    sym (ap (tally_of c.args.state.now.state c.args.turns) c.if-left-eq0.true ∙ tally_none c.args.state.now.state c.args.turns)

pub tally_state-returns-then-is_some-clause-tally : goal.tally_state-returns-then-is_some-clause-tally
tally_state-returns-then-is_some-clause-tally t c =
    let s = c.args.state.now.state in
    tally_last s c.args.turns c.args.left c.last.result
    (elim c.then-is_some.branch [
      | tally_state-then-is_some-via-then-is_some w ↦ inl (ap is_some (sym c.over-winner.ensures) ∙ sym c.is_some.ensures ∙ w.if-is_some.true)
      | tally_state-then-is_some-via-else-is_some+then-turns-eq0 w ↦ inr w.if-turns-eq0.true
    ])
    (omega (arith, c.if-left-eq0.false)) c.last.ensures.left
    (c.last.ensures.black ∙ ap (is_winner Black) c.over-winner.ensures)
    (c.last.ensures.white ∙ ap (is_winner White) c.over-winner.ensures)

pub tally_state-returns-then-turns-eq1-clause-tally : goal.tally_state-returns-then-turns-eq1-clause-tally
tally_state-returns-then-turns-eq1-clause-tally t c =
    let s = c.args.state.now.state in
    let nobody : over s ≡ None = open_state s c.over-winner.result c.is_some.result c.over-winner.ensures c.is_some.ensures c.if-is_some.false in
    c.tally_last_turns.ensures ∙ tally_next s 0 c.args.left nobody (omega (arith, c.if-left-eq0.false)) ∙ ap (λ j. tally_of s j c.args.left) (sym c.if-turns-eq1.true)

pub tally_state-returns-clause-tally : goal.tally_state-returns-clause-tally
tally_state-returns-clause-tally t c =
    let s = c.args.state.now.state in
    let nobody : over s ≡ None = open_state s c.over-winner.result c.is_some.result c.over-winner.ensures c.is_some.ensures c.if-is_some.false in
    let k : suc (c.args.turns - 1) ≡ c.args.turns = omega (arith, c.if-turns-eq0.false) in
    if_ok_map c.tally_turns.result _ _
    (λ r h. h ∙ tally_next s (c.args.turns - 1) c.args.left nobody (omega (arith, c.if-left-eq0.false)) ∙ ap (λ j. tally_of s j c.args.left) k)
    c.tally_turns.ensures.tally

pub tally_turns-loop-turn-init : goal.tally_turns-loop-turn-init
tally_turns-loop-turn-init t c =
    let s = c.args.state.now.state in
    let begun : c.before_turns-seen.result ≡ before_turns s.mover c.args.left = c.before_turns-seen.ensures ∙ ap (λ m. before_turns m c.args.left) c.mover-mover.ensures in
    (refl, ap (λ ts. with_turns s c.args.turns ts c.before_turns-seen.result) (ap (turns_due s) c.all-turns_left.ensures ∙ turns_begun s) ∙ ap (with_turns s c.args.turns (legal_turns s)) begun)

pub tally_turns-loop-turn-preserved : goal.tally_turns-loop-turn-preserved
tally_turns-loop-turn-preserved t c =
    let l = c.args.state.now in
    let s = l.state in
    let k = c.args.turns in
    let seen = c.loop-turn.seen in
    let ply = ply_of s.game.size c.in-Some._turn in
    let gone = went_on l c.loop-turn.state c.after_next.new.self c.in_ok-_turn.field-0 c.in-Some._turn c.loop-turn.turns_left.next c.after_next.new.left.next c.loop-turn.invariant.0 c.in-Some.is c.in_ok-_turn.ensures.takes c.in_ok-_turn.ensures.state in
    let below : Some c.in-Some-below.tally ≡ tally_of (next s ply) k seen.left = sym c.in-Some-below.is ∙ c.in_ok-below.ensures.tally ∙ ap (λ (v : Line). tally_of v.state k seen.left) gone.made in
    let joined : Some c.with_below-seen.result ≡ option_map (with_below s.mover seen) (tally_of (next s ply) k seen.left) =
    ap Some (c.with_below-seen.ensures ∙ ap (λ m. with_below m seen c.in-Some-below.tally) c.mover-mover.ensures) ∙ ap (option_map (with_below s.mover seen)) below in (
      back_again l c.tally_state.new.state c.back.new.self ply (c.in_ok-below.ensures.state ∙ gone.made) c.back.ensures,
      sym (turn_more s k ply (turns_due s c.after_next.new.left.next) seen c.with_below-seen.result joined) ∙ sym (ap (λ ts. with_turns s k ts seen) gone.due) ∙ c.loop-turn.invariant.1,
    )

pub tally_turns-returns-in-None-clause-tally : goal.tally_turns-returns-in-None-clause-tally
tally_turns-returns-in-None-clause-tally t c =
    let l = c.args.state.now in
    let s = l.state in
    let k = c.args.turns in
    let seen = c.loop-turn.seen in
    let ply = ply_of s.game.size c.in-Some._turn in
    let gone = went_on l c.loop-turn.state c.after_next.new.self c.in_ok-_turn.field-0 c.in-Some._turn c.loop-turn.turns_left.next c.after_next.new.left.next c.loop-turn.invariant.0 c.in-Some.is c.in_ok-_turn.ensures.takes c.in_ok-_turn.ensures.state in
    let below : None ≡ tally_of (next s ply) k seen.left = sym c.in-None.is ∙ c.in_ok-below.ensures.tally ∙ ap (λ (v : Line). tally_of v.state k seen.left) gone.made in
    sym (sym c.loop-turn.invariant.1 ∙ ap (λ ts. with_turns s k ts seen) gone.due ∙ turn_past s k ply (turns_due s c.after_next.new.left.next) seen (ap (option_map (with_below s.mover seen)) below))

pub tally_turns-returns-clause-tally : goal.tally_turns-returns-clause-tally
tally_turns-returns-clause-tally t c =
    let l = c.args.state.now in
    let s = l.state in
    let k = c.args.turns in
    let none = at_end l c.loop-turn.state c.in_ok-_turn.field-0 c.loop-turn.turns_left.next c.after_next.new.left.next c.loop-turn.invariant.0 c.in_default.is c.in_ok-_turn.ensures.takes in
    sym (sym c.loop-turn.invariant.1 ∙ ap (λ ts. with_turns s k ts c.loop-turn.seen) none ∙ turns_done s k c.loop-turn.seen)
