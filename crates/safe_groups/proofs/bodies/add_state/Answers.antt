use Rattle.safe_groups.proofs.Common.{◌≡◌, sym, subst, List, Cell, All, IsSettled}
use Rattle.safe_groups.proofs.Closing.{all_push}
use Rattle.safe_groups.proofs.bodies.add_state.Goals as goal

pub returns-in-Ok-clause-states : goal.returns-in-Ok-clause-states
returns-in-Ok-clause-states c = subst (All (IsSettled c.args.ground.now)) (sym c.in-Ok.ensures.items)
    (all_push (IsSettled c.args.ground.now) c.args.states.now.items c.args.state.now c.requires.states (record { state = c.is_state.ensures c.if-not-is_state.false; at_rest = c.is_at_rest.ensures.rest c.if-not-is_at_rest.false }))
