use Rattle.safe_groups.proofs.Common.{◌≡◌, ◌*◌, ◌<◌, [], length, get_or, AreStates}
use Rattle.safe_groups.proofs.bodies.read_states.Given as goal

abbrev pub invariant-loop : goal.invariant-loop
invariant-loop g l = AreStates l.ground l.states.items × (get_or l.states.items 0 [] ≡ l.start) × (0 < length l.states.items)
