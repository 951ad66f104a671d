use Rattle.cert_check.proofs.Common.{◌≡◌, ◌≤◌, length, reverse, Follows, owed_by}
use Rattle.cert_check.proofs.open_nodes.unwind.Given as goal

abbrev pub invariant-loop-node : goal.invariant-loop-node
invariant-loop-node l =
    Follows l.initial.state.state.game l.state.before (reverse l.open_nodes.items)
    × (owed_by l.state.before (reverse l.open_nodes.items) ≡ owed_by l.initial.state.before (reverse l.initial.open_nodes.items))
    × (l.state.state.game ≡ l.initial.state.state.game)
    × (length l.open_nodes.items ≤ 2000)

abbrev pub decreases-loop-node : goal.decreases-loop-node
decreases-loop-node l = length l.open_nodes.items
