use Rattle.cert_check.proofs.Common.{◌≡◌, ◌++◌, map, filter, range_with_len, is_open, result_of, is_past}
use Rattle.cert_check.proofs.results.add_barred.Given as goal

-- What the points so far give was added.
abbrev pub invariant-loop-number : goal.invariant-loop-number
invariant-loop-number l = (l.barred.items ≡ l.fn.barred.items ++ filter (is_past l.past.state) (map (result_of l.state.state) (filter (is_open l.state.state) (range_with_len 0 l.number)))) × (l.size ≡ l.state.state.game.size)
