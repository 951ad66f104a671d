use Rattle.cert_check.proofs.Common.{◌≡◌, ◌-◌, List, ◌∷◌, drop, length, Cell, Ascends, apart}
use Rattle.cert_check.proofs.listed.skip_before.Given as goal

abbrev pub invariant-skipping : goal.invariant-skipping
invariant-skipping l = (rest : List (List Cell)) → Ascends (l.colouring ∷ rest) → apart (drop l.place l.list) (l.colouring ∷ rest) ≡ apart (drop l.from l.list) (l.colouring ∷ rest)

abbrev pub decreases-skipping : goal.decreases-skipping
decreases-skipping l = length l.list - l.place
