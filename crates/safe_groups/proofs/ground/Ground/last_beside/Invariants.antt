use Rattle.safe_groups.proofs.Common.{◌≡◌, ℕ, cell_at, side_of, area_of, Lasts}
use Rattle.safe_groups.proofs.Beside.{AllBeside}
use Rattle.safe_groups.proofs.ground.Ground.last_beside.Given as goal

abbrev pub invariant-loop-neighbour : goal.invariant-loop-neighbour
invariant-loop-neighbour l = AllBeside (side_of l.self.cells) (λ (q : ℕ). cell_at l.state q ≡ l.fn.wanted → Lasts (area_of l.self) l.state q) l.neighbour-items l.neighbour-index
