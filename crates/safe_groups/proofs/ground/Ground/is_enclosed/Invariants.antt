use Rattle.safe_groups.proofs.Common.{◌≡◌, ℕ, cell_at, side_of, own, area_of}
use Rattle.safe_groups.proofs.Beside.{AllBeside}
use Rattle.safe_groups.proofs.ground.Ground.is_enclosed.Given as goal

abbrev pub invariant-loop-neighbour : goal.invariant-loop-neighbour
invariant-loop-neighbour l = AllBeside (side_of l.self.cells) (λ (q : ℕ). cell_at l.state q ≡ own (area_of l.self)) l.neighbour-items l.neighbour-index
