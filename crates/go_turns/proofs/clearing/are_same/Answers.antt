-- The derived test of cells is that of the rules.
use Rattle.go_turns.proofs.Common.{◌≡◌, refl, ◌∙◌, Black, White, Cell, Empty, Stone, same_cell}
use Rattle.go_points.specs.contracts.CellPartialEq.TheImpl.{eq-value}
use Rattle.go_turns.proofs.clearing.are_same.Goals as goal

agrees : (a b : Cell) → (eq-value).it a b ≡ same_cell a b
agrees Empty Empty = refl
agrees Empty (Stone Black) = refl
agrees Empty (Stone White) = refl
agrees (Stone Black) Empty = refl
agrees (Stone White) Empty = refl
agrees (Stone Black) (Stone Black) = refl
agrees (Stone Black) (Stone White) = refl
agrees (Stone White) (Stone Black) = refl
agrees (Stone White) (Stone White) = refl

pub returns : goal.returns
returns c = c.eq.ensures ∙ agrees c.args.cell c.args.other
