-- An attack and a defence that were asked for about one stone are about one group.
use Rattle.std.specs.Prelude.{Option, Some, None, IfSome}
use Rattle.go_points.specs.Place.{Place}
use Rattle.target_game.specs.State.{GameProblem}
use Rattle.proved_groups.specs.Proven.{AreOfOneStone, IsOfStoneByMove}
use Rattle.proved_groups.specs.declared.proven.ProvenByMove.{ProvenByMove}

pub one_stone : (q : GameProblem) (point : Place) (attack defence : Option ProvenByMove) → IfSome attack (IsOfStoneByMove q point) → IfSome defence (IsOfStoneByMove q point) → IfSome attack (λ a. IfSome defence (AreOfOneStone a))
one_stone q point (Some a) (Some d) attack defence = (q, point, attack, defence)
one_stone q point (Some a) None attack defence = tt
one_stone q point None d attack defence = tt
