-- What a claim of death shows that is judged with one side or the other to move.
use Rattle.std.proofs.Common.{◌≡◌, sym, ◌∙◌, ap, subst, ℕ, ◌*◌, ◌<◌, List, inl, inr, IsTrue, arith, div-add-mod'}
use Rattle.std.proofs.lemmas.List.{get_or_past}
use Rattle.go_points.specs.declared.Cell.{Cell}
use Rattle.go_points.specs.declared.Cell.TheVariants.{Empty, Stone}
use Rattle.go_points.specs.Place.{Place, number_of, place_of}
use Rattle.go_points.specs.Grid.{cell_at, opponent_of, same_cell, side_of, IsColouring}
use Rattle.go_points.specs.Points.{holds_place}
use Rattle.go_points.proofs.Cells.{opponent_ne, eq_same_cell}
use Rattle.go_points.proofs.Clearing.{on_or_off}
use Rattle.go_chains.specs.Joined.{HoldsThose}
use Rattle.target_game.specs.State.{GameProblem, start}
use Rattle.target_game.specs.Legal.{holds_point}
use Rattle.dead_groups.specs.Claims.{AreDead}
use Rattle.proved_groups.specs.Dead.{AreAmong, IsTakenNow, IsLost, IsLostByMove}

-- With the defender to move: the group is dead whoever is.
pub lost_by : (q : GameProblem) (supposed : List Place) → q.mover ≡ q.game.defender → q.passes ≡ 0 → IsTakenNow q supposed → IsLost q supposed
lost_by q supposed mine none now = (
  none,
  λ stones standing. elim (now stones standing) [
    | inl killer ↦ absurd (opponent_ne q.game.defender (sym mine ∙ killer.0))
    | inr answered ↦ answered.2
  ],
)

-- With the attacker to move: it is taken by that move.
pub lost_by_move : (q : GameProblem) (supposed : List Place) → q.mover ≡ opponent_of q.game.defender → q.passes ≡ 0 → IsTakenNow q supposed → IsLostByMove q supposed
lost_by_move q supposed mine none now = (
  none,
  mine,
  λ stones standing. elim (now stones standing) [
    | inl killer ↦ killer.2
    | inr answered ↦ absurd (opponent_ne q.game.defender (sym answered.0 ∙ mine))
  ],
)

-- What a judge tells on a colouring, as a set of places.
module _ (q : GameProblem) (targets told : List Cell) (supposed : List Place) (side : side_of told ≡ q.game.size) (colouring : IsColouring (side_of told) told)
    (set : HoldsThose (side_of told) (λ p. same_cell (cell_at told p) (Stone (opponent_of q.game.defender))) supposed) where
  told_there : (p : ℕ) → cell_at told p ≡ Stone (opponent_of q.game.defender) → p < side_of told * side_of told
  told_there p is = elim (on_or_off (side_of told) p) [
    | inl on ↦ on
    | inr past ↦ absurd (cc (is, get_or_past told p Empty (omega (arith, past, colouring.full))))
  ]

  among : (stones : List ℕ) → AreAmong q.game.size supposed stones → (p : ℕ) → cell_at told p ≡ Stone (opponent_of q.game.defender) → IsTrue (holds_point stones p)
  among stones all p is =
      let held : IsTrue (holds_place supposed (place_of (side_of told) p)) = set.holds p (told_there p is) ∙ eq_same_cell (cell_at told p) (Stone (opponent_of q.game.defender)) is in
      subst (λ m. IsTrue (holds_point stones m)) (ap (λ n. number_of n (place_of (side_of told) p)) (sym side) ∙ div-add-mod' p (side_of told)) (all (place_of (side_of told) p) held)

  pub taken_now : ((p : ℕ) → cell_at targets p ≡ Stone q.game.defender → IsTrue (holds_point q.game.targets p)) → AreDead (start q) targets told → IsTakenNow q supposed
  taken_now aimed dead = λ stones all. dead q.game.targets stones aimed (among stones all)
