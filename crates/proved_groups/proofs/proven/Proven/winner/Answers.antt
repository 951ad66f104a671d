use Rattle.std.proofs.Common.{sym, subst, ap, ◌∙◌, inl, inr}
use Rattle.go_points.specs.Grid.{opponent_of}
use Rattle.target_game.specs.State.{GameProblem, start}
use Rattle.safe_groups.specs.Laws.{IsSafe}
use Rattle.proved_groups.specs.Dead.{IsLost}
use Rattle.proved_groups.specs.Proven.{problem_of, supposed_of}
use Rattle.proved_groups.specs.declared.proven.Accepted.{Accepted}
use Rattle.proved_groups.proofs.proven.Proven.winner.Goals as goal

pub returns-in-Alive : goal.returns-in-Alive
returns-in-Alive c = inl (
  c.defender.ensures ∙ ap (λ (q : GameProblem). q.game.defender) c.problem.ensures,
  subst (λ (a : Accepted). ∥ IsSafe (start (problem_of a)) ∥₁) (sym c.in-Alive.is) c.in-Alive.field-0.safe,
)

pub returns-in-Dead : goal.returns-in-Dead
returns-in-Dead c = inr (
  c.opponent.ensures ∙ ap opponent_of (c.defender-in-Dead.ensures ∙ ap (λ (q : GameProblem). q.game.defender) c.problem-in-Dead.ensures),
  subst (λ (a : Accepted). ∥ IsLost (problem_of a) (supposed_of a) ∥₁) (sym c.in-Dead.is) c.in-Dead.field-0.dead,
)
