use Rattle.std.proofs.Common.{rules, arith}
use Rattle.go_points.proofs.Remaining.{places_next, places_end}
use Rattle.go_points.proofs.points.PointsIterator.next.Goals as goal

pub returns-then-self-area-clause-steps : goal.returns-then-self-area-clause-steps
returns-then-self-area-clause-steps c =
    let none = rw c.self.view_is at (places_end c.self.inside.size c.self.inside.next (omega arith)) in
    (none, none)

pub returns-clause-steps : goal.returns-clause-steps
returns-clause-steps c = rw (← c.self.view_is, c.point_at-point.ensures.place) (places_next c.self.inside.size c.self.inside.next (omega arith))

pub returns-clause-goes : goal.returns-clause-goes
returns-clause-goes c =
    let step = places_next c.self.inside.size c.self.inside.next (omega arith) in
    rw (← c.self.view_is, step) (search rules)
