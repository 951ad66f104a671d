use Rattle.std.proofs.Common.{◌≡◌, ◌∷◌, rules, sym, ◌∙◌, ap}
use Rattle.go_points.proofs.PlaceSets.{first_taken}
use Rattle.go_points.proofs.point_set.MembersIterator.next.Goals as goal

taken : (c : goal.After-remove) → c.args.self.now ≡ c.in_ok-point.point ∷ c.remove.new.self
taken c =
    sym c.self.view_is
    ∙ first_taken c.self.inside.left c.in_ok-point.point (sym c.first.ensures.value ∙ c.in_ok-point.was) c.first.ensures.set.ascending
    ∙ ap (λ rest. c.in_ok-point.point ∷ rest) (sym c.remove.ensures)

pub returns-clause-steps : goal.returns-clause-steps
returns-clause-steps c = taken c

pub returns-clause-goes : goal.returns-clause-goes
returns-clause-goes c = rw (taken c) (search rules)
