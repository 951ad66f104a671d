use Rattle.safe_groups.proofs.Common.{sym, ◌∙◌, subst, Empty, IsTrue, IsFalse, same_cell_eq, side_of, holds_place}
use Rattle.go_turns.proofs.Openings.{place_back}
use Rattle.safe_groups.proofs.ground.Ground.may_be_of_eye.Goals as goal

pub returns : goal.returns
returns c = λ yes on.
    let back = sym (place_back (side_of c.args.self.now.cells) c.args.point on) in
    record {
      near_one = subst (λ p. IsTrue (holds_place c.args.near.now p)) back (sym c.has.ensures ∙ c.if-not-has.false);
      free = subst (λ p. IsFalse (holds_place c.args.avoided.now p)) back (sym c.has-else-not-has.ensures ∙ c.if-has.false);
      inside = sym c.get.ensures.value ∙ same_cell_eq c.get.result Empty (sym c.is_empty.ensures ∙ yes);
    }
