use Rattle.safe_groups.proofs.Common.{◌≡◌, sym, ◌∙◌, subst, inl, IsTrue, holds_place}
use Rattle.std.proofs.Common.{rules}
use Rattle.safe_groups.proofs.Spacing.{found_one, found_all}
use Rattle.safe_groups.proofs.ground.Ground.are_eye_points.Goals as goal

pub loop-point-init : goal.loop-point-init
loop-point-init c = (
  search rules,
  search rules,
  λ q held on. inl (subst (λ l. IsTrue (holds_place l q)) (sym (c.into_iter-point-iterator.ensures.into_iter_gives ∙ c.iter-point-items.ensures.value)) held),
)

pub loop-point-preserved : goal.loop-point-preserved
loop-point-preserved c = (
  search rules,
  search rules,
  found_one c.args.self.now c.args.space.now c.args.near.now c.args.avoided.now c.loop-point.point-iterator c.next.new.self c.in-Some.point c.in-Some.ensures.steps (c.may_be_of_eye.ensures c.if-not-may_be_of_eye.false) c.loop-point.invariant.2,
)

pub returns : goal.returns
returns c = λ yes. found_all c.args.self.now c.args.space.now c.args.near.now c.args.avoided.now c.loop-point.point-iterator c.in-None.ensures.steps.0 c.loop-point.invariant.2
