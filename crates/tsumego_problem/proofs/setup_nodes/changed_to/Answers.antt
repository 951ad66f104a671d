use Rattle.std.proofs.Common.{◌≡◌, ℕ, ◌+◌, Bool, not, ◌&&◌, ◌∙◌, sym, ap, subst}
use Rattle.go_points.specs.Grid.{same_cell, cell_at, side_of}
use Rattle.tsumego_problem.proofs.Recording.{ValuesBelow, value_hit, value_miss, cell_is, comes_is}
use Rattle.tsumego_problem.proofs.setup_nodes.changed_to.Goals as goal
use Rattle.tsumego_problem.proofs.setup_nodes.changed_to.Goals.{then-comes_to+in_ok-point_value+in_ok-push, else-comes_to}

pub loop-number-preserved : goal.loop-number-preserved
loop-number-preserved c =
    let n = c.args.size in let k = c.loop-number.number in
    let old = c.args.old.now in let new = c.args.new.now in let x = c.args.cell in
    let test : ℕ → Bool = λ p. same_cell (cell_at new p) x && not (same_cell (cell_at old p) x) in
    let is : test k ≡ c.comes_to.result =
    comes_is x c.get.result c.get-in-loop-number.result (cell_at old k) (cell_at new k) c.comes_to.result c.comes_to.ensures
    (cell_is n (side_of old) k old c.point_at-point.result c.get.result c.get.ensures.value c.requires.old c.point_at-point.ensures.number_back)
    (cell_is n (side_of new) k new c.point_at-point.result c.get-in-loop-number.result c.get-in-loop-number.ensures.value c.requires.new c.point_at-point.ensures.number_back) in
    elim c.if-comes_to.branch [
      | then-comes_to+in_ok-point_value+in_ok-push w ↦
          subst (λ v. ValuesBelow n test (k + 1) v) (sym (ap (λ v. v.items) w.values-is ∙ w.in_ok-push.ensures.items))
          (value_hit n test k c.loop-number.values.items c.point_at-point.result w.in_ok-point_value.field-0 c.point_at-point.ensures.place w.in_ok-point_value.ensures (is ∙ w.if-comes_to.true) c.loop-number.invariant)
      | else-comes_to w ↦
          subst (λ v. ValuesBelow n test (k + 1) v) (sym (ap (λ v. v.items) w.values-is))
          (value_miss n test k c.loop-number.values.items (is ∙ w.if-comes_to.false) c.loop-number.invariant)
    ]
