use Rattle.std.proofs.Common.{rules, ◌≡◌, ◌++◌, map, sym, subst}
use Rattle.go_points.specs.Sgf.{sgf_text}
use Rattle.record_marks.proofs.Letters.{letters_more}
use Rattle.record_marks.proofs.stones.letters_of.Goals as goal

pub loop-point-preserved : goal.loop-point-preserved
loop-point-preserved c =
    let whole = map sgf_text c.args.set.now in (
      search rules,
      search rules,
      subst (λ vs. vs ++ map sgf_text c.next.new.self ≡ whole) (sym c.in_ok-push.ensures.items)
          (letters_more c.loop-point.values.items whole c.loop-point.point-iterator c.next.new.self c.in-Some.point c.in_ok-point_value.field-0 c.in-Some.ensures.steps c.in_ok-point_value.ensures c.loop-point.invariant.2),
    )
