use Rattle.std.proofs.Common.{rules, ◌∙◌, string_bytes}
use Rattle.group_status.specs.Names.{names_text}
use Rattle.group_status.proofs.Naming.{names_more}
use Rattle.group_status.proofs.names.point_names.Goals as goal

pub loop-point-preserved : goal.loop-point-preserved
loop-point-preserved c = (
  search rules,
  search rules,
  search rules,
  names_more c.args.size (string_bytes c.loop-point.names) (string_bytes c.push_text.new.text) (string_bytes c.push_text-in-loop-point.new.text) c.loop-point.between.now c.as_str.result.now (names_text c.args.size c.args.points.now) c.loop-point.point-iterator c.next.new.self c.in-Some.point c.in-Some.ensures.steps (c.as_str.ensures.value ∙ c.in_ok-name.ensures) c.in_ok-push_text.ensures c.in_ok-push_text-2.ensures c.loop-point.invariant.3,
)
