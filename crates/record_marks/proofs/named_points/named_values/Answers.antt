use Rattle.std.proofs.Common.{rules, ◌+◌, ℕ, List, Some, drop, sym, ◌∙◌, ap, subst}
use Rattle.std.proofs.lemmas.List.{length-drop, take_rest}
use Rattle.record_marks.proofs.Names.{NamesLeft, names_more, names_none, names_last, names_not_last}
use Rattle.record_marks.proofs.named_points.named_values.Goals as goal

pub returns-in_default-2 : goal.returns-in_default-2
returns-in_default-2 c = names_none c.args.size c.loop-at.rest.now c.loop-at.values.items c.args.text.now c.loop-at.invariant.0 c.in-Some.at (sym c.comma_in.ensures ∙ c.in-Some.is) (search rules)

pub loop-at-preserved : goal.loop-at-preserved
loop-at-preserved c =
    let at = c.in-Some.at in
    let rest = c.loop-at.rest.now in
    let left = names_more c.args.size rest c.loop-at.values.items c.args.text.now c.loop-at.invariant.0 at c.in-Some-2.value (sym c.comma_in.ensures ∙ c.in-Some.is) (sym c.in-Some-2.is ∙ c.in_ok-value.ensures) in
    let now = subst (λ (vs : List (List ℕ)). NamesLeft c.args.size (drop (at + 1) rest) vs c.args.text.now) (sym c.in_ok-push.ensures.items) left in
    (subst (λ (r : List ℕ). NamesLeft c.args.size r c.push.new.self.items c.args.text.now) (sym (take_rest rest (at + 1))) now, search (rules, length-drop))

pub returns-in_default-3 : goal.returns-in_default-3
returns-in_default-3 c = names_not_last c.args.size c.loop-at.rest.now c.loop-at.values.items c.args.text.now c.loop-at.invariant.0 (search rules) (search rules)

pub returns : goal.returns
returns c = ap Some c.in_ok-push-2.ensures.items ∙ names_last c.args.size c.loop-at.rest.now c.loop-at.values.items c.args.text.now c.loop-at.invariant.0 c.in-Some-3.last (search rules) (sym c.in-Some-3.is ∙ c.in_ok-last.ensures)
