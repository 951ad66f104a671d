use Rattle.safe_groups.proofs.Common.{inl, inr, subst, after_answer}
use Rattle.dead_groups.specs.Ground.{kill_area}
use Rattle.dead_groups.specs.Private.Judged.{IsNew}
use Rattle.dead_groups.proofs.entry_list.EntryList.judge_entry.Goals.{else-not-is_spared-via-then-not-is_spared+else-not-is_new, else-not-is_spared-via-else-not-is_spared}
use Rattle.dead_groups.proofs.entry_list.EntryList.judge_entry.Goals as goal

pub add-requires-clause-past : goal.add-requires-clause-past
add-requires-clause-past g c =
    elim c.else-not-is_spared.branch [
      | else-not-is_spared-via-then-not-is_spared+else-not-is_new w ↦ inr (subst (IsNew (kill_area c.args.ground.now) c.args.problem.now.history) c.in-Ok.ensures.value (w.is_new.ensures w.if-not-is_new.false))
      | else-not-is_spared-via-else-not-is_spared w ↦ inl (c.is_spared-is_spared.ensures w.if-not-is_spared.false)
    ]
