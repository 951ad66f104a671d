use Rattle.short_proofs.proofs.reading_record.record_of.Given as goal

abbrev pub invariant-loop-later : goal.invariant-loop-later
invariant-loop-later l = Unit {0}
