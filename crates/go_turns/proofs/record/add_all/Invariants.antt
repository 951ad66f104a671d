use Rattle.std.proofs.Common.{◌≡◌, take}
use Rattle.go_turns.proofs.record.add_all.Given as goal

-- those so far have been added
abbrev pub invariant-loop-colouring : goal.invariant-loop-colouring
invariant-loop-colouring g l = g.S.Seen.content l.seen ≡ take l.colouring-index l.history
