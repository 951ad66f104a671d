use Rattle.std.proofs.Common.{◌≡◌, ◌≤◌, length, take}
use Rattle.go_turns.proofs.record.Record.undo.Given as goal

-- a front of the history is left, with all that the step keeps
abbrev pub invariant-loop-self : goal.invariant-loop-self
invariant-loop-self g l = record {
  board : l.self-inside.board ≡ l.initial.self-inside.board;
  place : l.self-inside.place ≡ l.initial.self-inside.place;
  passes : l.self-inside.passes ≡ l.initial.self-inside.passes;
  last_colour : l.self-inside.last_colour ≡ l.initial.self-inside.last_colour;
  steps : l.self-inside.steps.items ≡ l.initial.self-inside.steps.items;
  front : g.S.Seen.content l.self-inside.seen ≡ take (length (g.S.Seen.content l.self-inside.seen)) (g.S.Seen.content l.initial.self-inside.seen);
  enough : l.step.occurred ≤ length (g.S.Seen.content l.self-inside.seen);
}

abbrev pub decreases-loop-self : goal.decreases-loop-self
decreases-loop-self g l = length (g.S.Seen.content l.self-inside.seen)
