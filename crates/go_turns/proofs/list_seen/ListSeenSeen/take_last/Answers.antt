use Rattle.go_turns.proofs.Common.{◌-◌, ◌∙◌, ap, repeats}
use Rattle.go_turns.proofs.Repeats.{once_in_front}
use Rattle.go_turns.proofs.list_seen.ListSeenSeen.take_last.Goals as goal

pub invariant_of-self : goal.invariant_of-self
invariant_of-self c = ap repeats c.pop-last.ensures.rest ∙ once_in_front c.self.inside.colourings.items (c.self.inside.colourings.len - 1) c.self.invariant
