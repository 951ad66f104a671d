-- The new colouring is none of those before.
use Rattle.go_turns.proofs.Common.{◌∙◌, ap, repeats}
use Rattle.go_turns.proofs.Repeats.{once_more}
use Rattle.go_turns.proofs.list_seen.ListSeenSeen.add.Goals as goal

pub invariant_of-self-2 : goal.invariant_of-self-2
invariant_of-self-2 c =
    let new = rw (← c.self.view_is) at c.requires in
    ap repeats c.in_ok-push.ensures.items ∙ once_more c.self.inside.colourings.items c.args.colouring c.self.invariant new
