-- The new colouring is none of those before.
use Rattle.go_turns.proofs.Common.{◌≡◌, None, sym, ◌∙◌, ap, place_in, repeats}
use Rattle.go_turns.proofs.Repeats.{once_more}
use Rattle.go_turns.proofs.list_seen.ListSeenSeen.add_new.Goals as goal

pub invariant_of-self-2 : goal.invariant_of-self-2
invariant_of-self-2 c =
    let new : place_in c.self.inside.colourings.items c.args.colouring ≡ None = ap (λ h. place_in h c.args.colouring) c.self.view_is ∙ sym c.holds.ensures ∙ c.in_default.is in
    ap repeats c.in_ok-push.ensures.items ∙ once_more c.self.inside.colourings.items c.args.colouring c.self.invariant new
