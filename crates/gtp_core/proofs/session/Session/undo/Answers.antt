use Rattle.gtp_core.proofs.Sound.{undo_keeps, with_turns_sound}
use Rattle.gtp_core.proofs.session.Session.undo.Goals as goal

pub invariant_of-self : goal.invariant_of-self
invariant_of-self c =
    let s = c.self.inside in
    (with_turns_sound s.turns c.undo.new.self s.targets s.region c.self.invariant.0 (undo_keeps s.turns c.undo.new.self c.undo.result c.self.invariant.0.turns c.undo.ensures), tt)
