use Rattle.gtp_core.proofs.Common.{◌≡◌, sym, subst, ply_of, play_of, IsSound}
use Rattle.gtp_core.specs.Private.Following.{IsKnown}
use Rattle.gtp_core.proofs.Sound.{play_keeps, turn_refused, with_turns_sound}
use Rattle.gtp_core.proofs.session.Session.play.Goals as goal

pub invariant_of-self : goal.invariant_of-self
invariant_of-self c =
    let s = c.self.inside in (
      with_turns_sound s.turns c.play.new.self s.targets s.region c.self.invariant.0
          (play_keeps c.args.colour (ply_of s.turns.size c.in-Some.turn) s.turns c.play.new.self c.play.result c.self.invariant.0.turns c.play.ensures),
      tt,
    )

-- a refused turn leaves the record, and so what is known of its problem
pub invariant_of-self-in-Err : goal.invariant_of-self-in-Err
invariant_of-self-in-Err c =
    let s = c.self.inside in
    let same : c.play.new.self ≡ s.turns = turn_refused (play_of s.turns c.args.colour (ply_of s.turns.size c.in-Some.turn)) s.turns c.play.new.self c.play.result c.in-Err.fault c.in-Err.is c.play.ensures in
    subst (λ r. IsSound (record { turns = r; targets = s.targets; region = s.region }) × IsKnown (record { turns = r; targets = s.targets; region = s.region }) s.known) (sym same) c.self.invariant
