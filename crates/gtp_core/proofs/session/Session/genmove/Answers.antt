use Rattle.gtp_core.proofs.Common.{rules, ◌≡◌, Some, Ok, sym, subst, ply_of, Did, play_of, Win, GtpSession, problem_at, success, turn_text, IsPlayed, MayPlay, reply, IsFoundAt}
use Rattle.gtp_core.proofs.Sound.{play_keeps, with_turns_sound}
use Rattle.gtp_core.proofs.Telling.{did_play, pass_may, turn_played, win_may}
use Rattle.gtp_core.proofs.session.Session.genmove.Goals.{in-Some-Win, in_default}
use Rattle.gtp_core.proofs.session.Session.genmove.Goals as goal

pub invariant_of-self : goal.invariant_of-self
invariant_of-self c =
    let s = c.self.inside in (
      with_turns_sound s.turns c.play.new.self s.targets s.region c.self.invariant.0
          (play_keeps c.args.colour (ply_of s.turns.size c.match-branch-2.turn) s.turns c.play.new.self c.play.result c.self.invariant.0.turns c.play.ensures),
      tt,
    )

pub invariant_of-self-2 : goal.invariant_of-self-2
invariant_of-self-2 c =
    let s = c.self.inside in (
      with_turns_sound s.turns c.play.new.self s.targets s.region c.self.invariant.0
          (play_keeps c.args.colour (ply_of s.turns.size c.match-branch-2.turn) s.turns c.play.new.self c.play.result c.self.invariant.0.turns c.play.ensures),
      tt,
    )

pub returns-in-Ok-clause-ok : goal.returns-in-Ok-clause-ok
returns-in-Ok-clause-ok c =
    let i = c.self.inside in
    let s : GtpSession = record { turns = i.turns; targets = i.targets; region = i.region } in
    let n = i.turns.size in
    let k = c.args.colour in
    let found : IsFoundAt n k (problem_at s k) c.in_ok-turn.field-0 = subst (λ (v : GtpSession). IsFoundAt v.turns.size k (problem_at v k) c.in_ok-turn.field-0) (sym c.self.view_is) c.in_ok-turn.ensures in
    let may : MayPlay k (problem_at s k) (ply_of n c.match-branch-2.turn) = elim c.match-branch-2.branch [
      | in-Some-Win w ↦
          let is : c.in_ok-turn.field-0 ≡ Some (Win w.in-Some-Win.turn) = search rules in
          subst (λ t. MayPlay k (problem_at s k) (ply_of n t)) (sym w.turn-is) (win_may n k (problem_at s k) w.in-Some-Win.turn (subst (IsFoundAt n k (problem_at s k)) is found))
      | in_default w ↦ subst (λ t. MayPlay k (problem_at s k) (ply_of n t)) (sym w.turn-is) (pass_may k (problem_at s k))
    ] in
    let written : c.in_ok-bytes.bytes.items ≡ success c.args.id.now (turn_text n (ply_of n c.match-branch-2.turn)) = search rules in
    let played : play_of i.turns k (ply_of n c.match-branch-2.turn) ≡ Ok c.play.new.self = did_play (play_of i.turns k (ply_of n c.match-branch-2.turn)) i.turns c.play.new.self c.in-Ok.field-0 (subst (λ r. Did (play_of i.turns k (ply_of n c.match-branch-2.turn)) i.turns r c.play.new.self) c.in-Ok.is c.play.ensures) in
    subst (λ (v : GtpSession). IsPlayed v c.args.id.now k (problem_at v k) (reply c.in_ok-bytes.bytes.items) (record { turns = c.play.new.self; targets = i.targets; region = i.region })) c.self.view_is
    (turn_played s c.args.id.now c.in_ok-bytes.bytes.items k (problem_at s k) (ply_of n c.match-branch-2.turn) c.play.new.self may written played)
