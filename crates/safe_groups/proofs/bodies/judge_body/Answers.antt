use Rattle.safe_groups.proofs.Common.{subst, sym, AreStates, AreJudged}
use Rattle.safe_groups.proofs.Closing.{judged_replies}
use Rattle.safe_groups.proofs.bodies.judge_body.Goals as goal

pub returns : goal.returns
returns g c =
    let ground = c.args.ground.now in
    judged_replies ground c.in_ok-states.states.items c.requires.given c.in_ok-states.ensures.states (subst (AreJudged ground) c.as_slice.ensures.value c.in_ok-judge_states.ensures) c.args.start.now c.in_ok-states.ensures.more c.in_ok-states.ensures.first
