use Rattle.cert_check.proofs.ShortClaims.{accepted_short_turns_win}
use Rattle.cert_check.proofs.laws.accepted_short_turns_win.Goals as goal

pub returns : goal.returns
returns c = accepted_short_turns_win c.defender_wins_within.ensures
