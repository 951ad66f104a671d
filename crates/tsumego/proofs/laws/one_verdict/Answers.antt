use Rattle.tsumego.proofs.Common.{lines, verdict, has_verdict, one_verdict}
use Rattle.tsumego.proofs.laws.one_verdict.Goals as goal

pub returns : goal.returns
returns c q bytes = let v = verdict q (lines q.game.size bytes) in (v, has_verdict q bytes, λ w. one_verdict q bytes v w (has_verdict q bytes))
