use Rattle.pass_alive.proofs.Never.{never_taken as law}
use Rattle.pass_alive.proofs.laws.never_taken.Goals as goal

pub returns : goal.returns
returns c = law
