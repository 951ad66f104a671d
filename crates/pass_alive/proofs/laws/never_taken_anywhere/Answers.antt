use Rattle.pass_alive.proofs.Never.{never_taken_anywhere as law}
use Rattle.pass_alive.proofs.laws.never_taken_anywhere.Goals as goal

pub returns : goal.returns
returns c = law
