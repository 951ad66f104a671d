use Rattle.safe_groups.proofs.Never.{safe_is_alive as law}
use Rattle.safe_groups.proofs.laws.safe_is_alive.Goals as goal

pub returns : goal.returns
returns c = law
