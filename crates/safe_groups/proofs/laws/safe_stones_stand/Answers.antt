use Rattle.safe_groups.proofs.Never.{safe_stones_stand as law}
use Rattle.safe_groups.proofs.laws.safe_stones_stand.Goals as goal

pub returns : goal.returns
returns c = law
