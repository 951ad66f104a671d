use Rattle.proved_groups.proofs.Deciding.{decides}
use Rattle.proved_groups.proofs.proven.ProvenByMove.winner.Goals as goal

pub returns : goal.returns
returns c = (c.mover.ensures, decides c.args.self.now.claim)
