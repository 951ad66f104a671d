use Rattle.safe_groups.specs.Ground.{area_of}
use Rattle.safe_groups.proofs.Grounds.{at_rest_by}
use Rattle.safe_groups.proofs.ground.Ground.is_at_rest.Goals as goal

pub returns-clause-rest : goal.returns-clause-rest
returns-clause-rest c = λ yes. at_rest_by (area_of c.args.self.now) c.args.state.now c.requires.state.walled (c.stands.ensures c.if-not-stands.false) (c.gives_all.ensures c.if-not-gives_all.false) (c.is_clear.ensures yes)
