use Rattle.std.proofs.Common.{◌+◌, ◌-◌, subst, sym}
use Rattle.record_tools.proofs.Collection.{Decides, decides_later}
use Rattle.record_tools.proofs.games.game.Goals as goal

pub loop-passed-preserved : goal.loop-passed-preserved
loop-passed-preserved c =
    subst (λ rest. Decides (c.args.number - (c.loop-passed.passed + 1)) rest c.args.number c.args.text.now) (sym c.text_after-rest.ensures)
    (decides_later c.loop-passed.passed c.args.number c.args.text.now c.loop-passed.rest.now c.in_ok-_tree._tree c.in_ok-_tree.end c.loop-passed-test.true c.in_ok-_tree.ensures.found c.loop-passed.invariant)
