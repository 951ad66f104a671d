use Rattle.std.proofs.Common.{◌*◌, sym}
use Rattle.stone_key.proofs.Changes.{key_of_empty}
use Rattle.stone_key.proofs.keyed_colouring.KeyedColouring.empty.Goals as goal

pub invariant_of-result : goal.invariant_of-result
invariant_of-result c = sym (key_of_empty c.empty.result (c.args.size * c.args.size) c.empty.ensures.value)
