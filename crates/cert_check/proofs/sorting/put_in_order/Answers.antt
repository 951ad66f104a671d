use Rattle.std.proofs.lemmas.List.Filters.{dedup_is}
use Rattle.cert_check.proofs.InOrder.{in_order, same_left}
use Rattle.cert_check.proofs.sorting.put_in_order.Goals as goal

pub returns-clause-order : goal.returns-clause-order
returns-clause-order c = in_order c.sort_unstable.new.self.items c.dedup.new.self.items c.sort_unstable.ensures.sorted (dedup_is _ _ _ c.dedup.ensures.filtered)

pub returns-clause-same : goal.returns-clause-same
returns-clause-same c d = same_left c.args.list.now.items c.sort_unstable.new.self.items c.dedup.new.self.items c.sort_unstable.ensures.permutation (dedup_is _ _ _ c.dedup.ensures.filtered) d
