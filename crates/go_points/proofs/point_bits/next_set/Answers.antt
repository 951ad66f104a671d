use Rattle.std.proofs.Common.{◌<◌, ◌/◌, ◌^◌, arith}
use Rattle.go_points.proofs.Unlike.{none_set, lowest_set, lowest_within, unset_below}
use Rattle.go_points.proofs.point_bits.next_set.Goals as goal

pub returns-then-rest-eq0-clause-unset : goal.returns-then-rest-eq0-clause-unset
returns-then-rest-eq0-clause-unset c = λ i later low. none_set c.args.word c.args.from i c.if-rest-eq0.true later

pub returns-else-rest-eq0-clause-unset : goal.returns-else-rest-eq0-clause-unset
returns-else-rest-eq0-clause-unset c = λ i later low.
    let some : 0 < c.args.word / 2 ^ c.args.from = grind (arith, c.if-rest-eq0.false) in
    unset_below c.args.word c.args.from c.ranges.word.fits some i later low

pub returns-else-rest-eq0-clause-set : goal.returns-else-rest-eq0-clause-set
returns-else-rest-eq0-clause-set c = λ within.
    let some : 0 < c.args.word / 2 ^ c.args.from = grind (arith, c.if-rest-eq0.false) in
    lowest_set c.args.word c.args.from c.ranges.word.fits some

pub returns-else-rest-eq0-clause-most : goal.returns-else-rest-eq0-clause-most
returns-else-rest-eq0-clause-most c =
    let some : 0 < c.args.word / 2 ^ c.args.from = grind (arith, c.if-rest-eq0.false) in
    let within = lowest_within c.args.word c.args.from c.ranges.word.fits some in
    omega (arith, within)
