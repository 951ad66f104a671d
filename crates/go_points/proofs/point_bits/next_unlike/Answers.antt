use Rattle.std.proofs.Common.{◌/◌, refl, arith}
use Rattle.go_points.proofs.Unlike.{alike_on, unlike_there}
use Rattle.go_points.proofs.point_bits.next_unlike.Goals as goal

pub returns-then-bit-lt64-clause-alike : goal.returns-then-bit-lt64-clause-alike
returns-then-bit-lt64-clause-alike c =
    alike_on c.args.bits.now c.args.others.now c.args.more.now c.args.more_others.now c.args.from c.words.at c.next_set-bit.result c.next_set-bit.ensures.most c.next_set-bit.ensures.unset c.words.invariant.alike

pub returns-then-bit-lt64-clause-unlike : goal.returns-then-bit-lt64-clause-unlike
returns-then-bit-lt64-clause-unlike c = λ within.
    unlike_there c.args.bits.now c.args.others.now c.args.more.now c.args.more_others.now _ (c.words.at / 64) refl c.next_set-bit.result c.if-bit-lt64.true (c.next_set-bit.ensures.set c.if-bit-lt64.true)

pub words-preserved : goal.words-preserved
words-preserved c = record {
  later = omega (arith, c.words.invariant.later, c.next_set-bit.ensures.later);
  alike = alike_on c.args.bits.now c.args.others.now c.args.more.now c.args.more_others.now c.args.from c.words.at c.next_set-bit.result c.next_set-bit.ensures.most c.next_set-bit.ensures.unset c.words.invariant.alike;
}
