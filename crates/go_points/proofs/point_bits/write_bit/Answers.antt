use Rattle.go_points.proofs.Common.{◌∙◌, sym, true, false, arith, MAX_POINTS, word_count}
use Rattle.go_points.proofs.Bits.{bit_put, bit_taken, bit_same, bit_other, words_kept}
use Rattle.go_points.proofs.point_bits.write_bit.Goals as goal

pub returns-then-value-clause-same : goal.returns-then-value-clause-same
returns-then-value-clause-same c =
    bit_same c.args.bits.now c.args.bit _ true (bit_put c.args.bits.now word_count MAX_POINTS c.args.bit c.requires.words (omega arith) c.requires.within)
    ∙ sym c.if-value.true

pub returns-then-value-clause-others : goal.returns-then-value-clause-others
returns-then-value-clause-others c =
    bit_other c.args.bits.now c.args.bit _ true (bit_put c.args.bits.now word_count MAX_POINTS c.args.bit c.requires.words (omega arith) c.requires.within)

pub returns-then-value-clause-kept : goal.returns-then-value-clause-kept
returns-then-value-clause-kept c =
    words_kept c.args.bits.now c.args.bit _ true (bit_put c.args.bits.now word_count MAX_POINTS c.args.bit c.requires.words (omega arith) c.requires.within) word_count

pub returns-else-value-clause-same : goal.returns-else-value-clause-same
returns-else-value-clause-same c =
    bit_same c.args.bits.now c.args.bit _ false (bit_taken c.args.bits.now word_count MAX_POINTS c.args.bit c.requires.words (omega arith) c.requires.within)
    ∙ sym c.if-value.false

pub returns-else-value-clause-others : goal.returns-else-value-clause-others
returns-else-value-clause-others c =
    bit_other c.args.bits.now c.args.bit _ false (bit_taken c.args.bits.now word_count MAX_POINTS c.args.bit c.requires.words (omega arith) c.requires.within)

pub returns-else-value-clause-kept : goal.returns-else-value-clause-kept
returns-else-value-clause-kept c =
    words_kept c.args.bits.now c.args.bit _ false (bit_taken c.args.bits.now word_count MAX_POINTS c.args.bit c.requires.words (omega arith) c.requires.within) word_count
