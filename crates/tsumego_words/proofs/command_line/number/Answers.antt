use Rattle.tsumego_words.proofs.Common.{Some, None, option_and_then, sym, ap, ◌∙◌, arith, ParsesUnsigned, found_of, one_text, one_text-rows, number_in}
use Rattle.std.specs.Str.Parse.{ExplainsUnsignedError, HasUnsignedDigitsIfOk}
use Rattle.tsumego_words.proofs.CommandLines.{reads_number, fits_between, not_between}
use Rattle.tsumego_words.proofs.command_line.number.Goals as goal

pub returns-in-Some-clause-value : goal.returns-in-Some-clause-value
returns-in-Some-clause-value c =
    let f = found_of c.args.given.now in
    fits_between c.args.least c.args.most c.in-Some.number (omega (arith, c.if-least-number.true)) (omega (arith, c.if-number-most.true))
    ∙ sym (reads_number (λ bs r. ParsesUnsigned 64 10 bs r × ExplainsUnsignedError 10 bs r × HasUnsignedDigitsIfOk bs r) (λ u x g. g.0) c.args.least c.args.most (one_text f c.args.id.now) (Some c.in-Some.number) c.in-Some.ensures.none c.in-Some.ensures.value)
    ∙ ap (option_and_then (number_in c.args.least c.args.most)) (one_text-rows f c.args.id.now)

pub returns-in_default-clause-value : goal.returns-in_default-clause-value
returns-in_default-clause-value c =
    let f = found_of c.args.given.now in
    not_between c.args.least c.args.most c.in-Some.number (λ low high. omega (arith, low, high, c.if-number-most.false))
    ∙ sym (reads_number (λ bs r. ParsesUnsigned 64 10 bs r × ExplainsUnsignedError 10 bs r × HasUnsignedDigitsIfOk bs r) (λ u x g. g.0) c.args.least c.args.most (one_text f c.args.id.now) (Some c.in-Some.number) c.in-Some.ensures.none c.in-Some.ensures.value)
    ∙ ap (option_and_then (number_in c.args.least c.args.most)) (one_text-rows f c.args.id.now)

pub returns-in_default-2-clause-value : goal.returns-in_default-2-clause-value
returns-in_default-2-clause-value c =
    let f = found_of c.args.given.now in
    not_between c.args.least c.args.most c.in-Some.number (λ low high. omega (arith, low, high, c.if-least-number.false))
    ∙ sym (reads_number (λ bs r. ParsesUnsigned 64 10 bs r × ExplainsUnsignedError 10 bs r × HasUnsignedDigitsIfOk bs r) (λ u x g. g.0) c.args.least c.args.most (one_text f c.args.id.now) (Some c.in-Some.number) c.in-Some.ensures.none c.in-Some.ensures.value)
    ∙ ap (option_and_then (number_in c.args.least c.args.most)) (one_text-rows f c.args.id.now)

pub returns-in_default-3-clause-value : goal.returns-in_default-3-clause-value
returns-in_default-3-clause-value c =
    let f = found_of c.args.given.now in
    sym (reads_number (λ bs r. ParsesUnsigned 64 10 bs r × ExplainsUnsignedError 10 bs r × HasUnsignedDigitsIfOk bs r) (λ u x g. g.0) c.args.least c.args.most (one_text f c.args.id.now) None c.in_default.ensures.none c.in_default.ensures.value)
    ∙ ap (option_and_then (number_in c.args.least c.args.most)) (one_text-rows f c.args.id.now)
