use Rattle.proof_cert.proofs.Common.{decimal, arith, decimal_digit, put_as, then_put}
use Rattle.std.proofs.lemmas.Fmt.{decimal_step}
use Rattle.proof_cert.proofs.line_text.+put_decimal.Goals as goal

pub returns-then-number-lt10 : goal.returns-then-number-lt10
returns-then-number-lt10 g t c = put_as (decimal c.args.number) (decimal_digit c.args.number c.if-number-lt10.true) c.put.ensures

pub returns : goal.returns
returns g t c = put_as (decimal c.args.number) (decimal_step c.args.number (omega arith) c.ranges.number.fits) (then_put c.put_decimal.ensures c.put-2.ensures)
