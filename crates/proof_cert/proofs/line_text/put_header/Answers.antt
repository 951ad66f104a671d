use Rattle.proof_cert.proofs.Common.{◌≡◌, rules, then_put}
use Rattle.proof_cert.proofs.line_text.put_header.Goals as goal

pub returns : goal.returns
returns g c =
    let rows : c.rows.result ≡ c.args.size = search rules in
    then_put (then_put (then_put (then_put (then_put (then_put c.put.ensures (rw c.number.ensures at c.put_decimal.ensures)) c.put-2.ensures) (rw rows at c.put_decimal-2.ensures)) c.put-3.ensures) c.put_letter.ensures) c.put-4.ensures
