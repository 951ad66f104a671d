use Rattle.proof_cert.proofs.line_text.+put_decimal.Given as goal

abbrev pub decreases-put_decimal : goal.decreases-put_decimal
decreases-put_decimal g a = a.number
