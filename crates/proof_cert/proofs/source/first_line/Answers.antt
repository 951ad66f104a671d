use Rattle.proof_cert.proofs.Common.{◌+◌, ◌∷◌, ◌∙◌, sym, ap, drop, Option, None, option_map, Line, line_value, lines, rest_is}
use Rattle.proof_cert.proofs.Pieces.{first_read, unended_read, rest_none}
use Rattle.proof_cert.proofs.source.first_line.Goals as goal

pub returns-in-Some-clause-lines : goal.returns-in-Some-clause-lines
returns-in-Some-clause-lines c =
    let n = c.args.size in
    let text = c.args.text.now in
    let k = c.in-Some.end in
    first_read n text k (sym c.place_of_byte.ensures ∙ c.in-Some.is)
    ∙ ap (λ (l : Option Line). l ∷ lines n (drop (k + 1) text)) (sym c.from_text.ensures)
    ∙ ap (λ rest. option_map (line_value n) c.from_text.result ∷ lines n rest) (sym (rest_is text (k + 1)))

pub returns-in-None-clause-lines : goal.returns-in-None-clause-lines
returns-in-None-clause-lines c =
    let n = c.args.size in
    let text = c.args.text.now in
    unended_read n text (sym c.place_of_byte.ensures ∙ c.in-None.is) c.requires
    ∙ ap (λ rest. None ∷ lines n rest) (sym (rest_none text))
