use Rattle.proof_cert.proofs.Common.{sym, ap, ◌∙◌, Option, option_map, codes, Line, use_line, line_value, after_word, at_end, line_of, no_header, or_else}
use Rattle.proof_cert.proofs.line.Line.from_short_text.Goals as goal

pub returns-in-None : goal.returns-in-None
returns-in-None c =
    let n = c.args.size in
    let text = c.args.text.now in
    c.read_behind_header.ensures
    ∙ ap (λ (o : Option Line). or_else o (or_else (at_end (use_line 0) (after_word (codes "alive") text)) (no_header (line_of n text)))) (sym (ap (option_map (line_value n)) c.in-None.is) ∙ c.read_short_header.ensures n)
