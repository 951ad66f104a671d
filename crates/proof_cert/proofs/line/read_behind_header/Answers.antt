use Rattle.proof_cert.proofs.Common.{sym, ap, ◌∙◌, Option, option_map, Line, line_value, line_of, no_header, or_else}
use Rattle.proof_cert.proofs.line.read_behind_header.Goals as goal

pub returns-in-None : goal.returns-in-None
returns-in-None c =
    let n = c.args.size in
    c.without_header.ensures n ∙ ap no_header c.from_text.ensures
    ∙ ap (λ (o : Option Line). or_else o (no_header (line_of n c.args.text.now))) (sym (ap (option_map (line_value n)) c.in-None.is) ∙ c.read_alive.ensures n)
