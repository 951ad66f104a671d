use Rattle.proof_cert.proofs.Common.{sym, ap, ◌∙◌, option_map, Bor, List, ℕ, option_and_then, header_rest}
use Rattle.proof_cert.proofs.line.read_short_header.Goals as goal

pub returns-in-Some : goal.returns-in-Some
returns-in-Some c n =
    c.read_header_rest.ensures n
    ∙ ap (option_and_then (header_rest 2)) (sym (ap (option_map (λ (r : Bor (List ℕ)). r.now)) c.in-Some.is) ∙ c.behind_word.ensures)
