use Rattle.proof_cert.proofs.Common.{sym, ap, ◌∙◌, option_map, Bor, List, ℕ, codes, main_line, after_word}
use Rattle.proof_cert.proofs.Chains.{line_tsucert, not_whole, other_none}
use Rattle.proof_cert.proofs.Reading.{none_there}
use Rattle.proof_cert.proofs.line.read_other_line.Goals as goal

pub returns-in-Some : goal.returns-in-Some
returns-in-Some c =
    c.read_header.ensures c.args.size
    ∙ sym (line_tsucert c.args.size c.args.text.now c.in-Some.rest.now (sym c.behind_word.ensures ∙ ap (option_map (λ (r : Bor (List ℕ)). r.now)) c.in-Some.is))

pub returns : goal.returns
returns c =
    sym (other_none c.args.size c.args.text.now
    (none_there c.behind_word.result _ c.in_default.not-Some c.behind_word.ensures)
    (none_there c.behind_word-2.result _ c.in_default-behind_word.not-Some c.behind_word-2.ensures)
    (none_there c.behind_word-3.result _ c.in_default-behind_word-2.not-Some c.behind_word-3.ensures)
    (none_there c.behind_word-4.result _ c.in_default-behind_word-3.not-Some c.behind_word-4.ensures)
    (not_whole main_line (after_word (codes "main") c.args.text.now) (sym c.is_word.ensures ∙ c.if-is_word.false)))
