use Rattle.proof_cert.proofs.Common.{sym, ◌∙◌, codes, won_line, end_line, after_word}
use Rattle.proof_cert.proofs.Chains.{body_none, not_whole}
use Rattle.proof_cert.proofs.Reading.{none_there}
use Rattle.proof_cert.proofs.body_line.read_body_line.Goals as goal

pub returns : goal.returns
returns c =
    sym (body_none c.args.size c.args.text.now
    (none_there c.behind_word.result _ c.in_default.not-Some c.behind_word.ensures)
    (none_there c.behind_word-2.result _ c.in_default-behind_word.not-Some c.behind_word-2.ensures)
    (none_there c.behind_word-3.result _ c.in_default-behind_word-2.not-Some c.behind_word-3.ensures)
    (not_whole won_line (after_word (codes "won") c.args.text.now) (sym c.is_word.ensures ∙ c.if-is_word.false))
    (none_there c.behind_word-4.result _ c.in_default-behind_word-3.not-Some c.behind_word-4.ensures)
    (not_whole end_line (after_word (codes "end") c.args.text.now) (sym c.is_word-2.ensures ∙ c.if-is_word-2.false)))
