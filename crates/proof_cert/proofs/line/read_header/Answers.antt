use Rattle.proof_cert.proofs.Common.{rules, ap, ◌∙◌, ◌≡◌, ◌-◌, List, ℕ, refl, take, drop, length, length-drop, take-length, header_rest}
use Rattle.proof_cert.proofs.Reading.{header_by}
use Rattle.proof_cert.proofs.line.read_header.Goals as goal

behind_two : (text : List ℕ) → take (length text - 2) (drop 2 text) ≡ drop 2 text
behind_two text = rw (← length-drop 2 text) (take-length (drop 2 text))

pub returns-in-49 : goal.returns-in-49
returns-in-49 c n =
    c.read_header_rest.ensures n ∙ ap (header_rest 1) (behind_two c.args.text.now)
    ∙ header_by c.args.text.now 49 1 (search rules) (search rules) (search rules) refl refl

pub returns-in-50 : goal.returns-in-50
returns-in-50 c n =
    c.read_header_rest-in-50.ensures n ∙ ap (header_rest 2) (behind_two c.args.text.now)
    ∙ header_by c.args.text.now 50 2 (search rules) (search rules) (search rules) refl refl
