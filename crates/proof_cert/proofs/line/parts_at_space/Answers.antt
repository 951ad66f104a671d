use Rattle.proof_cert.proofs.Common.{sym, ap, ◌∙◌, Some, take, drop, length, ◌-◌, ◌+◌, option_map, Bor, List, ℕ, ◌≡◌, length-drop, take-length}
use Rattle.proof_cert.proofs.Reading.{space_found, space_missing}
use Rattle.proof_cert.proofs.line.parts_at_space.Goals as goal

pub returns-in_err-space : goal.returns-in_err-space
returns-in_err-space c =
    ap (option_map (λ (parts : Bor (List ℕ) × Bor (List ℕ)). (parts.0.now, parts.1.now))) c.from_residual.ensures
    ∙ sym (space_missing c.args.text.now (sym c.place_of_byte.ensures ∙ c.in_err-space.was))

pub returns : goal.returns
returns c =
    let k = c.in_ok-space.space in
    let text = c.args.text.now in
    let all : take (length text - (k + 1)) (drop (k + 1) text) ≡ drop (k + 1) text = rw (← length-drop (k + 1) text) (take-length (drop (k + 1) text)) in
    ap (λ (rest : List ℕ). Some (take k text, rest)) all
    ∙ sym (space_found text k (sym c.place_of_byte.ensures ∙ c.in_ok-space.was))
