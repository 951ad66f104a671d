use Rattle.gtp_core.proofs.Common.{rules, ◌≡◌, ◌-◌, ◌<◌, ◌∷◌, ℕ, List, length, take, drop, sym, ap, ◌∙◌, words_of}
use Rattle.std.proofs.lemmas.List.{length-drop}
use Rattle.std.proofs.Math.Seq.{take-length}
use Rattle.gtp_core.proofs.Orders.{first_taken}
use Rattle.gtp_core.proofs.line.take_word.Goals as goal

pub returns : goal.returns
returns c =
    let text = c.skip_spaces-text.result.now in
    let k = c.word_end-end.result in
    let some : 0 < length text = search rules in
    let all : take (length text - k) (drop k text) ≡ drop k text = rw (← length-drop k text) (take-length (drop k text)) in
    sym c.skip_spaces-text.ensures.words
    ∙ first_taken text k some c.skip_spaces-text.ensures.begins c.word_end-end.ensures.word c.word_end-end.ensures.end
    ∙ ap (λ (rest : List ℕ). take k text ∷ words_of rest) (sym all)
