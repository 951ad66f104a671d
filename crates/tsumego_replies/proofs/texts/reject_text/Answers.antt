use Rattle.tsumego_replies.proofs.Common.{◌≡◌, ◌++◌, ◌∷◌, [], Some, codes, decimal, string_bytes, Why, why_value, rejected_line_text}
use Rattle.tsumego_replies.proofs.Phrases.{rejected_phrase}
use Rattle.tsumego_replies.proofs.Saying.{said_for}
use Rattle.tsumego_replies.proofs.texts.reject_text.Goals as goal

pub returns : goal.returns
returns c =
    let n = c.args.size in let reject = c.args.reject.now in
    said_for string_bytes (λ (why : Why). why_value n reject.why ≡ Some why) (λ why. rejected_line_text n reject.place why) c.format.result
    (codes "rejected line " ++ (decimal reject.place ++ (codes ": " ++ (string_bytes c.in_ok-why.why ++ 10 ∷ []))))
    c.format.ensures.ok
    (λ why given. rejected_phrase n reject.place why (string_bytes c.in_ok-why.why) (c.in_ok-why.ensures why given))
