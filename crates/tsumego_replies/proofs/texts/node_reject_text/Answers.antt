use Rattle.tsumego_replies.proofs.Common.{◌≡◌, ◌++◌, ◌∷◌, [], Some, codes, decimal, string_bytes, rejected_node_text}
use Rattle.solution_tree.specs.Audit.{Why}
use Rattle.solution_tree.specs.Faults.{why_value}
use Rattle.tsumego_replies.proofs.Phrases.{rejected_node_phrase}
use Rattle.tsumego_replies.proofs.Saying.{said_for}
use Rattle.tsumego_replies.proofs.texts.node_reject_text.Goals as goal

pub returns : goal.returns
returns c =
    let n = c.args.size in let fault = c.args.fault.now in
    said_for string_bytes (λ (why : Why). why_value n fault.why ≡ Some why) (λ why. rejected_node_text n (record { node = fault.node; why = why })) c.format.result
    (codes "rejected node " ++ (decimal fault.node ++ (codes ": " ++ (string_bytes c.in_ok-why.why ++ 10 ∷ []))))
    c.format.ensures.ok
    (λ why given. rejected_node_phrase n fault.node why (string_bytes c.in_ok-why.why) (c.in_ok-why.ensures why given))
