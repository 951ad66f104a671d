use Rattle.tsumego_replies.proofs.Common.{◌∙◌, ◌++◌, ◌∷◌, [], sym, ap, codes, decimal, string_bytes, problem_refusal, line}
use Rattle.tsumego_replies.proofs.Phrases.{illegal_phrase}
use Rattle.tsumego_replies.proofs.Saying.{said_so}
use Rattle.tsumego_replies.proofs.texts.problem_refusal.Goals as goal

pub returns-in_ok-cause-in-IllegalTurn : goal.returns-in_ok-cause-in-IllegalTurn
returns-in_ok-cause-in-IllegalTurn c =
    said_so string_bytes c.format-in-IllegalTurn.result
    (codes "refused: problem 9 illegal turn at node " ++ (decimal c.in-IllegalTurn.node ++ (string_bytes c.in_ok-cause-in-IllegalTurn.cause ++ 10 ∷ []))) (line (problem_refusal c.args.fault))
    c.format-in-IllegalTurn.ensures.ok
    (illegal_phrase c.in-IllegalTurn.node c.in-IllegalTurn.cause (string_bytes c.in_ok-cause-in-IllegalTurn.cause) c.in_ok-cause-in-IllegalTurn.ensures ∙ ap (λ f. line (problem_refusal f)) (sym c.in-IllegalTurn.is))
