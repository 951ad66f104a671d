use Rattle.tsumego_replies.proofs.Common.{◌++◌, ◌∷◌, [], codes, decimal, string_bytes, unknown_text}
use Rattle.tsumego_replies.proofs.Phrases.{unknown_phrase}
use Rattle.tsumego_replies.proofs.Saying.{said_so}
use Rattle.tsumego_replies.proofs.texts.unknown_text.Goals as goal

pub returns : goal.returns
returns c =
    said_so string_bytes c.format.result (codes "unknown: " ++ (c.search_cause-cause.result.now ++ (codes ", " ++ (decimal c.args.steps ++ (codes " steps" ++ 10 ∷ []))))) (unknown_text c.args.cause c.args.steps)
    c.format.ensures.ok
    (unknown_phrase c.args.cause c.args.steps c.search_cause-cause.result.now c.search_cause-cause.ensures)
