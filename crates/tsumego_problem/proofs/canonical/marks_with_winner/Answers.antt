use Rattle.tsumego_problem.proofs.Common.{ap, ap₂, ◌∙◌, ◌++◌, ◌∷◌, [], codes, is_node, property}
use Rattle.tsumego_problem.proofs.NodesMade.{winner_is_node}
use Rattle.tsumego_problem.proofs.canonical.marks_with_winner.Goals as goal

pub node_of-requires : goal.node_of-requires
node_of-requires c =
    ap is_node (c.in_ok-push_one.ensures ∙ ap₂ (λ ps text. ps ++ property (codes "C") (text ∷ [])) c.in_ok-properties.ensures c.verdict_text.ensures) ∙ winner_is_node c.args.problem.now c.args.winner
