use Rattle.solution_tree.proofs.Common.{ap, ◌∙◌, turns_due, missing}
use Rattle.target_game.proofs.Due.{turns_begun}
use Rattle.solution_tree.proofs.questions.missing_reply.Goals as goal

pub loop-turn-init : goal.loop-turn-init
loop-turn-init c given had =
    let s = c.args.state.now.state in
    ap (missing given) (ap (turns_due s) c.all-turns_left.ensures ∙ turns_begun s)
