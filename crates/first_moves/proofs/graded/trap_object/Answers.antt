use Rattle.first_moves.proofs.Common.{◌∙◌, ap, string_bytes}
use Rattle.first_moves.specs.Graded.{trap_object, trap_text}
use Rattle.first_moves.specs.Json.{quoted_turns}
use Rattle.first_moves.specs.Text.{turn_text}
use Rattle.first_moves.proofs.Listing.{said_so}
use Rattle.first_moves.proofs.graded.trap_object.Goals as goal

pub returns : goal.returns
returns c =
    let names = c.args.names.now in let trap = c.args.trap.now in let turns = string_bytes c.in_ok-turns.turns in
    said_so string_bytes c.format.result (trap_text (string_bytes c.in_ok-turn.turn) turns) (trap_object names trap) c.format.ensures.ok
    (ap (λ x. trap_text x turns) c.in_ok-turn.ensures
    ∙ ap (λ x. trap_text (turn_text names trap.turn) x) (c.in_ok-turns.ensures ∙ ap (quoted_turns names) c.as_slice.ensures.value))
