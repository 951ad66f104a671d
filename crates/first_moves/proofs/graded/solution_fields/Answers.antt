use Rattle.first_moves.proofs.Common.{◌≡◌, ◌∙◌, ap, length, rules, string_bytes}
use Rattle.first_moves.specs.Graded.{solution_fields, solution_text}
use Rattle.first_moves.specs.Json.{quoted_turns}
use Rattle.first_moves.proofs.Listing.{said_so}
use Rattle.first_moves.proofs.graded.solution_fields.Goals as goal

pub returns : goal.returns
returns c =
    let names = c.args.names.now in let lesson = c.args.lesson.now in let turns = string_bytes c.in_ok-turns.turns in
    let all = quoted_turns names lesson.solution.turns.items in let depth = length lesson.solution.turns.items in
    let is_depth : c.len-depth.result ≡ depth = search rules in
    let are_traps : c.len-traps.result ≡ length lesson.traps.items = search rules in
    said_so string_bytes c.format.result (solution_text turns c.len-depth.result c.len-traps.result) (solution_fields names lesson) c.format.ensures.ok
    (ap (λ x. solution_text x c.len-depth.result c.len-traps.result) (c.in_ok-turns.ensures ∙ ap (quoted_turns names) c.as_slice.ensures.value)
    ∙ ap (λ x. solution_text all x c.len-traps.result) is_depth ∙ ap (λ x. solution_text all depth x) are_traps)
