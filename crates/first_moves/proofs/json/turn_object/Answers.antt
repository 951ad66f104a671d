use Rattle.first_moves.proofs.Common.{◌∙◌, ap, string_bytes}
use Rattle.first_moves.specs.Json.{object_from, object_of}
use Rattle.first_moves.specs.Text.{turn_text, worth_text}
use Rattle.first_moves.proofs.Listing.{said_so}
use Rattle.first_moves.proofs.json.turn_object.Goals as goal

pub returns : goal.returns
returns c =
    let names = c.args.names.now in let f = c.args.one.now in let after = c.args.after.now in
    let turn = string_bytes c.in_ok-name.name in let worth = c.worth_name-worth.result.now in
    let refutation = string_bytes c.in_ok-refutation.refutation in
    said_so string_bytes c.format.result (object_of after turn worth refutation) (object_from after names f) c.format.ensures.ok
    (ap (λ x. object_of after x worth refutation) c.in_ok-name.ensures
    ∙ ap (λ x. object_of after (turn_text names f.turn) x refutation) c.worth_name-worth.ensures
    ∙ ap (λ x. object_of after (turn_text names f.turn) (worth_text f.judged) x) c.in_ok-refutation.ensures)
