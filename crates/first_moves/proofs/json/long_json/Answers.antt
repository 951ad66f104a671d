use Rattle.first_moves.proofs.Common.{◌≡◌, ◌∙◌, ◌++◌, [], ap, rules, string_bytes}
use Rattle.first_moves.specs.Json.{later_objects, line_object, solution_object, turn_objects}
use Rattle.first_moves.proofs.Listing.{put_four}
use Rattle.first_moves.proofs.json.long_json.Goals as goal

pub returns : goal.returns
returns c =
    let names = c.args.names.now in let found = c.args.found.now in let line = c.args.line.now in
    let turns = turn_objects names [] found in let later = later_objects names line.later.items in
    let last = string_bytes c.in_ok-last.last in let said = string_bytes c.in_ok-said.said in
    let with_turns : string_bytes c.push_objects.new.text ≡ string_bytes c.new-text.result ++ turns = search rules in
    let with_later : string_bytes c.push_later.new.text ≡ string_bytes c.push_objects.new.text ++ later = search rules in
    let with_last : string_bytes c.push_text.new.text ≡ string_bytes c.push_later.new.text ++ last = search rules in
    let with_said : string_bytes c.push_text-2.new.text ≡ string_bytes c.push_text.new.text ++ said = search rules in
    let is_last : last ≡ solution_object found = search rules in
    let is_said : said ≡ line_object c.line_solution.result line.is_whole = search rules in (
      c.line_solution.result,
      search rules,
      put_four _ _ _ _ _ turns later last said c.new-text.ensures.bytes with_turns with_later with_last with_said
          ∙ ap (λ x. turns ++ (later ++ (x ++ said))) is_last
          ∙ ap (λ x. turns ++ (later ++ (solution_object found ++ x))) is_said,
    )
