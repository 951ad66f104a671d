use Rattle.std.proofs.Common.{map, sym, ◌∙◌}
use Rattle.clap.specs.Words.{app_of}
use Rattle.tsumego_words.proofs.CommandLines.{command_found, command_faulty, no_command_faulty, error_faulty}
use Rattle.tsumego_words.proofs.command_line.read_command.Goals as goal

pub returns-in-Some-clause-ok : goal.returns-in-Some-clause-ok
returns-in-Some-clause-ok g c =
    let found = c.in-Ok-try_get_matches_from in
    command_found (app_of c.in-Ok.command) (map g.S.AsStr.text c.args.words.now) found.matches c.in-Ok.ensures found.ensures.matches found.ensures.kinds
    ∙ sym c.chosen.ensures.value ∙ c.in-Some.is

pub returns-in-Ok-try_get_matches_from-clause-refused : goal.returns-in-Ok-try_get_matches_from-clause-refused
returns-in-Ok-try_get_matches_from-clause-refused g c =
    let found = c.in-Ok-try_get_matches_from in
    λ _. command_found (app_of c.in-Ok.command) (map g.S.AsStr.text c.args.words.now) found.matches c.in-Ok.ensures found.ensures.matches found.ensures.kinds
    ∙ sym c.chosen.ensures.value ∙ c.in-None.is

pub returns-clause-refused : goal.returns-clause-refused
returns-clause-refused g c =
    λ faulty. command_faulty (app_of c.in-Ok.command) (map g.S.AsStr.text c.args.words.now) c.in-Err.error c.in-Ok.ensures c.in-Err.ensures.kinds (c.fault.ensures faulty)

pub returns-in-Ok-try_get_matches_from-clause-fault : goal.returns-in-Ok-try_get_matches_from-clause-fault
returns-in-Ok-try_get_matches_from-clause-fault g c =
    let found = c.in-Ok-try_get_matches_from in
    λ _. no_command_faulty (map g.S.AsStr.text c.args.words.now)
    (command_found (app_of c.in-Ok.command) (map g.S.AsStr.text c.args.words.now) found.matches c.in-Ok.ensures found.ensures.matches found.ensures.kinds ∙ sym c.chosen.ensures.value ∙ c.in-None.is)

pub returns-clause-fault : goal.returns-clause-fault
returns-clause-fault g c =
    λ faulty. error_faulty (app_of c.in-Ok.command) (map g.S.AsStr.text c.args.words.now) c.in-Err.error c.in-Ok.ensures c.in-Err.ensures.kinds (c.fault.ensures faulty)
