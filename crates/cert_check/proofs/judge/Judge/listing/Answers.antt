use Rattle.cert_check.proofs.Common.{option_map, sym, ap, ◌∙◌, line_value}
use Rattle.cert_check.specs.Parts.{listed_value}
use Rattle.cert_check.proofs.Steps.{takes_as}
use Rattle.cert_check.proofs.Judging.{first_line}
use Rattle.cert_check.proofs.judge.Judge.listing.Goals as goal

pub returns-in-None : goal.returns-in-None
returns-in-None c =
    let j = c.args.self.now in
    let l = line_value j.problem.now.game.size c.args.line.now in
    let none = sym (c.listed_of.ensures j.problem.now.game.size) ∙ ap (option_map listed_value) c.in-None.is in
    takes_as j c.node.new.self _ _ c.node.result (sym (first_line c.args.alive j l c.requires.ready none)) c.node.ensures
