use Rattle.tsumego_words.proofs.Common.{Some, None, codes, ap, ◌∙◌, false, option_map_or, bytes_eq, found_of, one_text, one_text-rows}
use Rattle.tsumego_words.proofs.CommandLines.{reads_flag}
use Rattle.tsumego_words.proofs.command_line.flag.Goals as goal

pub returns-in-Some : goal.returns-in-Some
returns-in-Some c =
    let f = found_of c.args.given.now in
    reads_flag (Unit {0}) (one_text f c.args.id.now) (Some c.in-Some.on) c.in-Some.ensures.none c.in-Some.ensures.value
    ∙ ap (λ o. option_map_or (λ text. bytes_eq text (codes "true")) o false) (one_text-rows f c.args.id.now)

pub returns-in-None : goal.returns-in-None
returns-in-None c =
    let f = found_of c.args.given.now in
    reads_flag _ (one_text f c.args.id.now) None c.in-None.ensures.none c.in-None.ensures.value
    ∙ ap (λ o. option_map_or (λ text. bytes_eq text (codes "true")) o false) (one_text-rows f c.args.id.now)
