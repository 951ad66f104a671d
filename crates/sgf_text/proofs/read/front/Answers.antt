use Rattle.sgf_text.proofs.Common.{◌≡◌, ap, ◌∙◌, take, length, arith, byte_limit}
use Rattle.std.specs.Prelude.{min}
use Rattle.std.proofs.lemmas.List.{take_min}
use Rattle.sgf_text.proofs.read.front.Goals as goal

pub returns : goal.returns
returns c =
    let flipped : c.min.result ≡ min byte_limit (length c.args.text.now) = omega arith in
    ap (λ n. take n c.args.text.now) flipped ∙ take_min byte_limit c.args.text.now
