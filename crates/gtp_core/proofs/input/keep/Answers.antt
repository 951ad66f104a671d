use Rattle.std.proofs.Common.{arith, ◌<◌, ◌∙◌, length, sym}
use Rattle.gtp_core.proofs.Pieces.{keep_full, keep_room}
use Rattle.gtp_core.proofs.input.keep.Goals as goal

pub returns-then-len-eq-MAX_KEPT : goal.returns-then-len-eq-MAX_KEPT
returns-then-len-eq-MAX_KEPT c = keep_full c.args.line.now.items c.args.byte (sym c.len.ensures.value ∙ c.if-len-eq-MAX_KEPT.true)

pub returns : goal.returns
returns c =
    let most = c.len.ensures.fits in
    let other = c.if-len-eq-MAX_KEPT.false in
    let long = c.len.ensures.value in
    let short : length c.args.line.now.items < 4097 = grind (arith, most, other, long) in
    c.push.ensures.items ∙ keep_room c.args.line.now.items c.args.byte short
