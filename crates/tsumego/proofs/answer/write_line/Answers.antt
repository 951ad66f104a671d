use Rattle.tsumego.proofs.Common.{◌∷◌, [], tree_text}
use Rattle.byte_writer.proofs.TakenLemmas.{front_cut, then_cut}
use Rattle.tsumego.proofs.answer.write_line.Goals as goal

pub returns-in-Ok-clause-cut : goal.returns-in-Ok-clause-cut
returns-in-Ok-clause-cut g c =
    let text = tree_text c.args.tree.now in
    then_cut c.write_bytes.result (g.W.Write.contents c.args.writer.now) (g.W.Write.contents c.write_tree.new.writer) (g.W.Write.contents c.write_bytes.new.writer) text (10 ∷ []) c.in-Ok.ensures.written c.write_bytes.ensures.cut

pub returns-in-Err-clause-cut : goal.returns-in-Err-clause-cut
returns-in-Err-clause-cut g c =
    let text = tree_text c.args.tree.now in
    front_cut (g.W.Write.contents c.args.writer.now) (g.W.Write.contents c.write_tree.new.writer) text (10 ∷ []) c.in-Err.ensures.cut
