use Rattle.std.proofs.Common.{slice_index, List, ℕ, ap, ◌∙◌}
use Rattle.stone_key.proofs.Table.{table}
use Rattle.stone_key.proofs.Drawn.{drawn_at}
use Rattle.stone_key.proofs.words.word.Goals as goal

pub returns : goal.returns
returns c = ap (λ (l : List ℕ). slice_index l c.args.number) table ∙ drawn_at c.args.number c.requires
