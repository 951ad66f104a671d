use Rattle.safe_groups.proofs.Common.{◌≡◌, ◌*◌, ◌∙◌, sym, ap, subst, length, side_of, clear_loose, area_of, LastBeside}
use Rattle.safe_groups.proofs.Opening.{length-clear_loose}
use Rattle.safe_groups.proofs.Lasting.{answer_clear}
use Rattle.safe_groups.proofs.ground.Ground.after_next_answer.Goals as goal

pub returns-then-last_beside-clause-value : goal.returns-then-last_beside-clause-value
returns-then-last_beside-clause-value c =
    let a = area_of c.args.self.now in let s = c.args.state.now in
    let full : length s ≡ side_of c.args.self.now.cells * side_of c.args.self.now.cells = ap length (sym c.requires.clear) ∙ length-clear_loose a s in
    answer_clear a s c.with_own-placed.result c.args.number full c.requires.within c.requires.clear c.requires.free c.with_own-placed.ensures.value (subst (LastBeside a c.with_own-placed.result c.args.number) c.theirs.ensures (c.last_beside.ensures c.if-last_beside.true))
