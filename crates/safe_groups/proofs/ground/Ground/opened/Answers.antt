use Rattle.safe_groups.proofs.Common.{sym, ◌∙◌, ap, cond, ◌*◌, cell_at, is_outside, opened, area_of}
use Rattle.go_chains.proofs.Boards.{all_empty}
use Rattle.safe_groups.proofs.Opening.{opened_at}
use Rattle.safe_groups.proofs.Grounds.{same_by_points, length-opened}
use Rattle.safe_groups.proofs.ground.Ground.opened.Goals as goal

pub returns-clause-value : goal.returns-clause-value
returns-clause-value c =
    let a = area_of c.args.self.now in let s = c.args.state.now in
    let blank = c.empty.result in
    same_by_points a.size c.patched.result (opened a s) c.patched.ensures.full (length-opened a s)
    (λ p on. c.patched.ensures.cells p on ∙ ap (λ x. cond (is_outside a p) x (cell_at s p)) (ap (λ d. cell_at d p) c.empty.ensures.value ∙ all_empty (c.size.result * c.size.result) p) ∙ sym (opened_at a s p on))
