use Rattle.safe_groups.proofs.Common.{◌≡◌, sym, ◌∙◌, ap, subst, map, side_of, number_of, holds_point, IsOn}
use Rattle.target_game.proofs.Playing.{holds_numbered}
use Rattle.dead_groups.proofs.kill.target_at.Goals as goal

pub returns-then-has : goal.returns-then-has
returns-then-has c = λ is.
    let n = c.args.problem.now.game.size in let p = c.point_at.result in let points = c.targets.result.now in let number = c.args.number in
    let same : c.size.result ≡ n = c.size.ensures.value ∙ sym c.requires.size in
    let on : IsOn n p = subst (λ m. IsOn m p) same c.point_at.ensures.on_board in
    let back : number_of n p ≡ number = ap (λ m. number_of m p) (sym same) ∙ c.point_at.ensures.number_back in
    ap (λ l. holds_point l number) (sym c.targets.ensures.value) ∙ ap (holds_point (map (number_of n) points)) (sym back) ∙ holds_numbered n points p c.targets.ensures.on_board on ∙ sym c.has.ensures ∙ c.if-has.true
