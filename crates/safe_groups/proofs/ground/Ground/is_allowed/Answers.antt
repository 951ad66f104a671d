use Rattle.safe_groups.proofs.Common.{◌≡◌, sym, ◌∙◌, ap, subst, map, side_of, number_of, holds_point, IsOn}
use Rattle.target_game.proofs.Playing.{holds_numbered}
use Rattle.safe_groups.proofs.ground.Ground.is_allowed.Goals as goal

pub returns : goal.returns
returns c = λ held answers.
    let n = side_of c.args.self.now.cells in let p = c.point_at.result in
    let on : IsOn n p = subst (λ m. IsOn m p) c.size.ensures.value c.point_at.ensures.on_board in
    let back : number_of n p ≡ c.args.number = ap (λ m. number_of m p) (sym c.size.ensures.value) ∙ c.point_at.ensures.number_back in
    ap (holds_point (map (number_of n) c.args.region.now)) (sym back) ∙ holds_numbered n c.args.region.now p c.requires.region on ∙ sym c.has.ensures ∙ held
