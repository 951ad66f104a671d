use Rattle.gtp_core.proofs.Common.{rules, ◌≡◌, ◌∷◌, ◌∙◌, Some, vertex_named, words_of, place_at, subst, sym, ap, refl, with_place, with_points, All, IsOn}
use Rattle.go_points.specs.declared.vertex.Vertex.TheVariants.{At}
use Rattle.gtp_core.proofs.Orders.{all_with, point_more}
use Rattle.gtp_core.proofs.order.points_named.Goals as goal

pub loop-word-preserved : goal.loop-word-preserved
loop-word-preserved c =
    let n = c.args.size in
    let p = c.in_ok-point.point in
    let words : words_of c.loop-word.left.now ≡ c.in-Some.word.now ∷ words_of c.in-Some.rest.now = search rules in
    let named : vertex_named c.in-Some.word.now ≡ Some (At c.in-Some-At.column c.in-Some-At.row) = search rules in
    let place : place_at n c.in-Some-At.column c.in-Some-At.row ≡ Some p = search rules in
    let on : IsOn n p = c.in_ok-point.ensures.on_board in
    let more : All (IsOn n) c.insert.new.self = subst (All (IsOn n)) (sym c.insert.ensures) (all_with n c.loop-word.set p on c.loop-word.invariant.1) in
    let step = point_more n c.loop-word.set c.in-Some.word.now (words_of c.in-Some.rest.now) (words_of c.loop-word.left.now) (At c.in-Some-At.column c.in-Some-At.row) c.in-Some-At.column c.in-Some-At.row p words named refl place in
    let set : with_points n c.insert.new.self (words_of c.in-Some.rest.now) ≡ with_points n (with_place c.loop-word.set p) (words_of c.in-Some.rest.now) = ap (λ ps. with_points n ps (words_of c.in-Some.rest.now)) c.insert.ensures in
    (set ∙ step ∙ c.loop-word.invariant.0, more)
