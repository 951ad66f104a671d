use Rattle.gtp_core.proofs.Common.{rules, ◌≡◌, ◌∙◌, [], ◌∷◌, Some, ap, sym, with_points, words_of}
use Rattle.gtp_core.proofs.Orders.{whole_is, whole_region}
use Rattle.gtp_core.proofs.Sound.{some_named}
use Rattle.gtp_core.proofs.order.region_order.Goals as goal

pub returns-in-None-clause-value : goal.returns-in-None-clause-value
returns-in-None-clause-value c =
    let none : words_of c.args.words.now ≡ [] = search rules in
    whole_region c.args.size c.all_points.result (words_of c.args.words.now) none (whole_is c.args.size c.all_points.result c.all_points.ensures.value c.all_points.ensures.on_board)

pub returns-in-Some-points_named-clause-fits : goal.returns-in-Some-points_named-clause-fits
returns-in-Some-points_named-clause-fits c =
    let n = c.args.size in
    let set = c.in-Some-points_named.set in
    let word = c.in-Some.field-0.0.now in
    let rest = words_of c.in-Some.field-0.1.now in
    let named : with_points n [] (word ∷ rest) ≡ Some set =
    ap (with_points n []) (sym c.in-Some.ensures) ∙ sym c.points_named.ensures.value ∙ c.in-Some-points_named.is in
    (c.in-Some-points_named.ensures.on_board, some_named n set word rest named)
