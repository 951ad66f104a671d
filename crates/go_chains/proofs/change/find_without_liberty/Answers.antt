use Rattle.go_chains.proofs.Common.{rules, ◌≡◌, ◌*◌, ◌<◌, ℕ, sym, ◌∙◌, ap, arith, side_of, number_of, first_none}
use Rattle.std.proofs.Common.{Some}
use Rattle.go_points.proofs.Liberties.{first_found}
use Rattle.go_chains.proofs.change.find_without_liberty.Goals as goal

pub returns-then-lacks_liberty-clause-found : goal.returns-then-lacks_liberty-clause-found
returns-then-lacks_liberty-clause-found c =
    let cells = c.args.colouring.now in
    let n = side_of cells in
    let i = c.loop-number.number in
    let at : number_of n c.point_at.result ≡ i = ap (λ (m : ℕ). number_of m c.point_at.result) (sym c.size-size.ensures.value) ∙ c.point_at.ensures.number_back in
    let on : i < n * n = search rules in
    first_found n cells i on c.loop-number.invariant (sym c.lacks_liberty.ensures ∙ c.if-lacks_liberty.true) ∙ ap Some (sym at)

pub returns-clause-none : goal.returns-clause-none
returns-clause-none c =
    let n = side_of c.args.colouring.now in
    let done : c.loop-number.number ≡ n * n = search rules in
    first_none n c.args.colouring.now (λ q on. c.loop-number.invariant q (omega (arith, on, done)))
