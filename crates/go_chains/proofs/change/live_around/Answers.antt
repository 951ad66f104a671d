use Rattle.go_chains.proofs.Common.{◌≡◌, ℕ, map, take, sym, ◌∙◌, ap, subst, take_all, neighbours, side_of, number_of, neighbours_member, IsIn}
use Rattle.go_chains.proofs.Counts.{member_in}
use Rattle.go_chains.proofs.change.live_around.Goals as goal

pub returns : goal.returns
returns c = λ yes.
    let n = side_of c.args.colouring.now in
    let p = c.args.number in
    let s = c.size-size.result in
    let items = c.as_slice-neighbour-items.result.now in
    let all : take c.loop-neighbour.neighbour-index items ≡ items = take_all c.loop-neighbour.neighbour-index items c.loop-neighbour-test.false in
    let those : map (number_of n) (take c.loop-neighbour.neighbour-index items) ≡ neighbours n p =
    ap (map (number_of n)) (all ∙ c.as_slice-neighbour-items.ensures.value)
    ∙ subst (λ (m : ℕ). map (number_of m) c.neighbours-neighbours.result.items ≡ neighbours m p) c.size-size.ensures.value (c.neighbours-neighbours.ensures.exact ∙ ap (neighbours s) c.point_at.ensures.number_back) in
    record {
      here = sym c.lacks_liberty.ensures ∙ c.if-lacks_liberty.false;
      beside = λ q adj. c.loop-neighbour.invariant q (subst (IsIn q) (sym those) (member_in q (neighbours n p) (neighbours_member n p q adj)));
    }
