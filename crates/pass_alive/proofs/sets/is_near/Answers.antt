use Rattle.pass_alive.proofs.Common.{◌≡◌, true, false, List, map, take, refl, sym, ◌∙◌, ap, subst, All, list_any, take_all, adjacent, neighbours, Place, IsOn, number_of, holds_place, item_beside, these}
use Rattle.go_turns.proofs.Openings.{place_back}
use Rattle.pass_alive.proofs.Tests.{near_yes, near_no}
use Rattle.pass_alive.proofs.sets.is_near.Goals as goal

pub returns-then-has : goal.returns-then-has
returns-then-has c =
    let n = c.args.size in
    let set = c.args.set.now in
    let p = number_of n c.args.point in
    let x = c.neighbour-item.result in
    let items = c.as_slice-neighbour-items.result.now in
    let value = c.as_slice-neighbour-items.ensures.value in
    let i = c.loop-neighbour.neighbour-index in
    let those : map (number_of n) items ≡ neighbours n p = ap (map (number_of n)) value ∙ c.neighbours-neighbours.ensures.exact in
    let adj : adjacent n p (number_of n x) ≡ true = item_beside (number_of n) items i x c.loop-neighbour-test.true c.neighbour-item.is n p those in
    let inside : All (IsOn n) items = subst (λ (l : List Place). All (IsOn n) l) (sym value) c.neighbours-neighbours.ensures.on_board in
    let on : IsOn n x = subst (IsOn n) (sym c.neighbour-item.is) (inside i x c.loop-neighbour-test.true) in
    let held : these n set (number_of n x) ≡ true = ap (holds_place set) (place_back n x on) ∙ sym c.has.ensures ∙ c.if-has.true in
    near_yes n (these n set) p (number_of n x) adj held true refl

pub returns : goal.returns
returns c =
    let n = c.args.size in
    let set = c.args.set.now in
    let p = number_of n c.args.point in
    let items = c.as_slice-neighbour-items.result.now in
    let value = c.as_slice-neighbour-items.ensures.value in
    let those : map (number_of n) items ≡ neighbours n p = ap (map (number_of n)) value ∙ c.neighbours-neighbours.ensures.exact in
    let inside : All (IsOn n) items = subst (λ (l : List Place). All (IsOn n) l) (sym value) c.neighbours-neighbours.ensures.on_board in
    let all : take c.loop-neighbour.neighbour-index items ≡ items = take_all c.loop-neighbour.neighbour-index items c.loop-neighbour-test.false in
    let none : list_any (holds_place set) items ≡ false = sym (ap (list_any (holds_place set)) all) ∙ c.loop-neighbour.invariant in
    near_no n set items p those inside none false refl
