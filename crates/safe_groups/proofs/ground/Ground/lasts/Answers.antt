use Rattle.safe_groups.proofs.Common.{◌≡◌, sym, ◌∙◌, ap, inl, inr, subst, IsTrue, side_of, number_of, holds_place, area_of, IsOn}
use Rattle.safe_groups.specs.Private.Liberties.{NeedsNone}
use Rattle.safe_groups.proofs.Beside.{first_held, joined_first, joined_more, more_at, empty_found}
use Rattle.safe_groups.proofs.ground.Ground.lasts.Goals as goal

pub number-requires : goal.number-requires
number-requires c =
    let held : IsTrue (holds_place c.loop.waiting c.in-Some.point) = first_held c.loop.waiting c.in-Some.point (sym c.in-Some.ensures.value) in
    subst (λ m. IsOn m c.in-Some.point) (sym (c.size-size.ensures.value ∙ c.requires.side)) (c.loop.invariant c.in-Some.point held).0

pub returns-then-needs_none : goal.returns-then-needs_none
returns-then-needs_none c = λ yes.
    let g = c.args.self.now in let n = side_of g.cells in let x = c.in-Some.point in
    let held : IsTrue (holds_place c.loop.waiting x) = first_held c.loop.waiting x (sym c.in-Some.ensures.value) in
    let at : c.number.result ≡ number_of n x = c.number.ensures.value ∙ ap (λ m. number_of m x) (c.size-size.ensures.value ∙ c.requires.side) in
    inr (number_of n x, subst (NeedsNone (area_of g) c.args.state.now) at (c.needs_none.ensures c.if-needs_none.true), (c.loop.invariant x held).1)

pub meets_empty-requires : goal.meets_empty-requires
meets_empty-requires c =
    let held : IsTrue (holds_place c.loop.waiting c.in-Some.point) = first_held c.loop.waiting c.in-Some.point (sym c.in-Some.ensures.value) in
    subst (λ m. IsOn m c.in-Some.point) (sym c.requires.side) (c.loop.invariant c.in-Some.point held).0

pub returns-then-meets_empty : goal.returns-then-meets_empty
returns-then-meets_empty c = λ yes.
    let g = c.args.self.now in let x = c.in-Some.point in
    let held : IsTrue (holds_place c.loop.waiting x) = first_held c.loop.waiting x (sym c.in-Some.ensures.value) in
    inl (empty_found (side_of g.cells) (side_of c.args.state.now) c.args.state.now c.args.number x c.requires.side c.requires.stone (c.loop.invariant x held).1 (c.meets_empty.ensures.empty c.if-meets_empty.true))

pub loop-preserved : goal.loop-preserved
loop-preserved c =
    let s = c.args.state.now in let n = side_of c.args.self.now.cells in let x = c.in-Some.point in let now = c.loop.waiting in
    joined_more n s c.args.number now c.meets_empty.new.waiting x (sym c.in-Some.ensures.value) c.loop.invariant (more_at n (side_of s) s x now c.remove.new.self c.meets_empty.new.waiting c.requires.side c.remove.ensures c.meets_empty.ensures.waiting)
