use Rattle.target_game.proofs.Common.{◌≡◌, ◌+◌, ◌*◌, ℕ, map, Some, refl, sym, ap, ◌∙◌, subst, arith, All, Empty, same_cell, cell_at, Place, IsOn, number_of, Line}
use Rattle.target_game.proofs.OpenPoints.{onward_inside, onward_outside}
use Rattle.target_game.proofs.Due.{IsNextInside, none_joined, none_more, none_yet, at_stone}
use Rattle.target_game.proofs.state.State.open_after.Given.{Over}
use Rattle.target_game.proofs.state.State.open_after.Goals as goal
use Rattle.target_game.proofs.state.State.open_after.Goals.{After-first_after, After-is_empty}
use Rattle.go_points.proofs.Sides.{number_below}

pub loop-next-init : goal.loop-next-init
loop-next-init g c = record {
  on_board = c.requires;
  later = omega arith;
  none = none_yet c.args.self.now.state (number_of c.args.self.now.state.game.size c.args.point + 1);
}

-- what is found from the last point on
module _ (g : Over) (c : After-first_after g) where
  region_is : c.args.self.now.state.game.region ≡ map (number_of c.args.self.now.state.game.size) c.self.inside.region
  region_is = subst (λ (v : Line). v.state.game.region ≡ map (number_of v.state.game.size) c.self.inside.region) c.self.view_is refl

  region_on : All (IsOn c.args.self.now.state.game.size) c.self.inside.region
  region_on = subst (λ (v : Line). All (IsOn v.state.game.size) c.self.inside.region) c.self.view_is c.self.invariant.1

  found : (p : Place) → c.first_after.result ≡ Some p → IsNextInside c.args.self.now.state (number_of c.args.self.now.state.game.size c.loop-next.last + 1) p
  found p is = onward_inside c.args.self.now.state c.self.inside.region c.loop-next.last p c.first_after.result region_is region_on (omega (arith, c.area.ensures.most, c.size.ensures)) c.loop-next.invariant.on_board c.first_after.ensures is

pub cell-requires : goal.cell-requires
cell-requires g c = subst (λ (v : Line). IsOn v.state.game.size c.in-Some.next) (sym c.self.view_is) (found g (goal.at.cell-requires g c).After-first_after c.in-Some.next c.in-Some.is).on_board

-- whether the point is empty
told : (g : Over) (c : After-is_empty g) → c.is_empty.result ≡ same_cell (cell_at c.args.self.now.state.colouring (number_of c.args.self.now.state.game.size c.in-Some.next)) Empty
told g c = c.is_empty.ensures ∙ ap (λ a. same_cell a Empty) c.cell.ensures ∙ ap (λ (v : Line). same_cell (cell_at v.state.colouring (number_of v.state.game.size c.in-Some.next)) Empty) c.self.view_is

pub returns-then-is_empty-clause-some : goal.returns-then-is_empty-clause-some
returns-then-is_empty-clause-some g c =
    let s = c.args.self.now.state in
    let p = c.in-Some.next in
    let at = goal.at.returns-then-is_empty-clause-some g c in
    let next = found g at.After-first_after p c.in-Some.is in
    record {
      on_board = next.on_board;
      later = omega (arith, c.loop-next.invariant.later, next.later);
      empty = sym (told g at.After-is_empty) ∙ c.if-is_empty.true;
      inside = next.inside;
      none = none_joined s (number_of s.game.size c.args.point + 1) (number_of s.game.size c.loop-next.last + 1) (number_of s.game.size p) c.loop-next.invariant.none next.none;
    }

pub loop-next-smaller : goal.loop-next-smaller
loop-next-smaller g c =
    let next = found g (goal.at.loop-next-smaller g c).After-first_after c.in-Some.next c.in-Some.is in
    omega (arith, next.later, number_below c.args.self.now.state.game.size c.in-Some.next next.on_board)

pub loop-next-preserved : goal.loop-next-preserved
loop-next-preserved g c =
    let s = c.args.self.now.state in
    let at = goal.at.loop-next-preserved g c in
    let next = found g at.After-first_after c.in-Some.next c.in-Some.is in
    let k : ℕ = number_of s.game.size c.in-Some.next in
    let first : ℕ = number_of s.game.size c.args.point + 1 in
    record {
      on_board = next.on_board;
      later = omega (arith, c.loop-next.invariant.later, next.later);
      none = none_more s first k k (none_joined s first (number_of s.game.size c.loop-next.last + 1) k c.loop-next.invariant.none next.none) (none_yet s k) (at_stone s k (sym (told g at.After-is_empty) ∙ c.if-is_empty.false));
    }

pub returns-clause-none : goal.returns-clause-none
returns-clause-none g c =
    let s = c.args.self.now.state in
    let at = (goal.at.returns-clause-none g c).After-first_after in
    none_joined s (number_of s.game.size c.args.point + 1) (number_of s.game.size c.loop-next.last + 1) (s.game.size * s.game.size) c.loop-next.invariant.none
    (onward_outside s c.self.inside.region c.loop-next.last c.first_after.result (region_is g at) (region_on g at) (omega (arith, c.area.ensures.most, c.size.ensures)) c.loop-next.invariant.on_board c.first_after.ensures c.in_default.is)
