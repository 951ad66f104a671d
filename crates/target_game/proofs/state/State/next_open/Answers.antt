use Rattle.target_game.proofs.Common.{◌≡◌, map, Some, refl, sym, ap, ◌∙◌, subst, arith, All, Empty, same_cell, cell_at, Place, IsOn, number_of, Line}
use Rattle.target_game.proofs.Due.{IsNextInside, next_inside, next_outside, none_yet}
use Rattle.target_game.proofs.OpenPoints.{past_stone}
use Rattle.target_game.proofs.state.State.next_open.Given.{Over}
use Rattle.target_game.proofs.state.State.next_open.Goals as goal
use Rattle.target_game.proofs.state.State.next_open.Goals.{After-first_from, After-is_empty}

-- what is found from the number on
module _ (g : Over) (c : After-first_from g) where
  region_is : c.args.self.now.state.game.region ≡ map (number_of c.args.self.now.state.game.size) c.self.inside.region
  region_is = subst (λ (v : Line). v.state.game.region ≡ map (number_of v.state.game.size) c.self.inside.region) c.self.view_is refl

  region_on : All (IsOn c.args.self.now.state.game.size) c.self.inside.region
  region_on = subst (λ (v : Line). All (IsOn v.state.game.size) c.self.inside.region) c.self.view_is c.self.invariant.1

  found : (p : Place) → c.first_from.result ≡ Some p → IsNextInside c.args.self.now.state c.args.from p
  found p is =
      let s = c.args.self.now.state in
      next_inside s c.self.inside.region c.args.from c.args.from c.size-size.result c.point_at.result p c.first_from.result region_is region_on c.area.ensures.least c.area.ensures.most c.size-size.ensures c.point_at.ensures.place (omega arith) (none_yet s c.args.from) c.first_from.ensures is

pub returns-in_default-clause-none : goal.returns-in_default-clause-none
returns-in_default-clause-none g c =
    let s = c.args.self.now.state in
    let at = (goal.at.returns-in_default-clause-none g c).After-first_from in
    next_outside s c.self.inside.region c.args.from c.args.from c.size-size.result c.point_at.result c.first_from.result (region_is g at) (region_on g at) c.area.ensures.least c.area.ensures.most c.size-size.ensures c.point_at.ensures.place (none_yet s c.args.from) c.first_from.ensures c.in_default.is

pub cell-requires : goal.cell-requires
cell-requires g c = subst (λ (v : Line). IsOn v.state.game.size c.in-Some.first) (sym c.self.view_is) (found g (goal.at.cell-requires g c).After-first_from c.in-Some.first c.in-Some.is).on_board

-- whether the point is empty
told : (g : Over) (c : After-is_empty g) → c.is_empty.result ≡ same_cell (cell_at c.args.self.now.state.colouring (number_of c.args.self.now.state.game.size c.in-Some.first)) Empty
told g c = c.is_empty.ensures ∙ ap (λ a. same_cell a Empty) c.cell.ensures ∙ ap (λ (v : Line). same_cell (cell_at v.state.colouring (number_of v.state.game.size c.in-Some.first)) Empty) c.self.view_is

pub returns-then-is_empty-clause-some : goal.returns-then-is_empty-clause-some
returns-then-is_empty-clause-some g c =
    let at = goal.at.returns-then-is_empty-clause-some g c in
    let next = found g at.After-first_from c.in-Some.first c.in-Some.is in
    record {
      on_board = next.on_board;
      later = next.later;
      empty = sym (told g at.After-is_empty) ∙ c.if-is_empty.true;
      inside = next.inside;
      none = next.none;
    }

pub open_after-requires : goal.open_after-requires
open_after-requires g c = (found g (goal.at.open_after-requires g c).After-first_from c.in-Some.first c.in-Some.is).on_board

pub returns-clause-some : goal.returns-clause-some
returns-clause-some g c =
    let at = goal.at.returns-clause-some g c in
    (past_stone c.args.self.now.state c.args.from c.in-Some.first c.open_after.result (found g at.After-first_from c.in-Some.first c.in-Some.is) (sym (told g at.After-is_empty) ∙ c.if-is_empty.false) c.open_after.ensures.some c.open_after.ensures.none).0

pub returns-clause-none : goal.returns-clause-none
returns-clause-none g c =
    let at = goal.at.returns-clause-none g c in
    (past_stone c.args.self.now.state c.args.from c.in-Some.first c.open_after.result (found g at.After-first_from c.in-Some.first c.in-Some.is) (sym (told g at.After-is_empty) ∙ c.if-is_empty.false) c.open_after.ensures.some c.open_after.ensures.none).1
