-- The names that several proofs of this crate cite, passed on from one place. Declares nothing.
pub use Rattle.std.proofs.Common.{sym, subst, ◌≡◌, ◌∙◌, List, ℕ, ap, IsTrue, false, inl, inr, [], refl, map, ◌*◌, ◌∷◌, Bool, true, ◌<◌, ◌⊎◌, arith, length, ◌+◌, ◌≤◌, ◌≢◌, rules, suc, Some, cond, zero, ◌↔◌, None, nat_eq, ◌&&◌, IsFalse, eq-eqb, eqb-true, not, take, ◌-◌, ◌/◌, ◌||◌, get_or, if◌then◌else◌, nat_lt, set, ◌%◌}
pub use Rattle.std.proofs.lemmas.List.{get_or-set_other, get_or-set_same, get_or_past, length-set, take_all}
pub use Rattle.std.proofs.lemmas.Nat.{div-add-mod', mul-add-lt}
pub use Rattle.std.specs.List.{All, list_all, list_any}
pub use Rattle.go_points.proofs.Cells.{eq_same_cell, same_cell_eq, adjacent_back, adjacent_on_board, neighbours_member}
pub use Rattle.go_points.proofs.Lists.{and_right, or_cases, or_right, and_both, or_left, all_at, and_left, Member, all_from, any_to}
pub use Rattle.go_points.proofs.Membership.{sets_gain, sets_lose}
unfoldable pub use Rattle.go_points.specs.Clear.{clear}
pub use Rattle.go_points.specs.Equal.{same_place_decides}
pub use Rattle.go_points.specs.Grid.{cell_at, same_cell, adjacent, opponent_of, points}
unfoldable pub use Rattle.go_points.specs.Grid.{side_of, neighbours}
pub use Rattle.go_points.specs.Liberty.{all_reach_empty}
unfoldable pub use Rattle.go_points.specs.Liberty.{first_without_liberty}
unfoldable pub use Rattle.go_points.specs.Move.{after_move}
pub use Rattle.go_points.specs.Place.{number_of, Place, IsOn, place_of}
pub use Rattle.go_points.specs.Points.{holds_place, with_place, same_place, without_place}
pub use Rattle.go_points.specs.Reach.{IsPath, Reaches}
unfoldable pub use Rattle.go_points.specs.Reach.{reaches}
pub use Rattle.go_points.specs.declared.Cell.{Cell}
pub use Rattle.go_points.specs.declared.Cell.TheVariants.{Empty, Stone}
pub use Rattle.go_points.specs.declared.Colour.{Colour}
pub use Rattle.go_points.specs.declared.Colour.TheVariants.{Black, White}
pub use Rattle.go_points.specs.declared.TheConstants.{MAX_POINTS}
pub use Rattle.go_chains.proofs.Beside.{item_beside}
pub use Rattle.go_chains.proofs.Gathering.{HeldSoFar}
pub use Rattle.go_chains.proofs.Joins.{joined_self, joined_on, joined_back, joined_beside, joined_holds}
pub use Rattle.go_chains.specs.Joined.{Joined, IsChainOf, IsWay, IsLibertyOf}
pub use Rattle.target_game.specs.Legal.{holds_point}
pub use Rattle.target_game.specs.State.{Game, GameState}
unfoldable pub use Rattle.target_game.specs.Wins.{wins}
pub use Rattle.pass_alive.specs.Areas.{area_cell}
pub use Rattle.pass_alive.specs.Laws.{MayMove, AreMoves, Stands, after_moves}
pub use Rattle.pass_alive.specs.Life.{Points, PassAlive, IsBeside, Fixed, Live, EyeOf, Lasting, TwoEyes}
pub use Rattle.pass_alive.specs.Private.Areas.{areas_in, IsBesideFree, AreNoEyes, HasMet, IsBesidePoint, IsEyeArea, IsFreePlace, IsMetOrWall, IsPoint, AreSides, IsEyeOutside, IsNoEye, IsNoEyePlace, LastsOutside, MayLive, TwoEyeAreas, TwoEyeSets}
pub use Rattle.pass_alive.specs.Sets.{these, number_on, IsNear, game_of, IsWith}
pub use Rattle.pass_alive.specs.Told.{LivesAt}
