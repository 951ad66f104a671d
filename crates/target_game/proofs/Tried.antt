-- A turn that is tried on a record is made exactly where it is legal.
use Rattle.target_game.proofs.Common.{◌≡◌, ℕ, ◌*◌, Bool, true, false, not, ◌&&◌, nat_lt, List, [], ◌∷◌, ◌++◌, map, Option, Some, None, is_some, is_none, if◌then◌else◌, Ok, Err, refl, sym, ◌∙◌, ap, ap₂, subst, Colour, Cell, Empty, opponent_of, same_cell, cell_at, after_move, Place, IsOn, number_of, Ply, pass, move, and_left, and_right, and_both, has_occurred, place_in, colouring_of, play_of, Did, Game, GameState, holds_point, legal, next, kept_game, kept_state, kept_line, line_after, true≢false, get_or-append_seam}
use Rattle.go_points.proofs.Cells.{opponent_twice}
use Rattle.go_turns.specs.declared.fault.TurnFault.{TurnFault}
use Rattle.go_turns.specs.declared.fault.TurnFault.TheVariants.{Occupied, OffBoard}
use Rattle.go_turns.specs.Record.{GameRecord, stepped, moved}
use Rattle.target_game.specs.Kept.{kept_before}
use Rattle.target_game.specs.Left.{is_repeat}
use Rattle.target_game.proofs.Playing.{occurred_place, occurred_is}
use Rattle.target_game.proofs.Due.{at_repeat}
use Rattle.std.proofs.lemmas.Bool.{lt-ltb}
use Rattle.go_points.proofs.Sides.{number_below}

-- all that is asked of a turn but that it repeats nothing
abbrev pub IsFree : GameState → Ply → Type 0
IsFree s pass = Unit {0}
IsFree s (move p) = (nat_lt p (s.game.size * s.game.size) && holds_point s.game.region p && same_cell (cell_at s.colouring p) Empty) ≡ true

pub free_move : (s : GameState) (p : Place) → IsOn s.game.size p → (holds_point s.game.region (number_of s.game.size p) && same_cell (cell_at s.colouring (number_of s.game.size p)) Empty) ≡ true → IsFree s (move (number_of s.game.size p))
free_move s p on there =
    let k : ℕ = number_of s.game.size p in
    let low : nat_lt k (s.game.size * s.game.size) ≡ true = lt-ltb k (s.game.size * s.game.size) (number_below s.game.size p on) in
    and_both _ _ (and_both _ _ low (and_left (holds_point s.game.region k) (same_cell (cell_at s.colouring k) Empty) there)) (and_right (holds_point s.game.region k) (same_cell (cell_at s.colouring k) Empty) there)

abbrev pub game_of : GameRecord → List Place → Colour → List Place → Game
game_of r targets defender region = kept_game r.size targets defender region

module _ (targets : List Place) (defender : Colour) (region : List Place) (k : Colour) (r : GameRecord) where
  -- what play does with a free move
  free_play : (p : ℕ) → IsFree (kept_state (game_of r targets defender region) k r.present) (move p)
      → play_of r k (move p) ≡ stepped r (moved r.present k (after_move r.size (colouring_of r.present) k p) (place_in r.present.history (after_move r.size (colouring_of r.present) k p)))
  free_play p free =
      let c : List Cell = after_move r.size (colouring_of r.present) k p in
      let on : nat_lt p (r.size * r.size) ≡ true = and_left (nat_lt p (r.size * r.size)) (holds_point (map (number_of r.size) region) p) (and_left (nat_lt p (r.size * r.size) && holds_point (map (number_of r.size) region) p) (same_cell (cell_at (colouring_of r.present) p) Empty) free) in
      let empty : same_cell (cell_at (colouring_of r.present) p) Empty ≡ true = and_right (nat_lt p (r.size * r.size) && holds_point (map (number_of r.size) region) p) (same_cell (cell_at (colouring_of r.present) p) Empty) free in
      ap₂ (λ (a b : Bool). stepped r (if a then (if b then moved r.present k c (place_in r.present.history c) else Err Occupied) else Err OffBoard)) on empty

  pub tried_yes : (t : Ply) (u : Unit {0}) (new : GameRecord) → IsFree (kept_state (game_of r targets defender region) k r.present) t → Did (play_of r k t) r (Ok u) new → legal (kept_state (game_of r targets defender region) k r.present) t ≡ true
  tried_yes pass u new free did = refl
  tried_yes (move p) u new free did = go (place_in r.present.history c) refl (subst (λ o. Did o r (Ok u) new) (free_play p free) did)
    where
      c : List Cell
      c = after_move r.size (colouring_of r.present) k p

      go : (o : Option ℕ) → place_in r.present.history c ≡ o → Did (stepped r (moved r.present k c o)) r (Ok u) new → legal (kept_state (game_of r targets defender region) k r.present) (move p) ≡ true
      go (Some e) is refused = absurd refused
      go None is made = and_both _ (not (has_occurred r.present.history c)) free (occurred_place r.present.history c ∙ ap is_none is)

  pub tried_line : (t : Ply) (u : Unit {0}) (new : GameRecord) → IsFree (kept_state (game_of r targets defender region) k r.present) t → Did (play_of r k t) r (Ok u) new
      → kept_line (game_of new targets defender region) (opponent_of k) new ≡ line_after (kept_line (game_of r targets defender region) k r) t
  tried_line pass u new free did =
      let g : Game = game_of r targets defender region in
      subst (λ x. kept_line (game_of x targets defender region) (opponent_of k) x ≡ line_after (kept_line g k r) pass) (sym did)
      (λ i. record { state = next (kept_state g k r.present) pass; before = ap (λ j. kept_state g j r.present ∷ kept_before g j r.earlier) (opponent_twice k) i })
  tried_line (move p) u new free did = go (place_in r.present.history c) (subst (λ o. Did o r (Ok u) new) (free_play p free) did)
    where
      c : List Cell
      c = after_move r.size (colouring_of r.present) k p

      go : (o : Option ℕ) → Did (stepped r (moved r.present k c o)) r (Ok u) new → kept_line (game_of new targets defender region) (opponent_of k) new ≡ line_after (kept_line (game_of r targets defender region) k r) (move p)
      go (Some e) refused = absurd refused
      go None made =
          let g : Game = game_of r targets defender region in
          subst (λ x. kept_line (game_of x targets defender region) (opponent_of k) x ≡ line_after (kept_line g k r) (move p)) (sym made)
          (λ i. record {
            state = record { game = g; colouring = get_or-append_seam r.present.history c [] [] i; history = r.present.history ++ c ∷ []; mover = opponent_of k; passes = 0 };
            before = ap (λ j. kept_state g j r.present ∷ kept_before g j r.earlier) (opponent_twice k) i;
          })

  pub tried_no : (t : Ply) (fault : TurnFault) (new : GameRecord) → IsFree (kept_state (game_of r targets defender region) k r.present) t → Did (play_of r k t) r (Err fault) new → is_repeat fault ≡ true
      → legal (kept_state (game_of r targets defender region) k r.present) t ≡ false
  tried_no pass fault new free did again = absurd (true≢false (sym again ∙ ap is_repeat did.0))
  tried_no (move p) fault new free did again = go (place_in r.present.history c) refl (subst (λ o. Did o r (Err fault) new) (free_play p free) did)
    where
      c : List Cell
      c = after_move r.size (colouring_of r.present) k p

      go : (o : Option ℕ) → place_in r.present.history c ≡ o → Did (stepped r (moved r.present k c o)) r (Err fault) new → legal (kept_state (game_of r targets defender region) k r.present) (move p) ≡ false
      go (Some e) is refused = at_repeat (kept_state (game_of r targets defender region) k r.present) p (sym (occurred_is r.present.history c) ∙ ap is_some is)
      go None is missed = absurd (true≢false (sym again ∙ ap is_repeat missed.0))
