-- What the definitions of records give where a move is made and where a step is taken back.
use Rattle.go_turns.proofs.Common.{◌≡◌, ℕ, ◌*◌, ◌<◌, if◌then◌else◌, Bool, true, false, cond, nat_lt, List, [], ◌∷◌, ◌++◌, length, Option, Some, None, Result, Ok, Err, sym, ◌∙◌, ap, subst, lt-ltb, get_or_from_slice_get, Colour, Cell, Empty, same_cell, cell_at, Place, IsOn, on_board, after_move, move, TurnFault, OffBoard, Occupied, place_in, GameRecord, colouring_of, stepped, play_of, undo_of, Did, DidWithoutMemory, IsAt, IsNotAdded}
use Rattle.std.proofs.Common.{slice_get, OnOk, is_err, is_ok}
use Rattle.std.proofs.lemmas.Bool.{ltb-true, and_from, and_parts}
use Rattle.go_turns.specs.Record.{moved, without_last}

pub on_from : (n : ℕ) (p : Place) → IsOn n p → on_board n p ≡ true
on_from n p on = and_from (nat_lt p.row n) (nat_lt p.column n) (lt-ltb p.row n on.row_within) (lt-ltb p.column n on.column_within)

pub is_on_from : (n : ℕ) (p : Place) → on_board n p ≡ true → IsOn n p
is_on_from n p e =
    let both = and_parts (nat_lt p.row n) (nat_lt p.column n) e in
    record { row_within = ltb-true p.row n both.0; column_within = ltb-true p.column n both.1 }

module _ (r : GameRecord) (k : Colour) where
  -- a play at the number p, whose tests have these answers
  choice : ℕ → Bool → Bool → Option ℕ → Result GameRecord TurnFault
  choice p on free at = stepped r (cond on (cond free (moved r.present k (after_move r.size (colouring_of r.present) k p) at) (Err Occupied)) (Err OffBoard))

  due_moved : (p : ℕ) → p < r.size * r.size → same_cell (cell_at (colouring_of r.present) p) Empty ≡ true
      → play_of r k (move p) ≡ stepped r (moved r.present k (after_move r.size (colouring_of r.present) k p) (place_in r.present.history (after_move r.size (colouring_of r.present) k p)))
  unfolding choice
  due_moved p on free =
      let at = place_in r.present.history (after_move r.size (colouring_of r.present) k p) in
      ap (λ b. choice p b (same_cell (cell_at (colouring_of r.present) p) Empty) at) (lt-ltb p (r.size * r.size) on) ∙ ap (λ b. choice p true b at) free

  pub did_move : (p : ℕ) (new : GameRecord) → p < r.size * r.size → same_cell (cell_at (colouring_of r.present) p) Empty ≡ true
      → place_in r.present.history (after_move r.size (colouring_of r.present) k p) ≡ None
      → new ≡ record r { present = record { history = r.present.history ++ after_move r.size (colouring_of r.present) k p ∷ []; place = length r.present.history; passes = 0; last_colour = Some k }; earlier = r.present ∷ r.earlier }
      → (u : Unit {0}) → Did (play_of r k (move p)) r (Ok u) new
  did_move p new on free fresh is u =
      let c = after_move r.size (colouring_of r.present) k p in
      subst (λ d. Did d r (Ok u) new) (sym (due_moved p on free ∙ ap (λ at. stepped r (moved r.present k c at)) fresh)) is

  pub did_not_move : (p : ℕ) (new : GameRecord) (fault : TurnFault) → p < r.size * r.size → same_cell (cell_at (colouring_of r.present) p) Empty ≡ true
      → IsNotAdded (place_in r.present.history (after_move r.size (colouring_of r.present) k p)) fault → new ≡ r → Did (play_of r k (move p)) r (Err fault) new
  did_not_move p new fault on free why is =
      subst (λ d. Did d r (Err fault) new) (sym (due_moved p on free)) (refused (after_move r.size (colouring_of r.present) k p) (place_in r.present.history (after_move r.size (colouring_of r.present) k p)) why)
    where
      refused : (c : List Cell) (at : Option ℕ) → IsNotAdded at fault → Did (stepped r (moved r.present k c at)) r (Err fault) new
      refused c (Some earlier) why = (why, is)
      refused c None why = (why, is)

-- a step taken back
pub did_undo : (old new : GameRecord) → old.size ≡ new.size → old.earlier ≡ new.present ∷ new.earlier → (u : Unit {0}) → DidWithoutMemory (undo_of old) old (Ok u) new
did_undo old new size split u =
    subst (λ ms. DidWithoutMemory (without_last old ms) old (Ok u) new) (sym split) (λ i. record { size = sym size i; present = new.present; earlier = new.earlier })

-- a move that the board made: the point was empty, and the colouring is that of the move
pub was_empty : {T E : Type 0} (before old : List Cell) (p : ℕ) (r : Result T E) → before ≡ old → is_err r ≡ false → is_ok r ≡ same_cell (cell_at old p) Empty → same_cell (cell_at before p) Empty ≡ true
was_empty before old p (Ok x) same ok variant = ap (λ d. same_cell (cell_at d p) Empty) same ∙ sym variant
was_empty before old p (Err x) same ok variant = absurd (cc)

pub was_moved : {T E : Type 0} (n : ℕ) (before old new after : List Cell) (k : Colour) (p : ℕ) (r : Result T E) → before ≡ old → is_err r ≡ false → OnOk r (new ≡ after_move n old k p) → after ≡ new → after ≡ after_move n before k p
was_moved n before old new after k p (Ok x) same ok made is = is ∙ made ∙ ap (λ d. after_move n d k p) (sym same)
was_moved n before old new after k p (Err x) same ok made is = absurd (cc)

-- the board's own colouring, as the history has it
pub found_at : (h : List (List Cell)) (place : ℕ) (old at : List Cell) → IsAt h place old → slice_get h place ≡ Some at → at ≡ old
found_at h place old at is found = sym (get_or_from_slice_get h place at [] found) ∙ is.same

-- a list after an element was added to it
pub was_pushed : {T E X : Type 0} (r : Result T E) (new pushed old : X) → is_err r ≡ false → new ≡ (if is_ok r then pushed else old) → new ≡ pushed
was_pushed (Ok t) new pushed old ok is = is
was_pushed (Err x) new pushed old ok is = absurd (cc)
