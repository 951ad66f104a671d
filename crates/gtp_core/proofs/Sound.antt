-- What a session keeps, and the problem that it has for that.
use Rattle.gtp_core.proofs.Common.{◌≡◌, ℕ, zero, suc, ◌+◌, ◌*◌, ◌<◌, ◌≤◌, Bool, true, false, cond, nat_eq, nat_lt, List, [], ◌∷◌, ◌++◌, length, map, get_or, replicate, Option, Some, None, Result, Ok, Err, refl, sym, ◌∙◌, ap, ap₂, subst, arith, eq-eqb, eqb-true, lt-ltb, IfSome, unwrap_or, result_ok, All, Cell, Empty, Colour, points, cell_at, side_of, first_without_liberty, Place, IsOn, number_of, same_place, is_before, with_place, Ply, pass, move, vertex_named, TurnFault, place_in, GameRecord, play_of, Did, problem_of, GameProblem, point_at, with_points, GtpSession, new_record, board_of, stones_at, problem_at, IsSound}
use Rattle.std.proofs.Common.{not, ◌&&◌, ◌||◌, nat_le, is_none, mul-le-mul, if◌then◌else◌}
use Rattle.std.specs.Prelude.{find, option_map}
use Rattle.std.specs.List.{list_any, position_or_len}
use Rattle.std.proofs.lemmas.Bool.{or_parts}
use Rattle.std.proofs.lemmas.Bool.Decides.{nat_tests}
use Rattle.std.proofs.lemmas.List.{length-replicate}
use Rattle.std.proofs.lemmas.List.Folds.{list_any-append}
use Rattle.std.proofs.lemmas.List.FromFn.{length-range_with_len}
use Rattle.std.proofs.lemmas.List.Quantifiers.{position-Some}
use Rattle.go_points.specs.Grid.{same_cells, same_cell, side_up_to}
use Rattle.go_points.specs.Liberty.{lacks_liberty, all_reach_empty}
use Rattle.go_points.specs.Move.{after_move}
use Rattle.go_points.proofs.Clearing.{moves_leave_liberties}
use Rattle.go_points.proofs.Lists.{and_both}
use Rattle.go_turns.specs.declared.fault.TurnFault.TheVariants.{OffBoard, Occupied}
use Rattle.go_turns.specs.History.{has_occurred}
use Rattle.go_turns.specs.Record.{Moment, colouring_of, passed, moved, after_play, stepped, without_last, undo_of, DidWithoutMemory}
use Rattle.go_turns.proofs.Repeats.{once_more, no_element, some_position}
use Rattle.target_game.specs.declared.bad_problem.BadProblem.TheVariants.{OtherSize, BadPlace, BadTargets, Ended, EmptyRegion, LongHistory, NoLiberty, Repeated}
use Rattle.target_game.specs.declared.TheConstants.{MAX_HISTORY}
use Rattle.target_game.specs.Problem.{first_refusal, the_colour, unless_refused, problem_on}
use Rattle.target_game.proofs.Facts.{all_pass}
use Rattle.target_game.proofs.States.{length-after_move}
use Rattle.gtp_core.specs.Session.{problem_with, has_question}
use Rattle.gtp_core.specs.Private.Sound.{IsSoundMoment, AreSound, IsSoundRecord}
use Rattle.go_points.specs.Equal.{same_cells_refl}
use Rattle.tsumego_problem.proofs.Keeping.{all_more}
use Rattle.tsumego_problem.proofs.Complete.{all_on_board}

-- ---- one colouring more

-- the first place of a colouring that is put at the end for the first time
place_at_end : (test : List Cell → Bool) (h : List (List Cell)) (c : List Cell) → list_any test h ≡ false → test c ≡ true → position_or_len test (h ++ c ∷ []) ≡ length h
place_at_end test [] c none some = ap (λ b. cond (not b) 1 0) some
place_at_end test (x ∷ xs) c none some =
    let parts = or_parts (test x) (list_any test xs) none in
    let rest = place_at_end test xs c parts.1 some in
    let more : 1 + position_or_len test (xs ++ c ∷ []) ≡ length (x ∷ xs) = omega (arith, rest) in
    ap (λ b. cond (not b) (1 + position_or_len test (xs ++ c ∷ [])) 0) parts.0 ∙ more

placed_at_end : (h : List (List Cell)) (c : List Cell) → has_occurred h c ≡ false → place_in (h ++ c ∷ []) c ≡ Some (length h)
placed_at_end h c none =
    let there : list_any (same_cells c) (h ++ c ∷ []) ≡ true = list_any-append (same_cells c) h (c ∷ []) ∙ ap₂ (λ a b. a || (b || false)) none (same_cells_refl c) in
    some_position (same_cells c) (h ++ c ∷ []) there ∙ ap Some (place_at_end (same_cells c) h c none (same_cells_refl c))

last_at_end : (h : List (List Cell)) (c : List Cell) → get_or (h ++ c ∷ []) (length h) [] ≡ c
last_at_end [] c = refl
last_at_end (x ∷ xs) c = last_at_end xs c

-- ---- moments

abbrev good : {A : Type 0} → A → Result A TurnFault
good a = Ok a

ok_is : {A : Type 0} (a b : A) → good a ≡ good b → a ≡ b
ok_is a b h = cc

moved_soundly : (n : ℕ) (m v : Moment) (k : Colour) (c : List Cell) (o : Option ℕ) → IsSoundMoment n m → length c ≡ n * n → all_reach_empty n c ≡ true → place_in m.history c ≡ o → moved m k c o ≡ Ok v → IsSoundMoment n v
moved_soundly n m v k c (Some e) s whole free new h = absurd (cc h)
moved_soundly n m v k c None s whole free new h = subst (IsSoundMoment n) (ok_is _ v h) (record {
  full = all_more (λ d. nat_eq (length d) (n * n)) m.history c s.full (eq-eqb (length c) (n * n) whole);
  once = once_more m.history c s.once new;
  free = all_more (all_reach_empty n) m.history c s.free free;
  here = ap (place_in (m.history ++ c ∷ [])) (last_at_end m.history c) ∙ placed_at_end m.history c (no_element (same_cells c) m.history new);
})

played_soundly : (n : ℕ) (m v : Moment) (k : Colour) (t : Ply) → IsSoundMoment n m → after_play n m k t ≡ Ok v → IsSoundMoment n v
played_soundly n m v k pass s h = subst (IsSoundMoment n) (ok_is (passed m k) v h) (record { full = s.full; once = s.once; free = s.free; here = s.here })
played_soundly n m v k (move p) s h = go (nat_lt p (n * n)) (same_cell (cell_at (colouring_of m) p) Empty) h
  where
    c : List Cell
    c = after_move n (colouring_of m) k p

    go : (a b : Bool) → (if a then (if b then moved m k c (place_in m.history c) else Err Occupied) else Err OffBoard) ≡ Ok v → IsSoundMoment n v
    go true true h = moved_soundly n m v k c (place_in m.history c) s (length-after_move n (colouring_of m) k p) (moves_leave_liberties n (colouring_of m) k p) refl h
    go true false h = absurd (cc h)
    go false b h = absurd (cc h)

-- ---- records

-- The record is sound, on a board of n rows.
abbrev pub SoundOn : ℕ → GameRecord → Type 0
SoundOn n r = IsSoundRecord r × (r.size ≡ n)

record_played : (r v : GameRecord) (k : Colour) (t : Ply) → IsSoundRecord r → play_of r k t ≡ Ok v → SoundOn r.size v
record_played r v k t s h = go (after_play r.size r.present k t) refl h
  where
    go : (o : Result Moment TurnFault) → after_play r.size r.present k t ≡ o → stepped r o ≡ Ok v → SoundOn r.size v
    go (Err fault) e h = absurd (cc h)
    go (Ok m) e h = subst (SoundOn r.size) (ok_is (record r { present = m; earlier = r.present ∷ r.earlier }) v h)
        (record { present = played_soundly r.size r.present m k t s.present e; earlier = (s.present, s.earlier) }, refl)

record_undone : (r v : GameRecord) → IsSoundRecord r → undo_of r ≡ Ok v → SoundOn r.size v
record_undone r v s h = go r.earlier s.earlier h
  where
    go : (ms : List Moment) → AreSound r.size ms → without_last r ms ≡ Ok v → SoundOn r.size v
    go [] s h = absurd (cc h)
    go (m ∷ ms) s h = subst (SoundOn r.size) (ok_is (record r { present = m; earlier = ms }) v h) (record { present = s.0; earlier = s.1 }, refl)

pub play_keeps : (k : Colour) (t : Ply) (old new : GameRecord) (r : Result (Unit {0}) TurnFault) → IsSoundRecord old → Did (play_of old k t) old r new → SoundOn old.size new
play_keeps k t old new r s did = go (play_of old k t) refl r did
  where
    go : (due : Result GameRecord TurnFault) → play_of old k t ≡ due → (r : Result (Unit {0}) TurnFault) → Did due old r new → SoundOn old.size new
    go (Ok v) e (Ok u) is = subst (SoundOn old.size) (sym is) (record_played old v k t s e)
    go (Ok v) e (Err fault) is = subst (SoundOn old.size) (sym is.1) (s, refl)
    go (Err due) e (Ok u) is = absurd is
    go (Err due) e (Err fault) is = subst (SoundOn old.size) (sym is.1) (s, refl)

pub undo_keeps : (old new : GameRecord) (r : Result (Unit {0}) TurnFault) → IsSoundRecord old → DidWithoutMemory (undo_of old) old r new → SoundOn old.size new
undo_keeps old new r s did = go (undo_of old) refl r did
  where
    go : (due : Result GameRecord TurnFault) → undo_of old ≡ due → (r : Result (Unit {0}) TurnFault) → DidWithoutMemory due old r new → SoundOn old.size new
    go (Ok v) e (Ok u) is = subst (SoundOn old.size) (sym is) (record_undone old v s e)
    go (Ok v) e (Err fault) is = absurd is
    go (Err due) e (Ok u) is = absurd is
    go (Err due) e (Err fault) is = subst (SoundOn old.size) (sym is.1) (s, refl)

pub turn_refused : (due : Result GameRecord TurnFault) (old new : GameRecord) (r : Result (Unit {0}) TurnFault) (fault : TurnFault) → r ≡ Err fault → Did due old r new → new ≡ old
turn_refused due old new r fault is did = go due (subst (λ x. Did due old x new) is did)
  where
    go : (due : Result GameRecord TurnFault) → Did due old (Err fault) new → new ≡ old
    go (Ok v) same = same.1
    go (Err other) same = same.1

-- ---- sessions

-- another record on the same board
pub with_turns_sound : (r v : GameRecord) (targets region : List Place) → IsSound (record { turns = r; targets = targets; region = region }) → SoundOn r.size v → IsSound (record { turns = v; targets = targets; region = region })
with_turns_sound r v targets region s (turns, size) = record {
  turns = turns;
  targets = subst (λ n. All (IsOn n) targets) (sym size) s.targets;
  region = subst (λ n. All (IsOn n) region) (sym size) s.region;
  somewhere = s.somewhere;
}

-- an empty board has no stone that lacks a liberty
none_lacks : (n : ℕ) (c : List Cell) (ps : List ℕ) → ((p : ℕ) → cell_at c p ≡ Empty) → find (lacks_liberty n c) ps ≡ None
none_lacks n c [] empty = refl
none_lacks n c (p ∷ ps) empty = rw (empty p) (none_lacks n c ps empty)

empty_at : (m p : ℕ) → get_or (replicate m Empty) p Empty ≡ Empty
empty_at zero p = refl
empty_at (suc m) zero = refl
empty_at (suc m) (suc p) = empty_at m p

new_free : (n : ℕ) → all_reach_empty n (replicate (n * n) Empty) ≡ true
unfolding first_without_liberty
new_free n = ap is_none (none_lacks n (replicate (n * n) Empty) (points n) (empty_at (n * n)))

pub new_record_sound : (n : ℕ) → SoundOn n (new_record n)
new_record_sound n =
    let c = replicate (n * n) Empty in (
      record {
        present = record {
          full = and_both (nat_eq (length c) (n * n)) true (eq-eqb (length c) (n * n) (length-replicate (n * n) Empty)) refl;
          once = refl;
          free = and_both (all_reach_empty n c) true (new_free n) refl;
          here = placed_at_end [] c refl;
        };
        earlier = tt;
      },
      refl,
    )

pub new_session_sound : (n : ℕ) (r : GameRecord) (targets region : List Place) → SoundOn n r → targets ≡ [] → All (IsOn n) region → 0 < length region → IsSound (record { turns = r; targets = targets; region = region })
new_session_sound n r targets region (turns, size) none on some = record {
  turns = turns;
  targets = subst (λ ps. All (IsOn r.size) ps) (sym none) (λ k d low. absurd (omega (arith, low)));
  region = subst (λ m. All (IsOn m) region) (sym size) on;
  somewhere = some;
}

-- a board has a point
pub somewhere_of : (n : ℕ) (ps : List Place) → 1 ≤ n → map (number_of n) ps ≡ points n → 0 < length ps
somewhere_of n [] low is =
    let none : 0 ≡ n * n = ap length is ∙ length-range_with_len 0 (n * n) in
    let some : 1 * 1 ≤ n * n = mul-le-mul low low in
    omega (arith, none, some)
somewhere_of n (p ∷ ps) low is = omega arith

-- words name a point, where there are some
with_place_some : (ps : List Place) (p : Place) → 0 < length (with_place ps p)
with_place_some [] p = omega arith
with_place_some (q ∷ qs) p = go (same_place p q) (is_before p q)
  where
    go : (a b : Bool) → 0 < length (cond a (q ∷ qs) (cond b (p ∷ q ∷ qs) (q ∷ with_place qs p)))
    go true b = omega arith
    go false true = omega arith
    go false false = omega arith

some_left : (n : ℕ) (ps qs : List Place) (words : List (List ℕ)) → 0 < length ps → with_points n ps words ≡ Some qs → 0 < length qs
some_left n ps qs [] some is = let same : ps ≡ qs = cc is in subst (λ xs. 0 < length xs) same some
some_left n ps qs (word ∷ words) some is = go (point_at n (vertex_named word)) is (λ p. some_left n (with_place ps p) qs words (with_place_some ps p))
  where
    go : (o : Option Place) → elim o [ None ↦ None | Some p ↦ with_points n (with_place ps p) words ] ≡ Some qs → ((p : Place) → with_points n (with_place ps p) words ≡ Some qs → 0 < length qs) → 0 < length qs
    go None is more = absurd (cc is)
    go (Some p) is more = more p is

pub some_named : (n : ℕ) (qs : List Place) (word : List ℕ) (words : List (List ℕ)) → with_points n [] (word ∷ words) ≡ Some qs → 0 < length qs
some_named n qs word words is = go (point_at n (vertex_named word)) is
  where
    go : (o : Option Place) → elim o [ None ↦ None | Some p ↦ with_points n (with_place [] p) words ] ≡ Some qs → 0 < length qs
    go None is = absurd (cc is)
    go (Some p) is = some_left n (with_place [] p) qs words (with_place_some [] p) is

-- ---- the problem

not_zero : (k : ℕ) → 0 < k → nat_eq k 0 ≡ false
not_zero k h = grind (arith, nat_tests)

-- what is left of the refusals, where the session keeps the others from coming
asked : (o : Option Colour) (two long : Bool) (make : Colour → GameProblem)
    → result_ok (unless_refused (first_refusal ((false, OtherSize) ∷ (false, BadPlace) ∷ (is_none o, BadTargets) ∷ (two, Ended) ∷ (false, EmptyRegion) ∷ (long, LongHistory) ∷ (false, NoLiberty) ∷ (false, Repeated) ∷ [])) (make (the_colour o)))
    ≡ (if not two && not long then option_map make o else None)
asked None true long make = refl
asked None false true make = refl
asked None false false make = refl
asked (Some x) true long make = refl
asked (Some x) false true make = refl
asked (Some x) false false make = refl

-- colourings of one length are of one board
same_side : (c d : List Cell) → length c ≡ length d → side_of c ≡ side_of d
unfolding side_of
same_side c d h = ap (λ l. side_up_to l l) h

module _ (s : GtpSession) (k : Colour) (sound : IsSound s) (side : side_of (board_of s) ≡ s.turns.size) where
  on_the_board : (h : List (List Cell)) → s.turns.present.history ≡ h → problem_at s k ≡ result_ok (problem_of h s.turns.present.place k s.turns.present.passes s.targets s.region)
  unfolding problem_of problem_at
  on_the_board [] e = let none : None ≡ Some s.turns.present.place = ap (λ h. place_in h (board_of s)) (sym e) ∙ sound.turns.present.here in absurd (cc none)
  on_the_board (c ∷ cs) e = go
    where
      m : Moment
      m = s.turns.present

      n : ℕ
      n = s.turns.size

      low : m.place < length m.history
      low = (position-Some (same_cells (board_of s)) m.history m.place [] sound.turns.present.here).0

      whole : (i : ℕ) → i < length m.history → length (get_or m.history i []) ≡ n * n
      whole i within = eqb-true (length (get_or m.history i [])) (n * n) (all_pass (λ d. nat_eq (length d) (n * n)) m.history sound.turns.present.full i [] within)

      first : side_of c ≡ n
      first = same_side c (board_of s) (ap (λ h. length (get_or h 0 [])) (sym e) ∙ whole 0 (subst (λ h. 0 < length h) (sym e) (omega arith)) ∙ sym (whole m.place low)) ∙ side

      there : problem_at s k ≡ result_ok (problem_on n m.history m.place k m.passes s.targets s.region)
      there = rw (sound.turns.present.full, sound.turns.present.once, sound.turns.present.free, all_on_board n s.targets sound.targets, all_on_board n s.region sound.region, lt-ltb m.place (length m.history) low, some_region)
          (sym (asked (stones_at s s.targets) (nat_le 2 m.passes) (nat_lt MAX_HISTORY (length m.history)) (problem_with s k)))
        where
          some_region : nat_eq (length s.region) 0 ≡ false
          some_region = not_zero (length s.region) sound.somewhere

      go : problem_at s k ≡ result_ok (problem_on (side_of c) (c ∷ cs) m.place k m.passes s.targets s.region)
      go = there ∙ ap₂ (λ x h. result_ok (problem_on x h m.place k m.passes s.targets s.region)) (sym first) e

  pub problem_is : problem_at s k ≡ result_ok (problem_of s.turns.present.history s.turns.present.place k s.turns.present.passes s.targets s.region)
  problem_is = on_the_board s.turns.present.history refl

  pub problem_placed : unwrap_or (place_in s.turns.present.history (board_of s)) 0 ≡ s.turns.present.place
  problem_placed = ap (λ o. unwrap_or o 0) sound.turns.present.here

-- its board is that of the session
pub problem_size : (s : GtpSession) (k : Colour) → IfSome (problem_at s k) (λ q. q.game.size ≡ s.turns.size)
unfolding problem_at
problem_size s k = go (has_question s.turns.present) (stones_at s s.targets)
  where
    go : (b : Bool) (o : Option Colour) → IfSome (if b then option_map (problem_with s k) o else None) (λ q. q.game.size ≡ s.turns.size)
    go false o = tt
    go true None = tt
    go true (Some x) = refl
