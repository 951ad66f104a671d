-- Groups that are dead by answers: one side, the killer, plays within a region, and whatever the other side does there, its pass
-- included, a target is taken in the end. The killer's kept stones stand by areas of its own (`safe_groups`). In the states of the
-- region, as in those of an area, all points outside it and its kept stones hold stones of the other side's.
--     killing n k kept region      the region, as an area
--     after_attack a c x      the state after a move of the other side's, which may take stones of the killer's
--     IsSureLoss a c x      what that move takes is taken on each board that fits the state
--     IsEntry a targets D j      the move of the entry j leads to the taking of a target, by entries of lower numbers
use Rattle.std.specs.Prelude.{◌≡◌, ◌≢◌, ◌≤◌, ℕ, ◌*◌, ◌<◌, Bool, false, ◌⊎◌, IsTrue, IsFalse, List, map, slice_set, if◌then◌else◌}
use Rattle.go_points.specs.declared.Colour.{Colour}
use Rattle.go_points.specs.declared.Cell.{Cell}
use Rattle.go_points.specs.declared.Cell.TheVariants.{Empty}
use Rattle.go_points.specs.Grid.{adjacent, points, cell_at}
use Rattle.go_points.specs.Clear.{is_captured}
use Rattle.go_turns.specs.History.{has_occurred}
use Rattle.safe_groups.specs.Areas.{Area, Points, theirs, clear_loose, after_answer, IsWalled, Rooted, Fits}

-- The region in which the killer plays. Its kept stones need no liberty there, since areas of their own keep them.
abbrev pub killing : ℕ → Colour → Points → Points → Area
killing n k kept region = record { size = n; keeper = k; kept = kept; region = region; answers = region; held = kept; earlier = λ p. false; gives = λ p. false }

-- The state with nothing at the kept stones: there each chain of the killer's that touches one of them has a liberty.
unfoldable pub freed : Area → List Cell → List Cell
freed a c = map (λ p. (if a.kept p then Empty else cell_at c p)) (points a.size)

-- A stone of the killer's is unsafe if it does not reach empty there: its chain has no liberty in the region, and no kept stone.
abbrev pub is_unsafe : Area → List Cell → ℕ → Bool
is_unsafe a c p = is_captured a.size (freed a c) a.keeper p

unfoldable pub clear_unsafe : Area → List Cell → List Cell
clear_unsafe a c = map (λ p. (if is_unsafe a c p then Empty else cell_at c p)) (points a.size)

-- The state after the other side's move: it takes the unsafe stones, and then its own loose ones may vanish.
abbrev pub after_attack : Area → List Cell → ℕ → List Cell
after_attack a c x = clear_loose a (clear_unsafe a (slice_set c x (theirs a)))

-- The move takes nothing that has a rooted stone beside it, and so nothing beside a point outside: all that is taken is really shut in.
abbrev pub IsSureLoss : Area → List Cell → ℕ → Type 0
IsSureLoss a c x = (p q : ℕ) → IsTrue (is_unsafe a (slice_set c x (theirs a)) p) → IsTrue (adjacent a.size p q) → cell_at c q ≡ theirs a → Rooted a c q → ⊥

-- So many entries, each by its number: a state with the killer to move, and its move.
pub record Entries : Type 0 where
  pub count : ℕ
  pub state : ℕ → List Cell
  pub move : ℕ → ℕ

-- the state after the entry's move
abbrev pub result : Area → Entries → ℕ → List Cell
result a D j = after_answer a (D.state j) (D.move j)

-- One of the targets is not there any more.
abbrev pub IsTaken : Area → Points → List Cell → Type 0
IsTaken a targets c = (p : ℕ) × IsTrue (targets p) × (cell_at c p ≢ theirs a)

-- One of them is not, or an entry of a number below this one has the state.
abbrev pub IsFurther : Area → Points → Entries → ℕ → List Cell → Type 0
IsFurther a targets D bound c = IsTaken a targets c ⊎ ((i : ℕ) × (i < bound) × Fits a c (D.state i))

-- Whatever the other side does in this state, all its losses are sure, and the state after it is further.
pub record IsLost (a : Area) (targets : Points) (D : Entries) (bound : ℕ) (c : List Cell) : Type 0 where
  pub passed : IsFurther a targets D bound c
  pub sure : (x : ℕ) → x < a.size * a.size → cell_at c x ≡ Empty → IsSureLoss a c x
  pub moved : (x : ℕ) → x < a.size * a.size → cell_at c x ≡ Empty → IsFurther a targets D bound (after_attack a c x)

-- The killer's move is at an empty point, and its stone is not unsafe there; then a target is taken, or the other side is lost.
pub record IsEntry (a : Area) (targets : Points) (D : Entries) (j : ℕ) : Type 0 where
  pub walled : IsWalled a (D.state j)
  pub on_board : D.move j < a.size * a.size
  pub empty : cell_at (D.state j) (D.move j) ≡ Empty
  pub stands : IsFalse (is_unsafe a (result a D j) (D.move j))
  pub leads : IsTaken a targets (result a D j) ⊎ IsLost a targets D j (result a D j)

-- The past bars no move of the killer's, who is to move: nothing that has occurred fits what an entry leads to, but for entries after
-- the first one that the board fits.
abbrev pub PastAllowsMove : Area → Entries → List Cell → List (List Cell) → Type 0
PastAllowsMove a D b history = (j : ℕ) → j < D.count → ((i : ℕ) → i < j → Fits a b (D.state i) → ⊥) → (q : List Cell) → IsTrue (has_occurred history q) → Fits a q (result a D j) → ⊥

-- The same where the other side is to move, for all entries before the first one that leads to what the board fits.
abbrev pub PastAllowsReply : Area → Entries → List Cell → List (List Cell) → Type 0
PastAllowsReply a D b history = (j : ℕ) → j < D.count → ((i : ℕ) → i ≤ j → Fits a b (result a D i) → ⊥) → (q : List Cell) → IsTrue (has_occurred history q) → Fits a q (result a D j) → ⊥
