-- Groups that are safe by answers: one side, the keeper, answers within a region so that its kept stones never fall, though
-- everything outside the region is taken to be the other side's, never to fall, and no liberty. Local states are colourings of the
-- whole board on which all points outside hold stones of the other side. What holds there holds on every board that fits.
--     Area      the kept stones, the region, and the points at which the keeper answers
--     clear_loose a c      what is left when the other side's stones without a liberty are taken, where all points outside are liberties of theirs
--     Replies a W      with these states the keeper's stones stand, if it answers
--     Fits a b c      on the board b the area is as in the state c, as far as it matters
-- Several areas serve at the same time: see `Together`.
use Rattle.std.specs.Prelude.{◌≡◌, ℕ, ◌*◌, ◌<◌, Bool, not, ◌&&◌, ◌⊎◌, IsTrue, List, length, map, slice_set, if◌then◌else◌}
use Rattle.go_points.specs.declared.Colour.{Colour}
use Rattle.go_points.specs.declared.Cell.{Cell}
use Rattle.go_points.specs.declared.Cell.TheVariants.{Empty, Stone}
use Rattle.go_points.specs.Grid.{opponent_of, points, cell_at}
use Rattle.go_points.specs.Reach.{Reaches}
use Rattle.go_points.specs.Clear.{is_captured}
use Rattle.go_chains.specs.Joined.{Joined}

-- A set of points, and one of states, by the test that they pass.
abbrev pub Points : Type 0
Points = ℕ → Bool

abbrev pub States : Type 0
States = List Cell → Bool

-- The rows of the board, the colour that keeps, its kept stones, the region in which it answers, and those points of the region at
-- which it does. Of the kept stones, those that are `held` need no liberty here, since other areas give them one; those that this area
-- `gives` have one here, or are joined to stones that are kept `earlier`, in other areas.
pub record Area : Type 0 where
  pub size : ℕ
  pub keeper : Colour
  pub kept : Points
  pub region : Points
  pub answers : Points
  pub held : Points
  pub earlier : Points
  pub gives : Points

-- What the keeper holds, and what the other side does.
abbrev pub own : Area → Cell
own a = Stone a.keeper

abbrev pub theirs : Area → Cell
theirs a = Stone (opponent_of a.keeper)

-- Is the point neither kept nor of the region?
abbrev pub is_outside : Area → ℕ → Bool
is_outside a p = not (a.kept p) && not (a.region p)

-- A local state: the kept stones stand, and all other points outside the region hold stones of the other side.
pub record IsWalled (a : Area) (c : List Cell) : Type 0 where
  pub full : length c ≡ a.size * a.size
  pub kept : (p : ℕ) → IsTrue (a.kept p) → cell_at c p ≡ own a
  pub outside : (p : ℕ) → p < a.size * a.size → IsTrue (is_outside a p) → cell_at c p ≡ theirs a

-- A stone of the other side's is rooted if it is joined to a point outside: it may not be there in truth, and is never relied on.
abbrev pub Rooted : Area → List Cell → ℕ → Type 0
Rooted a c p = (q : ℕ) × IsTrue (is_outside a q) × Joined a.size c p q

-- The state with nothing outside: there each chain of the other side's that touches the outside has a liberty.
unfoldable pub opened : Area → List Cell → List Cell
opened a c = map (λ p. (if is_outside a p then Empty else cell_at c p)) (points a.size)

-- The other side's stones that do not reach empty there become empty: no others are surely taken.
unfoldable pub clear_loose : Area → List Cell → List Cell
clear_loose a c = map (λ p. (if is_captured a.size (opened a c) (opponent_of a.keeper) p then Empty else cell_at c p)) (points a.size)

-- The state after the other side's move, in which only its own loose stones may vanish, and after the keeper's answer.
abbrev pub after_other : Area → List Cell → ℕ → List Cell
after_other a c x = clear_loose a (slice_set c x (theirs a))

abbrev pub after_answer : Area → List Cell → ℕ → List Cell
after_answer a c r = clear_loose a (slice_set c r (own a))

-- The board fits the state: it has the keeper's stones of the state and no more of them in the region; what is empty there is empty
-- here; and stones of the other side's that are not rooted are there. Nothing is said of what stands outside.
pub record Fits (a : Area) (b c : List Cell) : Type 0 where
  pub has_own : (p : ℕ) → cell_at c p ≡ own a → cell_at b p ≡ own a
  pub no_more : (p : ℕ) → IsTrue (a.region p) → cell_at b p ≡ own a → cell_at c p ≡ own a
  pub has_empty : (p : ℕ) → cell_at c p ≡ Empty → cell_at b p ≡ Empty
  pub has_theirs : (p : ℕ) → cell_at c p ≡ theirs a → (Rooted a c p → ⊥) → cell_at b p ≡ theirs a

-- The stone p reaches empty, or is joined to one of these.
abbrev pub Leans : Area → Points → List Cell → ℕ → Type 0
Leans a stones c p = Reaches a.size c p Empty ⊎ ((q : ℕ) × IsTrue (stones q) × Joined a.size c p q)

-- All stones of the keeper's reach empty in the state, or lean on held ones; those that are given a liberty have one, or lean on earlier
-- ones; and those of the other side's that are not rooted reach empty.
pub record IsAtRest (a : Area) (c : List Cell) : Type 0 where
  pub own : (p : ℕ) → cell_at c p ≡ own a → Leans a a.held c p
  pub given : (p : ℕ) → IsTrue (a.gives p) → Leans a a.earlier c p
  pub theirs : (p : ℕ) → cell_at c p ≡ theirs a → (Rooted a c p → ⊥) → Reaches a.size c p Empty

-- The colouring fits one of these states.
abbrev pub IsKnown : Area → States → List Cell → Type 0
IsKnown a W d = (w : List Cell) × IsTrue (W w) × Fits a d w

-- The keeper may answer at this point.
pub record IsAnswer (a : Area) (W : States) (d : List Cell) (r : ℕ) : Type 0 where
  pub on_board : r < a.size * a.size
  pub allowed : IsTrue (a.answers r)
  pub empty : cell_at d r ≡ Empty
  pub known : IsKnown a W (after_answer a d r)

-- The keeper may pass, or has an answer.
abbrev pub IsAnswered : Area → States → List Cell → Type 0
IsAnswered a W d = IsKnown a W d ⊎ ((r : ℕ) × IsAnswer a W d r)

-- The states are such that whatever the other side plays within the region, no stone of the keeper's is taken, and he may pass or
-- has an answer, after which the state is one of them again.
pub record Replies (a : Area) (W : States) : Type 0 where
  pub inside : (p : ℕ) → IsTrue (a.answers p) → IsTrue (a.region p)
  pub walled : (c : List Cell) → IsTrue (W c) → IsWalled a c
  pub at_rest : (c : List Cell) → IsTrue (W c) → IsAtRest a c
  pub untaken : (c : List Cell) → IsTrue (W c) → (x : ℕ) → x < a.size * a.size → cell_at c x ≡ Empty → (p : ℕ) → cell_at c p ≡ own a → Leans a a.held (slice_set c x (theirs a)) p
  pub answered : (c : List Cell) → IsTrue (W c) → (x : ℕ) → x < a.size * a.size → cell_at c x ≡ Empty → IsAnswered a W (after_other a c x)
