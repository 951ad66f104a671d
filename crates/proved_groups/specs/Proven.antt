-- What a judge has accepted of the stones of a finding.
use Rattle.std.specs.Prelude.{◌≡◌, ◌⊎◌, ℕ, IsTrue, List, [], Option, Some, codes}
use Rattle.go_points.specs.declared.Colour.{Colour}
use Rattle.go_points.specs.Grid.{opponent_of}
use Rattle.go_points.specs.Place.{Place}
use Rattle.go_points.specs.Points.{holds_place}
use Rattle.target_game.specs.State.{GameProblem, start}
use Rattle.safe_groups.specs.Ground.{IsSafeAs}
use Rattle.safe_groups.specs.Laws.{IsSafe}
use Rattle.proved_groups.specs.Dead.{IsLost, IsLostByMove}
use Rattle.proved_groups.specs.Position.{IsOfStones}
use Rattle.proved_groups.specs.declared.proven.Accepted.{Accepted}
use Rattle.proved_groups.specs.declared.proven.Accepted.TheVariants as all
use Rattle.proved_groups.specs.declared.proven.AcceptedByMove.{AcceptedByMove}
use Rattle.proved_groups.specs.declared.proven.AcceptedByMove.TheVariants as one
use Rattle.proved_groups.specs.declared.proven.Proven.{Proven}
use Rattle.proved_groups.specs.declared.proven.ProvenByMove.{ProvenByMove}

-- the problem whose targets these stones are, and the stones that are only supposed to stand
abbrev pub problem_of : Accepted → GameProblem
problem_of (all.Alive safe) = safe.problem
problem_of (all.Dead dead) = dead.problem

abbrev pub supposed_of : Accepted → List Place
supposed_of (all.Alive safe) = []
supposed_of (all.Dead dead) = dead.supposed

-- What the word says: whoever moves first, they are safe by answers, or dead by answers.
abbrev pub SaysStatus : Accepted → List ℕ → Type 0
SaysStatus a text =
    ((text ≡ codes "alive") × ∥ IsSafe (start (problem_of a)) ∥₁)
    ⊎ ((text ≡ codes "dead") × ∥ IsLost (problem_of a) (supposed_of a) ∥₁)

-- Who wins, whoever moves first: the defender where they are safe, the other side where they are dead.
abbrev pub SaysWinner : Accepted → Colour → Type 0
SaysWinner a x =
    ((x ≡ (problem_of a).game.defender) × ∥ IsSafe (start (problem_of a)) ∥₁)
    ⊎ ((x ≡ opponent_of (problem_of a).game.defender) × ∥ IsLost (problem_of a) (supposed_of a) ∥₁)

-- The same where one side moves first, who is to move.
abbrev pub problem_by_move : AcceptedByMove → GameProblem
problem_by_move (one.Alive safe) = safe.problem
problem_by_move (one.Dead dead) = dead.problem

abbrev pub supposed_by_move : AcceptedByMove → List Place
supposed_by_move (one.Alive safe) = []
supposed_by_move (one.Dead dead) = dead.supposed

-- They live once their owner has played at this point, or die by some move of the other side's.
abbrev pub LivesBy : AcceptedByMove → Place → Type 0
LivesBy a m = ∥ IsSafeAs (Some m) (start (problem_by_move a)) ∥₁

abbrev pub Dies : AcceptedByMove → Type 0
Dies a = ∥ IsLostByMove (problem_by_move a) (supposed_by_move a) ∥₁

-- The words are for what becomes of them: that they live, by this first move, or that they die.
abbrev pub SaysBy : List ℕ → List ℕ → AcceptedByMove → Option Place → List ℕ → Type 0
SaysBy lives dies a first text = ((text ≡ lives) × (m : Place) × (first ≡ Some m) × LivesBy a m) ⊎ ((text ≡ dies) × Dies a)

abbrev pub SaysEnd : AcceptedByMove → Option Place → List ℕ → Type 0
SaysEnd a first text = SaysBy (codes "lives") (codes "dies") a first text

abbrev pub SaysStatusAfter : AcceptedByMove → Option Place → List ℕ → Type 0
SaysStatusAfter a first text = SaysBy (codes "alive") (codes "dead") a first text

-- Who moves first decides.
abbrev pub SaysWinnerByMove : AcceptedByMove → Colour → Type 0
SaysWinnerByMove a x = (x ≡ (problem_by_move a).mover) × (((m : Place) × LivesBy a m) ⊎ Dies a)

-- The stones of the finding are the targets, in the position of q with its past; the point is one of them.
abbrev pub IsAbout : GameProblem → Proven → Type 0
IsAbout q p = IsOfStones q p.finding.stones (problem_of p.claim)

abbrev pub IsAboutByMove : GameProblem → ProvenByMove → Type 0
IsAboutByMove q p = IsOfStones q p.finding.stones (problem_by_move p.claim)

abbrev pub IsOfStone : GameProblem → Place → Proven → Type 0
IsOfStone q point p = IsTrue (holds_place p.finding.stones point) × IsAbout q p

abbrev pub IsOfStoneByMove : GameProblem → Place → ProvenByMove → Type 0
IsOfStoneByMove q point p = IsTrue (holds_place p.finding.stones point) × IsAboutByMove q p

-- Both are about the group of one stone in one position.
abbrev pub AreOfOneStone : ProvenByMove → ProvenByMove → Type 0
AreOfOneStone attack defence =
    (q : GameProblem) × (point : Place) × IsOfStoneByMove q point attack × IsOfStoneByMove q point defence
