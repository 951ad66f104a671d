-- What is found of the mover's later turns on a line.
use Rattle.std.specs.Prelude.{◌≡◌, ◌≤◌, ◌-◌, ℕ, Bool, ◌&&◌, nat_eq, List, [], ◌∷◌, ◌++◌, length}
use Rattle.std.specs.List.{All}
use Rattle.go_points.specs.declared.Turn.{Turn}
use Rattle.go_points.specs.Ply.{ply_of}
use Rattle.target_game.specs.State.{GameProblem, start}
use Rattle.target_game.specs.Legal.{legal_turns}
use Rattle.first_moves.specs.declared.line.Position.{Position}
use Rattle.first_moves.specs.declared.line.Later.{Later}
use Rattle.first_moves.specs.declared.line_solution.LineSolution.{LineSolution}
use Rattle.first_moves.specs.declared.line_solution.LineSolution.TheVariants as lines
use Rattle.first_moves.specs.Judged.{IsProblemAfter, AreJudged, count, is_right, is_unknown}

-- The problem that these turns lead to from another, each made in the problem that those before it lead to.
abbrev pub IsReached : GameProblem → List Turn → GameProblem → Type 0
IsReached q [] reached = reached ≡ q
IsReached q (t ∷ ts) reached = (after : GameProblem) × IsProblemAfter q (ply_of q.game.size t) after × IsReached after ts reached

-- A position of a line is the problem that its turns lead to.
abbrev pub IsPosition : GameProblem → Position → Type 0
IsPosition q p = IsReached q p.turns.items p.problem

-- the position one turn later
abbrev pub IsNext : Position → Turn → Position → Type 0
IsNext p t next =
    (next.turns.items ≡ p.turns.items ++ t ∷ []) × IsProblemAfter p.problem (ply_of p.problem.game.size t) next.problem

-- Of a later turn each legal one was judged, and nothing else, in the problem that the turns before it lead to.
abbrev pub IsLater : GameProblem → Later → Type 0
IsLater q later =
    IsPosition q later.position
    × AreJudged later.position.problem (legal_turns (start later.position.problem)) later.found.items

-- Each position is two turns after the one before; the first is two turns after these.
abbrev pub AreAlong : List Turn → List Later → Type 0
AreAlong before [] = Unit
AreAlong before (l ∷ later) =
    (t reply : Turn) × (l.position.turns.items ≡ (before ++ t ∷ []) ++ reply ∷ []) × AreAlong l.position.turns.items later

-- Later turns on one line of play of the problem, with its first turn no more than so many.
abbrev pub AreLater : ℕ → GameProblem → List Later → Type 0
AreLater depth q later = All (IsLater q) later × AreAlong [] later × (length later ≤ depth - 1)

-- Does one turn win there, and is every other known to lose?
abbrev pub has_one : Later → Bool
has_one later = nat_eq (count is_right later.found.items) 1 && nat_eq (count is_unknown later.found.items) 0

-- what is claimed of the number of a turn, if a line is unique to it; elsewhere nothing is
abbrev pub IfUnique : LineSolution → (ℕ → Type 0) → Type 0
IfUnique (lines.Unique n) claim = claim n
IfUnique (lines.Several n) claim = Unit
IfUnique (lines.Open n k) claim = Unit
IfUnique lines.Lost claim = Unit
