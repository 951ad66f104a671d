-- What is found about a first turn.
use Rattle.std.specs.Prelude.{◌≡◌, ℕ, ◌+◌, Bool, true, false, List, [], ◌∷◌, ◌++◌, length, map, nat_lt, nat_eq, if◌then◌else◌, Option, Some, None, option_map, Ok}
use Rattle.go_points.specs.declared.Cell.{Cell}
use Rattle.go_points.specs.declared.Turn.{Turn}
use Rattle.go_points.specs.Grid.{opponent_of}
use Rattle.go_points.specs.Move.{after_move}
use Rattle.go_points.specs.Place.{Place, number_of}
use Rattle.go_points.specs.Ply.{Ply, pass, move, ply_of}
use Rattle.target_game.specs.State.{GameProblem, start}
use Rattle.target_game.specs.Problem.{problem_of}
use Rattle.target_game.specs.Next.{next}
use Rattle.target_game.specs.Over.{over}
use Rattle.target_game.specs.Wins.{Wins}
use Rattle.proof_cert.specs.Certificate.{claim_of}
use Rattle.cert_check.specs.Expand.{first_turn}
use Rattle.first_moves.specs.declared.judged.Judged.{Judged}
use Rattle.first_moves.specs.declared.judged.Judged.TheVariants as judged
use Rattle.first_moves.specs.declared.found.Found.{Found}
use Rattle.first_moves.specs.declared.found.Solution.{Solution}
use Rattle.first_moves.specs.declared.found.Solution.TheVariants as solutions

-- the problem with this history and this place, with the other side to move, and with the targets and the region of another problem
abbrev pub IsProblemWith : GameProblem → List (List Cell) → ℕ → ℕ → GameProblem → Type 0
IsProblemWith q history place passes later =
    (targets : List Place) × (region : List Place)
    × (map (number_of q.game.size) targets ≡ q.game.targets) × (map (number_of q.game.size) region ≡ q.game.region)
    × (problem_of history place (opponent_of q.mover) passes targets region ≡ Ok later)

-- The problem after a turn of another: a pass adds one to the passes in a row, a move ends them, and its colouring comes last.
abbrev pub IsProblemAfter : GameProblem → Ply → GameProblem → Type 0
IsProblemAfter q pass later = IsProblemWith q q.history q.place (q.passes + 1) later
IsProblemAfter q (move p) later =
    IsProblemWith q (q.history ++ after_move q.game.size (start q).colouring q.mover p ∷ []) (length q.history) 0 later

-- The mover wins after a turn that is right, and there is a claim for the problem itself that begins with it. After a turn that is
-- refuted the other side wins the problem after it, and there is a claim for that problem; a turn that ends the game has lost it at
-- once. Nothing is said about a turn that is unknown.
abbrev pub IsJudged : GameProblem → Ply → Judged → Type 0
IsJudged q t (judged.Right checked) =
    (checked.problem ≡ q) × ((claim_of checked.certificate).winner ≡ q.mover) × (first_turn (claim_of checked.certificate) (start q) ≡ Some t)
    × Wins q.mover (next (start q) t)
IsJudged q t (judged.Refuted checked) =
    IsProblemAfter q t checked.problem × ((claim_of checked.certificate).winner ≡ opponent_of q.mover)
    × Wins (opponent_of q.mover) (start checked.problem)
IsJudged q t judged.Ends = over (next (start q) t) ≡ Some (opponent_of q.mover)
IsJudged q t judged.Unknown = Unit

-- The reply that refutes a turn is the first turn of the claim that shows it.
abbrev pub IsReply : Judged → Option Turn → Type 0
IsReply (judged.Right checked) reply = reply ≡ None
IsReply (judged.Refuted checked) reply =
    option_map (ply_of checked.problem.game.size) reply ≡ first_turn (claim_of checked.certificate) (start checked.problem)
IsReply judged.Ends reply = reply ≡ None
IsReply judged.Unknown reply = reply ≡ None

-- This turn was judged.
abbrev pub IsFound : GameProblem → Ply → Found → Type 0
IsFound q t f = (ply_of q.game.size f.turn ≡ t) × IsJudged q t f.judged × IsReply f.judged f.reply

-- Each of these turns was judged, in this order, and nothing else was.
abbrev pub AreJudged : GameProblem → List Ply → List Found → Type 0
AreJudged q [] [] = Unit
AreJudged q (t ∷ ts) (f ∷ fs) = IsFound q t f × AreJudged q ts fs
AreJudged q [] (f ∷ fs) = ⊥
AreJudged q (t ∷ ts) [] = ⊥

-- Whether the mover wins by a turn, and whether nothing is known about it.
abbrev pub is_right : Judged → Bool
is_right (judged.Right checked) = true
is_right (judged.Refuted checked) = false
is_right judged.Ends = false
is_right judged.Unknown = false

abbrev pub is_unknown : Judged → Bool
is_unknown (judged.Right checked) = false
is_unknown (judged.Refuted checked) = false
is_unknown judged.Ends = false
is_unknown judged.Unknown = true

-- How many of the turns were judged in this way.
abbrev pub count : (Judged → Bool) → List Found → ℕ
count test [] = 0
count test (f ∷ fs) = (if test f.judged then 1 else 0) + count test fs

-- What is known about the solution, from how many turns win and how many are unknown: it is unique if one turn wins and every other
-- turn is known to lose.
abbrev pub solution_of : ℕ → ℕ → Solution
solution_of winning unknown =
    if nat_lt 0 unknown then solutions.Open
    else (if nat_eq winning 0 then solutions.Lost
    else (if nat_eq winning 1 then solutions.Unique
    else solutions.Several))
