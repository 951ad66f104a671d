-- Of which stone a proof is, in which position.
use Rattle.std.specs.Prelude.{◌≡◌, Option, Some, None}
use Rattle.go_points.specs.declared.Colour.{Colour}
use Rattle.go_points.specs.Place.{Place}
use Rattle.target_game.specs.State.{GameProblem, start}
use Rattle.group_words.specs.declared.side.Side.{Side}
use Rattle.group_words.specs.Sides.{colour_of}
use Rattle.proved_groups.specs.After.{IsAnswerTo}
use Rattle.proved_groups.specs.Proven.{problem_by_move, IsOfStone, IsOfStoneByMove}
use Rattle.proved_groups.specs.declared.move_answer.AnswerTo.{AnswerTo}
use Rattle.group_status.specs.declared.answer_lines.MoveAsked.{MoveAsked}
use Rattle.group_status.specs.declared.move_proof.Decided.{Decided}
use Rattle.group_status.specs.declared.move_proof.Decided.TheVariants as decided
use Rattle.group_status.specs.declared.proof.Proof.{Proof}
use Rattle.group_status.specs.declared.proof.Proof.TheVariants.{Shape, Answers}

-- The proof is about the stone at the point in the position of q; an accepted claim also counts the past of q.
abbrev pub IsProofOf : GameProblem → Place → Proof → Type 0
IsProofOf q point (Shape shape proven) = (shape.colouring ≡ (start q).colouring) × (shape.stone ≡ point)
IsProofOf q point (Answers proven) = IsOfStone q point proven

-- So are both first moves, if both sides are asked about, and else the one of the side that is asked about.
abbrev pub IsDecisionOf : GameProblem → Place → Colour → Option Side → Decided → Type 0
IsDecisionOf q point defender first (decided.Unsettled both) =
    (first ≡ None) × IsOfStoneByMove q point both.attack.now × IsOfStoneByMove q point both.defence.now
IsDecisionOf q point defender first (decided.Wins proven) =
    (side : Side) × (first ≡ Some side) × ((problem_by_move proven.now.claim).mover ≡ colour_of side defender)
    × IsOfStoneByMove q point proven.now

-- The names are those of the group and of the move, and what is proved is proved of that group after that move.
abbrev pub IsToldOf : GameProblem → Place → MoveAsked → AnswerTo → Type 0
IsToldOf q target m answer = (m.size ≡ q.game.size) × (m.target ≡ target) × IsAnswerTo q target m.mover m.point answer
