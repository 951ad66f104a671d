-- A definition for the private calls that write a solution record.
use Rattle.std.specs.Prelude.{Bool, true, false}
use Rattle.target_game.specs.Answers.{AnswerTree, leaf, turn, replies, ReplyTrees, none, reply}

-- Is there just one first turn?
abbrev pub is_one : ReplyTrees → Bool
is_one (reply t a none) = true
is_one _ = false

abbrev pub is_single : AnswerTree → Bool
is_single leaf = false
is_single (turn t a) = true
is_single (replies rs) = is_one rs
