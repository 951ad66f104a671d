-- The answer tree of the definitions that an answer tree of the program stands for, on a board of n rows and n columns.
use Rattle.std.specs.Prelude.{ℕ, List, [], ◌∷◌, map}
use Rattle.go_points.specs.declared.Turn.{Turn}
use Rattle.go_points.specs.Ply.{ply_of}
use Rattle.target_game.specs.Answers.{AnswerTree, leaf, turn, replies, ReplyTrees, none, reply}
use Rattle.solution_tree.specs.declared.answer.Answer as code
use Rattle.solution_tree.specs.declared.answer.Answer.TheOpen.{Answer-F}
use Rattle.solution_tree.specs.declared.answer.Answer.TheFolds.{fold-Answer}

abbrev pub trees_of : ℕ → List (Turn × AnswerTree) → ReplyTrees
trees_of n [] = none
trees_of n (r ∷ rs) = reply (ply_of n r.0) r.1 (trees_of n rs)

-- one step, with the tree of each answer below it in its place
abbrev pub answer_step : ℕ → Answer-F AnswerTree → AnswerTree
answer_step n Answer-F.Won = leaf
answer_step n (Answer-F.Turn t below) = turn (ply_of n t) below.value
answer_step n (Answer-F.Replies all) = replies (trees_of n all.items)

unfoldable pub answer_of : ℕ → code.Answer → AnswerTree
answer_of n = fold-Answer AnswerTree (answer_step n)

abbrev pub replies_of : ℕ → List (Turn × code.Answer) → ReplyTrees
replies_of n rs = trees_of n (map (λ r. (r.0, answer_of n r.1)) rs)
