-- What is written of a group after a move, where an answer to it is proved.
--     after_text, after_fields      the line, and the same in the data
use Rattle.std.specs.Prelude.{◌≡◌, ℕ, List, [], Option, Some, None, ◌++◌, codes}
use Rattle.go_points.specs.declared.Colour.{Colour}
use Rattle.go_points.specs.Place.{Place}
use Rattle.tool_parts.specs.Says.{colour_text, letter_text}
use Rattle.proved_groups.specs.Proven.{problem_by_move, SaysStatus, SaysStatusAfter}
use Rattle.proved_groups.specs.declared.proven.Proven.{Proven}
use Rattle.proved_groups.specs.declared.proven.ProvenByMove.{ProvenByMove}
use Rattle.group_status.specs.Lines.{condition_of_claim, condition_by_move}
use Rattle.group_status.specs.Names.{name_text}
use Rattle.group_status.specs.declared.answer_lines.MoveAsked.{MoveAsked}

abbrev pub after_text : MoveAsked → List ℕ → List ℕ → List ℕ → List ℕ
after_text m status condition end =
    name_text m.size m.target ++ (codes ": " ++ (status ++ (codes " (proved" ++ (condition ++ (codes ") after "
    ++ (colour_text m.mover ++ (codes " " ++ (name_text m.size m.point ++ end))))))))

-- the answer, if it is known
abbrev pub reply_name : ℕ → Option Place → List ℕ
reply_name n None = []
reply_name n (Some first) = name_text n first

abbrev pub end_text : ℕ → Colour → Option Place → List ℕ
end_text n mover first = codes ", " ++ (colour_text mover ++ (codes " " ++ (reply_name n first ++ codes "\n")))

-- The group has its status though nothing is played next.
abbrev pub IsPassLine : MoveAsked → Proven → List ℕ → Type 0
IsPassLine m proven text =
    (status : List ℕ) × SaysStatus proven.claim status
    × (text ≡ after_text m status (condition_of_claim m.size proven.claim) (codes ", which needs no answer\n"))

-- It has it by the answer, which is played next.
abbrev pub IsReplyLine : MoveAsked → ProvenByMove → List ℕ → Type 0
IsReplyLine m proven text =
    (first : Option Place) × (status : List ℕ) × SaysStatusAfter proven.claim first status
    × (text ≡ after_text m status (condition_by_move m.size proven.claim) (end_text m.size (problem_by_move proven.claim).mover first))

abbrev pub after_fields : MoveAsked → List ℕ → List ℕ → List ℕ
after_fields m status answer =
    codes ",\"first\":\"" ++ (letter_text m.mover ++ (codes "\",\"move\":\"" ++ (name_text m.size m.point ++ (codes "\",\"status\":\""
    ++ (status ++ (codes "\",\"word\":\"proved\",\"answer\":\"" ++ (answer ++ codes "\"")))))))

abbrev pub IsPassFields : MoveAsked → Proven → List ℕ → Type 0
IsPassFields m proven text = (status : List ℕ) × SaysStatus proven.claim status × (text ≡ after_fields m status (codes "pass"))

abbrev pub IsReplyFields : MoveAsked → ProvenByMove → List ℕ → Type 0
IsReplyFields m proven text =
    (first : Option Place) × (status : List ℕ) × SaysStatusAfter proven.claim first status
    × (text ≡ after_fields m status (reply_name m.size first))
