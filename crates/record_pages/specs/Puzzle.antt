-- Who is said to win the problem of a record that is made into a page to click.
use Rattle.std.specs.Prelude.{◌≡◌, ℕ, List, ◌++◌, codes, Ok, Some}
use Rattle.go_points.specs.declared.Colour.{Colour}
use Rattle.go_points.specs.declared.Colour.TheVariants.{Black, White}
use Rattle.sgf_text.specs.Trees.{GameTree}
use Rattle.target_game.specs.State.{GameProblem}
use Rattle.tsumego_problem.specs.Walk.{problem_within, history_limit}
use Rattle.solution_tree.specs.Audit.{audit}
use Rattle.record_pages.specs.declared.puzzle.Answer.{Answer}
use Rattle.record_pages.specs.declared.puzzle.Answer.TheVariants.{Audited, Unaudited, Judged}

-- The audit of the record names the winner that is said to be audited. Of a winner that the record's comment names, and of turns
-- that are judged one by one, nothing is said.
abbrev pub HasAuditedWinner : GameProblem → GameTree → Answer → Type 0
HasAuditedWinner q tree (Audited winner) = audit q tree ≡ Ok winner
HasAuditedWinner q tree (Unaudited winner) = Unit {0}
HasAuditedWinner q tree Judged = Unit {0}

abbrev pub side_text : Colour → List ℕ
side_text Black = codes "black"
side_text White = codes "white"

-- who is said to win, in the data of a page to click, and whether nobody audited that
abbrev pub winner_field : Colour → List ℕ
winner_field x = codes ",\"winner\":\"" ++ (side_text x ++ codes "\"")

abbrev pub answer_text : Answer → List ℕ
answer_text (Audited winner) = winner_field winner
answer_text (Unaudited winner) = winner_field winner ++ codes ",\"unaudited\":true"
answer_text Judged = codes ""

-- The data of a record: they say who wins its problem as the audit does, or that nobody audited it.
abbrev pub SaysAnswer : GameTree → List ℕ → Type 0
SaysAnswer tree text = (q : GameProblem) × (answer : Answer) × (front rest : List ℕ)
    × (problem_within (Some history_limit) tree ≡ Ok q) × HasAuditedWinner q tree answer × (text ≡ front ++ (answer_text answer ++ rest))
