-- When a search may end without an answer.
--     full_steps budget      the steps that full search has
--     cause_told why      what is told if the checker refused the claim for this reason
--     IsHard q budget      no side can force a win that full search would have found with those steps
use Rattle.std.specs.Prelude.{ℕ, ◌+◌, ◌*◌, ◌/◌, ◌<◌, ◌≤◌, min, IsTrue}
use Rattle.go_points.specs.declared.Colour.{Colour}
use Rattle.target_game.specs.State.{GameProblem, start}
use Rattle.target_game.specs.Wins.{wins, nodes}
use Rattle.cert_check.specs.Checked.{CheckedClaim}
use Rattle.cert_check.specs.declared.reject.Why.{Why}
use Rattle.cert_check.specs.declared.reject.Why.TheVariants as why
use Rattle.pn_search.specs.declared.verdict.Cause.{Cause}
use Rattle.pn_search.specs.declared.verdict.Cause.TheVariants.{Memory, NotConfirmed, Limit}
use Rattle.pn_search.specs.declared.verdict.Verdict.{Verdict}
use Rattle.pn_search.specs.declared.verdict.Verdict.TheVariants.{Wins, Unknown}

-- A tenth of the budget, rounded down, and at most 10,000,000.
abbrev pub full_steps : ℕ → ℕ
full_steps budget = min (budget / 10) 10000000

-- A limit and refused memory are told as such, everything else as not confirmed.
abbrev pub cause_told : Why → Cause
cause_told why.Limit = Limit
cause_told why.Memory = Memory
cause_told other = NotConfirmed

-- No side can force a win within any k ≤ 200 turns for which k + 1 times the number of states of the tree of all legal play is at
-- most the steps of full search.
abbrev pub IsHard : GameProblem → ℕ → Type 0
IsHard q budget = (x : Colour) (k : ℕ) → k ≤ 200 → IsTrue (wins x (start q) k) → full_steps budget < (k + 1) * nodes (start q) k

-- What is said of a verdict that names a winner, and of one that does not.
abbrev pub IfWins : Verdict → (CheckedClaim → Type 0) → Type 0
IfWins (Wins c) Said = Said c
IfWins (Unknown problem cause steps) Said = Unit {0}

abbrev pub IfUnknown : Verdict → (GameProblem → Cause → ℕ → Type 0) → Type 0
IfUnknown (Wins c) Said = Unit {0}
IfUnknown (Unknown problem cause steps) Said = Said problem cause steps
