-- What a budget of steps still allows.
use Rattle.std.specs.Prelude.{ℕ, ◌+◌, ◌*◌}
use Rattle.state_proofs.specs.declared.steps.Steps.{Steps}

-- how many rounds of loops a budget still allows: those that are paid for, and for each step that is left the 1,024 that it pays for
-- and one for itself
abbrev pub work : Steps → ℕ
work s = s.left * 1025 + s.rounds
