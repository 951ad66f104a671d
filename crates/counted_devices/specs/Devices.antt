-- When a device counts as failed.
--     HasFailed faults interrupts      the device failed, by what was counted
--     Counts result before faults interrupts      what is counted after a call, for the failures counted before it
use Rattle.std.specs.Prelude.{◌≡◌, ℕ, ◌+◌, ◌<◌, ◌≤◌, min, ◌⊎◌, Result, MatchResult}

-- how often a device may be interrupted
abbrev pub interrupt_limit : ℕ
interrupt_limit = 1000

-- a call failed, or too many were interrupted
abbrev pub HasFailed : ℕ → ℕ → Type 0
HasFailed faults interrupts = (0 < faults) ⊎ (interrupt_limit < interrupts)

-- the greatest number of 64 bits, which stands for all greater ones
abbrev pub most_faults : ℕ
most_faults = 18446744073709551615

-- An answer adds no failure. An error adds one; or it says that the device was interrupted once too often, and adds none.
abbrev pub Counts : {T E : Type 0} → Result T E → ℕ → ℕ → ℕ → Type 0
Counts result before faults interrupts =
    MatchResult result
    (λ _. (faults ≡ before) × (interrupts ≤ interrupt_limit))
    (λ _. ((faults ≡ min (before + 1) most_faults) × (interrupts ≤ interrupt_limit)) ⊎ ((faults ≡ before) × (interrupts ≡ interrupt_limit + 1)))
