use Rattle.std.proofs.Common.{◌-◌, ◌≡◌, ◌≤◌}
use Rattle.std.specs.Io.KnownBytes.{Keeps}
use Rattle.counted_devices.proofs.counting.Counting.ask.Given as goal

-- no interrupted read has given anything
abbrev pub invariant-loop-self : goal.invariant-loop-self
invariant-loop-self g l = Keeps (g.R.Read.remaining l.initial.self.inner) (g.R.Read.remaining l.self.inner)
    × (l.self.faults ≡ l.initial.self.faults) × (l.initial.self.interrupts ≤ 1001 → l.self.interrupts ≤ 1001)

abbrev pub decreases-loop-self : goal.decreases-loop-self
decreases-loop-self g l = 1001 - l.self.interrupts
