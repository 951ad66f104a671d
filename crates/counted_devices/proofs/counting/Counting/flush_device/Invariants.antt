use Rattle.std.proofs.Common.{◌-◌, ◌≡◌, ◌≤◌}
use Rattle.std.specs.Io.KnownBytes.{Keeps}
use Rattle.counted_devices.proofs.counting.Counting.flush_device.Given as goal

-- no interrupted flush has changed what was taken
abbrev pub invariant-loop-self : goal.invariant-loop-self
invariant-loop-self g l = Keeps (g.W.Write.contents l.initial.self.inner) (g.W.Write.contents l.self.inner)
    × (l.self.faults ≡ l.initial.self.faults) × (l.initial.self.interrupts ≤ 1001 → l.self.interrupts ≤ 1001)

abbrev pub decreases-loop-self : goal.decreases-loop-self
decreases-loop-self g l = 1001 - l.self.interrupts
