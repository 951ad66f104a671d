use Rattle.cert_check.proofs.Common.{◌≡◌, suc, None, OnSome, Heard, machine_of, IsReady}
use Rattle.cert_check.proofs.checker.check_by.Given as goal

abbrev pub invariant-loop-count : goal.invariant-loop-count
invariant-loop-count g l =
    (g.S.NodeSource.fault l.initial.source ≡ None
    → (g.S.NodeSource.fault l.source ≡ None) × (g.S.NodeSource.size l.source ≡ g.S.NodeSource.size l.initial.source)
    × Heard l.kind g.S.NodeSource.gives g.S.NodeSource.number (g.S.NodeSource.size l.initial.source) l.problem l.initial.source l.source (machine_of l.judge))
    × OnSome (g.S.NodeSource.fault l.initial.source) (g.S.NodeSource.fault l.source ≡ g.S.NodeSource.fault l.initial.source)
    × (l.judge.problem.now ≡ l.problem)
    × (l.judge.place ≡ suc l.count)
    × IsReady l.judge
