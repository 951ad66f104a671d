use Rattle.cert_check.proofs.Common.{line_values, AcceptsBy}
use Rattle.cert_check.proofs.ShortClaims.{told_wins}
use Rattle.cert_check.proofs.short.check_short.Goals as goal

pub returns-clause-wins : goal.returns-clause-wins
returns-clause-wins g c =
    let q = c.args.problem.now in
    let s = c.args.source.now in
    told_wins q c.check_by.result (λ shape x. AcceptsBy shape g.S.NodeSource.gives (g.S.NodeSource.size s) q s x)
    c.shapes_can_be_told.ensures c.winner_exists.ensures c.not_both_win.ensures c.history.ensures.problem.passes
    (λ shape told x held. c.accepted_short_sides_win.ensures q shape (λ d is. ((told d).0 is).shape) (line_values q.game.size held.taken) x c.history.ensures.problem.present held.accepted)
    c.check_by.ensures.ok
