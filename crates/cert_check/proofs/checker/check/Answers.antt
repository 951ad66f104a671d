use Rattle.cert_check.proofs.Common.{refl, nowhere, line_values, if_ok_map}
use Rattle.cert_check.proofs.Reading.{accepted_sides_win}
use Rattle.cert_check.proofs.checker.check.Goals as goal

pub returns-clause-ok : goal.returns-clause-ok
returns-clause-ok g c = c.check_by.ensures.ok nowhere (λ d. refl)

pub returns-clause-wins : goal.returns-clause-wins
returns-clause-wins g c =
    let q = c.args.problem.now in
    if_ok_map c.check_by.result _ _ (λ x held. accepted_sides_win q (line_values q.game.size held.taken) x c.history.ensures.problem.present held.accepted) (c.check_by.ensures.ok nowhere (λ d. refl))

pub returns-clause-err : goal.returns-clause-err
returns-clause-err g c = c.check_by.ensures.err nowhere (λ d. refl)

pub returns-clause-read : goal.returns-clause-read
returns-clause-read g c = c.check_by.ensures.read nowhere (λ d. refl)

pub returns-clause-memory : goal.returns-clause-memory
returns-clause-memory g c = c.check_by.ensures.memory nowhere (λ d. refl)
