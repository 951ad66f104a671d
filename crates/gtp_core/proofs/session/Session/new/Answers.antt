use Rattle.gtp_core.proofs.Common.{rules, ◌≡◌, subst, IfOk}
use Rattle.gtp_core.specs.declared.session.TheConstants.{FIRST_SIZE}
use Rattle.gtp_core.specs.Session.{new_session}
use Rattle.gtp_core.proofs.session.Session.new.Goals as goal

pub returns-in-Some : goal.returns-in-Some
returns-in-Some c =
    let size : c.in-Some.size ≡ FIRST_SIZE = search rules in
    subst (λ n. IfOk c.with_board.result (λ s. s ≡ new_session n)) size c.with_board.ensures
