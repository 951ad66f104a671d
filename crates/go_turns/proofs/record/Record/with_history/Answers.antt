-- The point that the board names is that of the definition.
use Rattle.go_turns.proofs.Common.{◌≡◌, List, [], None, Err, sym, ◌∙◌, subst, get_or_default, Cell, side_of, first_without_liberty, NoLiberty, Moment, with_liberties, Opens}
use Rattle.std.proofs.Common.{slice_index_or}
use Rattle.go_turns.proofs.Openings.{opens_refused}
use Rattle.go_turns.proofs.record.Record.with_history.Goals as goal

pub returns-in-Err : goal.returns-in-Err
returns-in-Err g c =
    let history = c.args.history.now in
    let place = c.args.place in
    let colouring : List Cell = c.index-history-place.result in
    let same : slice_index_or history place [] ≡ colouring = get_or_default history place [] colouring c.requires.within ∙ sym c.index-history-place.is in
    let moment : Moment = record { history = history; place = place; passes = c.args.passes; last_colour = None } in
    subst (λ (x : List Cell). Opens (side_of x) (with_liberties (side_of x) (first_without_liberty (side_of x) x) moment) (Err (NoLiberty c.in-Err.refused.point))) (sym same)
    (opens_refused (side_of colouring) (first_without_liberty (side_of colouring) colouring) moment c.in-Err.refused.point c.in-Err.ensures.fault c.in-Err.ensures.fault_on_board)
