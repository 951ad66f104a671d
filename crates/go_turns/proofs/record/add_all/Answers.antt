-- The next colouring of a history without repeats is none of those before it.
use Rattle.go_turns.proofs.Common.{rules, ◌≡◌, List, take, None, sym, subst, Cell, place_in}
use Rattle.go_turns.proofs.Repeats.{next_is_new}
use Rattle.go_turns.proofs.record.add_all.Goals as goal

pub add-requires : goal.add-requires
add-requires g c =
    let history = c.args.history.now in
    let i = c.loop-colouring.colouring-index in
    rw c.loop-colouring.invariant (subst (λ (x : List Cell). place_in (take i history) x ≡ None) (sym c.colouring-item.is) (next_is_new history i c.colouring-item.result (search rules) c.requires.once))
