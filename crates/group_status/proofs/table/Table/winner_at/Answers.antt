use Rattle.std.proofs.Common.{◌≡◌, Some, IfSome, slice_get, sym, ap, subst, ◌∙◌}
use Rattle.group_words.specs.Sides.{colour_of}
use Rattle.target_game.specs.State.{start}
use Rattle.target_game.specs.Wins.{Wins}
use Rattle.group_status.proofs.Winners.{found_at}
use Rattle.group_status.proofs.table.Table.winner_at.Goals as goal

-- src/table.rt:76:5
pub returns-in-Some : goal.returns-in-Some
returns-in-Some c =
    let a = c.in_ok-asked.asked.now in
    let k = c.in_ok-place.field-0 in
    let there : slice_get c.args.self.now.asked.items k ≡ Some a = subst (λ xs. slice_get xs k ≡ Some a) c.deref.ensures.value (found_at c.deref.result.now k c.get.result c.in_ok-asked.asked c.get.ensures.lookup.1 c.get.ensures.lookup.3 c.in_ok-asked.was) in
    let won : a.winner ≡ Some (colour_of c.of.result c.args.defender) = c.in-Some.is ∙ ap Some (sym c.of.ensures) in
    (k, a, c.in_ok-place.was, there, won, subst (λ o. ∥ IfSome o (λ w. Wins w (start a.problem)) ∥₁) won a.wins)
