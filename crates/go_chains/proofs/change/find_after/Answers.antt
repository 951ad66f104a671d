use Rattle.go_chains.proofs.Common.{◌≡◌, ℕ, None, subst, side_of, first_without_liberty}
use Rattle.go_chains.proofs.Changed.{all_live}
use Rattle.go_chains.proofs.change.find_after.Goals as goal

pub returns-then-live_where_new-clause-none : goal.returns-then-live_where_new-clause-none
returns-then-live_where_new-clause-none c =
    let before = c.args.before.now in
    let now = c.args.colouring.now in
    all_live (side_of now) before now (c.live_where_new.ensures c.if-live_where_new.true) (subst (λ (m : ℕ). first_without_liberty m before ≡ None) c.requires.same_size c.requires.lived)
