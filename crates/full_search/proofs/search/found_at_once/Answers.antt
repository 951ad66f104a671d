use Rattle.full_search.proofs.Common.{sym, ◌∙◌, subst, Node, node_of_won, Shows, NeitherWins}
use Rattle.full_search.proofs.Showing.{open_last, shows_won}
use Rattle.full_search.proofs.search.found_at_once.Goals as goal

pub returns-in-Some : goal.returns-in-Some
returns-in-Some c = λ s k left e none.
    subst (λ (n : Node). Shows c.in-Some.winner s k n) (sym (node_of_won s.game.size)) (shows_won c.in-Some.winner s k (e ∙ c.in-Some.is))

pub returns-in-None : goal.returns-in-None
returns-in-None c = λ s k left e none.
    subst (λ j. NeitherWins s j) (sym (none c.in-None.is)) (open_last s (e ∙ c.in-None.is))
