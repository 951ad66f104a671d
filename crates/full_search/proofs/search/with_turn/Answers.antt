use Rattle.full_search.proofs.Common.{◌≡◌, sym, ap, ◌∙◌, subst, Colour, opponent_of, ply_of, next, node_of, same_colour-eq, Shows}
use Rattle.full_search.proofs.Showing.{other_side, seen_late, seen_reply, found_won, turn_won}
use Rattle.full_search.proofs.search.with_turn.Goals as goal

pub returns-then-is_side : goal.returns-then-is_side
returns-then-is_side c =
    let x = c.in-Wins.winner in
    let tree = c.in-Wins.tree in
    let same : x ≡ c.args.mover = same_colour-eq x c.args.mover (sym c.is_side.ensures ∙ c.if-is_side.true) in
    λ s k left m e l f. turn_won s k left c.args.turn c.args.mover c.args.seen.now c.args.seen.now tree c.in_ok-won_by-in-Wins.field-0 m e l
    (subst (λ (y : Colour). Shows y (next s (ply_of s.game.size c.args.turn)) k (node_of s.game.size tree)) same (found_won s k left (ply_of s.game.size c.args.turn) c.args.below x tree c.in-Wins.is f))
    c.in_ok-won_by-in-Wins.ensures

pub returns-then-seen : goal.returns-then-seen
returns-then-seen c =
    let x = c.in-Wins.winner in
    let tree = c.in-Wins.tree in
    let other : x ≡ opponent_of c.args.mover = other_side x c.args.mover (sym c.is_side.ensures ∙ c.if-is_side.false) in
    λ s k left m e l f ts seen. seen_late s k ts (ply_of s.game.size c.args.turn) c.args.seen.now (node_of s.game.size tree) c.if-seen.true
    (subst (λ (y : Colour). Shows y (next s (ply_of s.game.size c.args.turn)) k (node_of s.game.size tree)) (other ∙ ap opponent_of (sym m)) (found_won s k left (ply_of s.game.size c.args.turn) c.args.below x tree c.in-Wins.is f))
    seen

pub returns-in_ok-push-in-Wins : goal.returns-in_ok-push-in-Wins
returns-in_ok-push-in-Wins c =
    let x = c.in-Wins.winner in
    let tree = c.in-Wins.tree in
    let other : x ≡ opponent_of c.args.mover = other_side x c.args.mover (sym c.is_side.ensures ∙ c.if-is_side.false) in
    λ s k left m e l f ts seen. seen_reply s k ts c.args.turn c.args.seen.now (record { is_open = c.args.seen.now.is_open; replies = c.push.new.self }) tree c.if-seen.false c.if-seen.false c.in_ok-push-in-Wins.ensures.items
    (subst (λ (y : Colour). Shows y (next s (ply_of s.game.size c.args.turn)) k (node_of s.game.size tree)) (other ∙ ap opponent_of (sym m)) (found_won s k left (ply_of s.game.size c.args.turn) c.args.below x tree c.in-Wins.is f))
    seen
