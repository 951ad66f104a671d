use Rattle.target_game.proofs.Common.{◌≡◌, ◌*◌, ◌++◌, ◌≤◌, length, map, ap, ◌∙◌, arith, length-map, length-append, ply_of, legal_turns, turns_due}
use Rattle.target_game.proofs.Due.{turns_begun, turns_few, some_taken}
use Rattle.target_game.proofs.state.State.turns.Goals as goal

pub loop-turn-init : goal.loop-turn-init
loop-turn-init g c =
    let s = c.args.self.now.state in
    ap (λ xs. map (ply_of s.game.size) xs ++ turns_due s c.all-left.result.next) c.new-all.ensures ∙ ap (turns_due s) c.all-left.ensures ∙ turns_begun s

pub push-requires : goal.push-requires
push-requires g c =
    let s = c.args.self.now.state in
    let xs = c.loop-turn.all.items in
    let whole : length (map (ply_of s.game.size) xs ++ turns_due s c.loop-turn.left.next) ≡ length (legal_turns s) = ap length c.loop-turn.invariant in
    let some : 1 ≤ length (turns_due s c.loop-turn.left.next) = some_taken (turns_due s c.loop-turn.left.next) _ _ c.in-Some.ensures.0 in
    let size : c.size.result * c.size.result ≡ s.game.size * s.game.size = ap (λ m. m * m) c.size.ensures in
    (omega arith, omega (arith, whole, some, size, length-append (map (ply_of s.game.size) xs) (turns_due s c.loop-turn.left.next), length-map xs (ply_of s.game.size), turns_few s, c.area-most.ensures.value, c.area-most.ensures.most_points))
