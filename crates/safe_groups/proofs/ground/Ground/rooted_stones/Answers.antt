use Rattle.safe_groups.proofs.Common.{◌≡◌, ◌∙◌, ap, opponent_of, side_of, area_of}
unfoldable use Rattle.go_points.specs.Clear.{clear}
use Rattle.safe_groups.proofs.Grounds.{left_rooted}
use Rattle.safe_groups.proofs.ground.Ground.rooted_stones.Goals as goal

pub returns-clause-rooted : goal.returns-clause-rooted
returns-clause-rooted c =
    let n = side_of c.args.self.now.cells in
    let s = c.shut.result in
    let k = opponent_of c.args.self.now.keeper in
    let same : c.cleared.result ≡ clear n s k = c.cleared.ensures.value ∙ ap (λ m. clear m s c.opponent.result) c.shut.ensures.side ∙ ap (clear n s) c.opponent.ensures in
    left_rooted (area_of c.args.self.now) c.args.state.now s c.requires.walled c.shut.ensures.cells c.cleared.result same
