use Rattle.pass_alive.proofs.Common.{inl, inr, side_of, number_of, these, areas_in}
use Rattle.pass_alive.proofs.Spaces.{near_beside, beside_near, safe_by_sets, areas_by_chain}
use Rattle.pass_alive.proofs.living.is_safe.Goals as goal

pub returns-else-is_lasting-clause-sound : goal.returns-else-is_lasting-clause-sound
returns-else-is_lasting-clause-sound c held =
    let cells = c.args.board.now in
    let n = side_of cells in
    inr (safe_by_sets n cells (areas_in c.args.colour cells) (these n c.args.stones.now) (number_of n c.args.point) c.args.chain.now c.requires (c.has_two_eyes.ensures.sound held))

pub returns-else-is_lasting-clause-complete : goal.returns-else-is_lasting-clause-complete
returns-else-is_lasting-clause-complete c may =
    let cells = c.args.board.now in
    let n = side_of cells in
    elim may [
      | inl lasting ↦ absurd (cc (c.is_lasting.ensures.1 (lasting.0, lasting.1, beside_near n cells (number_of n c.args.point) c.args.chain.now c.requires lasting.0 lasting.2), c.if-is_lasting.false))
      | inr two ↦ c.has_two_eyes.ensures.complete (areas_by_chain n cells (areas_in c.args.colour cells) (these n c.args.stones.now) (number_of n c.args.point) c.args.chain.now c.requires two)
    ]

pub returns-then-is_lasting-clause-sound : goal.returns-then-is_lasting-clause-sound
returns-then-is_lasting-clause-sound c held =
    let cells = c.args.board.now in
    let n = side_of cells in
    let found = c.is_lasting.ensures.0 c.if-is_lasting.true in
    inl (found.0, found.1, near_beside n cells (number_of n c.args.point) c.args.chain.now c.requires found.0 found.2)
